-- The rules that are told at heads and at statements are those that are broken.
use Rattle.std.proofs.Common.{◌≡◌, ℕ, zero, suc, ◌<◌, ◌⊎◌, inl, inr, Bool, true, false, List, [], ◌∷◌, refl, ap, subst, ◌∙◌, arith}
use Rattle.std.specs.Prelude.{IsTrue, Option, Some, None, slice_get, ◌==◌}
use Rattle.fort_model.specs.CallRules.{lacks_block, mismatches, some_call}
use Rattle.fort_model.specs.Calls.{Reaches}
use Rattle.fort_model.specs.Lists.{IsAmong}
use Rattle.fort_model.specs.Program.{Program}
use Rattle.fort_model.specs.Rules.{Breaks, calls_nobody, is_name_taken}
use Rattle.fort_model.specs.Stages.{rules_of_calls}
use Rattle.fort_syntax.specs.DeckOrder.{units_ascend_above}
use Rattle.fort_syntax.specs.WellFormed.{AreWellFormedUnits}
use Rattle.fort_syntax.specs.declared.dialect.Dialect.{Dialect}
use Rattle.fort_syntax.specs.declared.rule.Rule.{Rule}
use Rattle.fort_syntax.specs.declared.rule.Rule.TheVariants.{UnitTwice, UnknownUnit, Recursion, BadArguments, BlockMissing}
use Rattle.fort_syntax.specs.declared.unit.Line.{Line}
use Rattle.fort_syntax.specs.declared.unit.Unit.{Unit as Routine}
use Rattle.stage_faults.specs.Laws.{IsToldIn, IsToldEarlier, TellsFirst}
use Rattle.stage_faults.specs.Scans.{first_of_two}
use Rattle.stage_faults.proofs.Cards.{passing, passed, passing_head, passed_head, of_two, of_three, two_first, two_second, three_first, three_second, three_third}
use Rattle.stage_faults.proofs.Heads.{heads_ascend}
use Rattle.call_order.specs.CallGraphs.{IsFirstRecursive}
use Rattle.call_rules.specs.CallFaults.{head_rule, is_number, name_taken, stmt_rule}

compared : (a b : ℕ) → (a < b) ⊎ ((a ≡ b) ⊎ (b < a))
compared zero zero = inr (inl refl)
compared zero (suc b) = inl (omega arith)
compared (suc a) zero = inr (inr (omega arith))
compared (suc a) (suc b) = move (compared a b)
  where
    move : (a < b) ⊎ ((a ≡ b) ⊎ (b < a)) → (suc a < suc b) ⊎ ((suc a ≡ suc b) ⊎ (suc b < suc a))
    move (inl l) = inl (omega arith)
    move (inr (inl e)) = inr (inl (omega arith))
    move (inr (inr l)) = inr (inr (omega arith))

same_number : (j : ℕ) → (j == j) ≡ true
same_number j = grind arith

is_that : (j i : ℕ) → (j == i) ≡ true → j ≡ i
is_that j i h = grind (arith, h)

before : {X : Type 0} (xs : List X) (i j : ℕ) (x : X) → slice_get xs i ≡ Some x → j < i → (y : X) × (slice_get xs j ≡ Some y)
before [] i j x e l = absurd cc
before (y ∷ ys) zero j x e l = absurd (omega arith)
before (y ∷ ys) (suc i) zero x e l = (y, refl)
before (y ∷ ys) (suc i) (suc j) x e l = before ys i j x e (omega arith)

some_told : (a b : Rule) (x y : Bool) → y ≡ true → (q : Rule) × (first_of_two a b x y ≡ Some q)
some_told a b true y h = (a, refl)
some_told a b false true h = (b, refl)
some_told a b false false h = absurd cc

-- ---- what is told is broken

recursive_way : (units : List Routine) (recursive : Option ℕ) (i : ℕ) → IsFirstRecursive units recursive → is_number recursive i ≡ true → Reaches units i i
recursive_way units None i h e = absurd cc
recursive_way units (Some j) i h e = subst (λ (n : ℕ). Reaches units n n) (is_that j i e) h.0

heads_broken : (p : Program) (recursive : Option ℕ) → IsFirstRecursive p.units recursive → (i : ℕ) (u : Routine) (rule : Rule)
    → head_rule p.units recursive i u ≡ Some rule → IsAmong rule rules_of_calls × Breaks p rule i u u.head
heads_broken p recursive first i u rule h = by (of_two UnitTwice Recursion (name_taken p.units i u) (is_number recursive i) rule h)
  where
    by : ((name_taken p.units i u ≡ true) × (UnitTwice ≡ rule)) ⊎ ((is_number recursive i ≡ true) × (Recursion ≡ rule))
        → IsAmong rule rules_of_calls × Breaks p rule i u u.head
    by (inl m) =
        subst (λ (r : Rule). IsAmong r rules_of_calls × Breaks p r i u u.head) m.1
        ((0, refl), passing_head u (is_name_taken p i u) m.0)
    by (inr m) =
        subst (λ (r : Rule). IsAmong r rules_of_calls × Breaks p r i u u.head) m.1
        ((2, refl), record { is_card = refl; way = recursive_way p.units recursive i first m.0 })

statements_broken : (p : Program) (i : ℕ) (u : Routine) (line : Line) (rule : Rule) → IsAmong line u.lines
    → stmt_rule p.units u line.stmt ≡ Some rule → IsAmong rule rules_of_calls × Breaks p rule i u line.card
statements_broken p i u line rule m h =
    by (of_three UnknownUnit BadArguments BlockMissing (calls_nobody p u line.stmt) (some_call p u line.stmt (mismatches u)) (some_call p u line.stmt (λ site. lacks_block u)) rule h)
  where
    by : ((calls_nobody p u line.stmt ≡ true) × (UnknownUnit ≡ rule))
        ⊎ (((some_call p u line.stmt (mismatches u) ≡ true) × (BadArguments ≡ rule))
        ⊎ ((some_call p u line.stmt (λ site. lacks_block u) ≡ true) × (BlockMissing ≡ rule)))
        → IsAmong rule rules_of_calls × Breaks p rule i u line.card
    by (inl t) =
        subst (λ (r : Rule). IsAmong r rules_of_calls × Breaks p r i u line.card) t.1
        ((1, refl), passing (λ s. calls_nobody p u s) 0 u.lines line m t.0)
    by (inr (inl t)) =
        subst (λ (r : Rule). IsAmong r rules_of_calls × Breaks p r i u line.card) t.1
        ((3, refl), passing (λ s. some_call p u s (mismatches u)) 0 u.lines line m t.0)
    by (inr (inr t)) =
        subst (λ (r : Rule). IsAmong r rules_of_calls × Breaks p r i u line.card) t.1
        ((4, refl), passing (λ s. some_call p u s (λ site. lacks_block u)) 0 u.lines line m t.0)

-- ---- what is broken is told

-- a rule that is broken by a unit is told, or another one earlier
abbrev IsTold : Program → Option ℕ → ℕ → Routine → ℕ → Rule → Type 0
IsTold p recursive i u card rule =
    IsToldIn (head_rule p.units recursive i u) (stmt_rule p.units u) u rule card ⊎ IsToldEarlier p (head_rule p.units recursive) card

twice_told : (p : Program) (recursive : Option ℕ) (i : ℕ) (u : Routine) (card : ℕ) → Breaks p UnitTwice i u card → IsTold p recursive i u card UnitTwice
twice_told p recursive i u card b =
    let found = passed_head u (is_name_taken p i u) card b in
    inl (inl (found.0, two_first UnitTwice Recursion (name_taken p.units i u) (is_number recursive i) found.1))

unknown_told : (p : Program) (recursive : Option ℕ) (i : ℕ) (u : Routine) (card : ℕ) → Breaks p UnknownUnit i u card
    → IsTold p recursive i u card UnknownUnit
unknown_told p recursive i u card b =
    let found = passed (λ s. calls_nobody p u s) 0 u.lines card b in
    let s = found.0.stmt in
    inl (inr (
      found.0,
      found.1,
      found.2,
      three_first UnknownUnit BadArguments BlockMissing (calls_nobody p u s) (some_call p u s (mismatches u)) (some_call p u s (λ site. lacks_block u)) found.3,
    ))

arguments_told : (p : Program) (recursive : Option ℕ) (i : ℕ) (u : Routine) (card : ℕ) → Breaks p BadArguments i u card
    → IsTold p recursive i u card BadArguments
arguments_told p recursive i u card b =
    let found = passed (λ s. some_call p u s (mismatches u)) 0 u.lines card b in
    let s = found.0.stmt in
    inl (inr (
      found.0,
      found.1,
      found.2,
      three_second UnknownUnit BadArguments BlockMissing (calls_nobody p u s) (some_call p u s (mismatches u)) (some_call p u s (λ site. lacks_block u))
          (omega arith) found.3,
    ))

block_told : (p : Program) (recursive : Option ℕ) (i : ℕ) (u : Routine) (card : ℕ) → Breaks p BlockMissing i u card
    → IsTold p recursive i u card BlockMissing
block_told p recursive i u card b =
    let found = passed (λ s. some_call p u s (λ site. lacks_block u)) 0 u.lines card b in
    let s = found.0.stmt in
    inl (inr (
      found.0,
      found.1,
      found.2,
      three_third UnknownUnit BadArguments BlockMissing (calls_nobody p u s) (some_call p u s (mismatches u)) (some_call p u s (λ site. lacks_block u))
          (omega arith) (omega arith) found.3,
    ))

recursion_told : (p : Program) (dialect : Dialect) → AreWellFormedUnits dialect p.units → IsTrue (units_ascend_above 0 p.units)
    → (recursive : Option ℕ) → IsFirstRecursive p.units recursive → (i : ℕ) (u : Routine) (card : ℕ) → slice_get p.units i ≡ Some u
    → Breaks p Recursion i u card → IsTold p recursive i u card Recursion
recursion_told p dialect w order None first i u card e b = absurd (first i b.way)
recursion_told p dialect w order (Some j) first i u card e b = by (compared i j)
  where
    earlier : j < i → (v : Routine) × (slice_get p.units j ≡ Some v) → IsToldEarlier p (head_rule p.units (Some j)) card
    earlier l found =
        let told = some_told UnitTwice Recursion (name_taken p.units j found.0) (j == j) (same_number j) in
        let heads : found.0.head < u.head = heads_ascend p.units dialect j i found.0 u w order found.1 e l in
        (j, found.0, told.0, found.1, told.1, subst (λ (n : ℕ). found.0.head < n) b.is_card heads)

    by : (i < j) ⊎ ((i ≡ j) ⊎ (j < i)) → IsTold p (Some j) i u card Recursion
    by (inl l) = absurd (first.1 i l b.way)
    by (inr (inl same)) =
        let here : (j == i) ≡ true = ap (λ n. j == n) same ∙ same_number j in
        inl (inl (b.is_card, two_second UnitTwice Recursion (name_taken p.units i u) (j == i) (omega arith) here))
    by (inr (inr l)) = inr (earlier l (before p.units i j u e l))

all_told : (p : Program) (dialect : Dialect) → AreWellFormedUnits dialect p.units → IsTrue (units_ascend_above 0 p.units)
    → (recursive : Option ℕ) → IsFirstRecursive p.units recursive → (i : ℕ) (u : Routine) (rule : Rule) (card : ℕ) → slice_get p.units i ≡ Some u
    → IsAmong rule rules_of_calls → Breaks p rule i u card → IsTold p recursive i u card rule
all_told p dialect w order recursive first i u rule card e (zero, is) =
    let f : UnitTwice ≡ rule = cc in
    subst (λ (r : Rule). Breaks p r i u card → IsTold p recursive i u card r) f (twice_told p recursive i u card)
all_told p dialect w order recursive first i u rule card e (suc zero, is) =
    let f : UnknownUnit ≡ rule = cc in
    subst (λ (r : Rule). Breaks p r i u card → IsTold p recursive i u card r) f (unknown_told p recursive i u card)
all_told p dialect w order recursive first i u rule card e (suc (suc zero), is) =
    let f : Recursion ≡ rule = cc in
    subst (λ (r : Rule). Breaks p r i u card → IsTold p recursive i u card r) f (recursion_told p dialect w order recursive first i u card e)
all_told p dialect w order recursive first i u rule card e (suc (suc (suc zero)), is) =
    let f : BadArguments ≡ rule = cc in
    subst (λ (r : Rule). Breaks p r i u card → IsTold p recursive i u card r) f (arguments_told p recursive i u card)
all_told p dialect w order recursive first i u rule card e (suc (suc (suc (suc zero))), is) =
    let f : BlockMissing ≡ rule = cc in
    subst (λ (r : Rule). Breaks p r i u card → IsTold p recursive i u card r) f (block_told p recursive i u card)
all_told p dialect w order recursive first i u rule card e (suc (suc (suc (suc (suc k)))), is) = absurd cc

pub calls_are_told : (p : Program) (dialect : Dialect) → AreWellFormedUnits dialect p.units → IsTrue (units_ascend_above 0 p.units)
    → (recursive : Option ℕ) → IsFirstRecursive p.units recursive → TellsFirst p rules_of_calls (head_rule p.units recursive) (stmt_rule p.units)
calls_are_told p dialect w order recursive first = record {
  of_heads = λ i u rule e h. heads_broken p recursive first i u rule h;
  of_statements = λ i u line rule e m h. statements_broken p i u line rule m h;
  told = λ i u rule card e m b. all_told p dialect w order recursive first i u rule card e m b;
}
