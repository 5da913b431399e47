-- What is told of heads and statements is what is broken there.
use Rattle.std.proofs.Common.{◌≡◌, ℕ, zero, suc, ◌⊎◌, inl, inr, Bool, true, List, Some, slice_get, refl, sym, ap, ◌∙◌, subst, arith}
use Rattle.fort_syntax.specs.DeckOrder.{units_ascend_above}
use Rattle.std.specs.Prelude.{IsTrue}
use Rattle.fort_syntax.specs.FirstFaults.{TellsLeast}
use Rattle.fort_syntax.specs.WellFormed.{AreWellFormedUnits}
use Rattle.fort_syntax.specs.declared.dialect.Dialect.{Dialect}
use Rattle.fort_syntax.specs.declared.name.Name.{Name}
use Rattle.fort_syntax.specs.declared.rule.Rule.{Rule}
use Rattle.fort_syntax.specs.declared.rule.Rule.TheVariants.{SmashedNotName, SmashedTwice, SmashedCommon, FunctionSmashes, DimensionSmashed}
use Rattle.fort_syntax.specs.declared.stmt.Stmt.{Stmt}
use Rattle.fort_syntax.specs.declared.unit.Line.{Line}
use Rattle.fort_syntax.specs.declared.unit.Unit.{Unit as Routine}
use Rattle.fort_model.specs.CallRules.{some_call, passes_no_name, passes_twice, passes_common}
use Rattle.fort_model.specs.Lists.{IsAmong}
use Rattle.fort_model.specs.Program.{Program}
use Rattle.fort_model.specs.Rules.{Breaks, function_smashes, dim_smashed}
use Rattle.fort_model.specs.Stages.{IsBrokenOf, rules_of_smashing}
use Rattle.stage_faults.specs.Laws.{IsToldIn, Tells}
use Rattle.stage_faults.proofs.Cards.{passing, passed, passing_head, passed_head, of_two, of_three, two_first, two_second, three_first, three_second, three_third}
use Rattle.stage_faults.proofs.Least.{stage_fault_is_least}
use Rattle.smash_laws.specs.Ordered.{with_table}
use Rattle.smash_rules.specs.Judged.{stmt_rule, head_rule, first_smash_fault}

module _ (p : Program) where
  abbrev no_name : Routine → Stmt → Bool
  no_name u s = some_call p u s (passes_no_name p)

  abbrev twice : Routine → Stmt → Bool
  twice u s = some_call p u s (passes_twice p)

  abbrev common : Routine → Stmt → Bool
  common u s = some_call p u s (passes_common p u)

  of_heads : (i : ℕ) (u : Routine) (rule : Rule) → slice_get p.units i ≡ Some u → head_rule p i u ≡ Some rule → IsAmong rule rules_of_smashing × Breaks p rule i u u.head
  of_heads i u rule is h = by_rule (of_two FunctionSmashes DimensionSmashed (function_smashes p i u) (dim_smashed p i u) rule h)
    where
      by_rule : ((function_smashes p i u ≡ true) × (FunctionSmashes ≡ rule)) ⊎ ((dim_smashed p i u ≡ true) × (DimensionSmashed ≡ rule)) → IsAmong rule rules_of_smashing × Breaks p rule i u u.head
      by_rule (inl (t, e)) = subst (λ (r : Rule). IsAmong r rules_of_smashing × Breaks p r i u u.head) e ((3, refl), passing_head u (function_smashes p i u) t)
      by_rule (inr (t, e)) = subst (λ (r : Rule). IsAmong r rules_of_smashing × Breaks p r i u u.head) e ((4, refl), passing_head u (dim_smashed p i u) t)

  of_statements : (i : ℕ) (u : Routine) (line : Line) (rule : Rule) → slice_get p.units i ≡ Some u → IsAmong line u.lines
      → stmt_rule p u line.stmt ≡ Some rule → IsAmong rule rules_of_smashing × Breaks p rule i u line.card
  of_statements i u line rule is m h =
      by_rule (of_three SmashedNotName SmashedTwice SmashedCommon (no_name u line.stmt) (twice u line.stmt) (common u line.stmt) rule h)
    where
      by_rule : ((no_name u line.stmt ≡ true) × (SmashedNotName ≡ rule)) ⊎ (((twice u line.stmt ≡ true) × (SmashedTwice ≡ rule)) ⊎ ((common u line.stmt ≡ true) × (SmashedCommon ≡ rule)))
          → IsAmong rule rules_of_smashing × Breaks p rule i u line.card
      by_rule (inl (t, e)) = subst (λ (r : Rule). IsAmong r rules_of_smashing × Breaks p r i u line.card) e ((0, refl), passing (no_name u) 0 u.lines line m t)
      by_rule (inr (inl (t, e))) = subst (λ (r : Rule). IsAmong r rules_of_smashing × Breaks p r i u line.card) e ((1, refl), passing (twice u) 0 u.lines line m t)
      by_rule (inr (inr (t, e))) = subst (λ (r : Rule). IsAmong r rules_of_smashing × Breaks p r i u line.card) e ((2, refl), passing (common u) 0 u.lines line m t)

  Told : ℕ → Routine → Rule → ℕ → Type 0
  Told i u rule card = Breaks p rule i u card → IsToldIn (head_rule p i u) (stmt_rule p u) u rule card

  told_no_name : (i : ℕ) (u : Routine) (card : ℕ) → Breaks p SmashedNotName i u card → IsToldIn (head_rule p i u) (stmt_rule p u) u SmashedNotName card
  told_no_name i u card b =
      let f = passed (no_name u) 0 u.lines card b in
      inr (f.0, f.1, f.2, three_first SmashedNotName SmashedTwice SmashedCommon (no_name u (f.0).stmt) (twice u (f.0).stmt) (common u (f.0).stmt) f.3)

  told_twice : (i : ℕ) (u : Routine) (card : ℕ) → Breaks p SmashedTwice i u card → IsToldIn (head_rule p i u) (stmt_rule p u) u SmashedTwice card
  told_twice i u card b =
      let f = passed (twice u) 0 u.lines card b in
      inr (f.0, f.1, f.2, three_second SmashedNotName SmashedTwice SmashedCommon (no_name u (f.0).stmt) (twice u (f.0).stmt) (common u (f.0).stmt) (omega arith) f.3)

  told_common : (i : ℕ) (u : Routine) (card : ℕ) → Breaks p SmashedCommon i u card → IsToldIn (head_rule p i u) (stmt_rule p u) u SmashedCommon card
  told_common i u card b =
      let f = passed (common u) 0 u.lines card b in
      inr (f.0, f.1, f.2, three_third SmashedNotName SmashedTwice SmashedCommon (no_name u (f.0).stmt) (twice u (f.0).stmt) (common u (f.0).stmt) (omega arith) (omega arith) f.3)

  told_function : (i : ℕ) (u : Routine) (card : ℕ) → Breaks p FunctionSmashes i u card → IsToldIn (head_rule p i u) (stmt_rule p u) u FunctionSmashes card
  told_function i u card b =
      let f = passed_head u (function_smashes p i u) card b in
      inl (f.0, two_first FunctionSmashes DimensionSmashed (function_smashes p i u) (dim_smashed p i u) f.1)

  told_dim : (i : ℕ) (u : Routine) (card : ℕ) → Breaks p DimensionSmashed i u card → IsToldIn (head_rule p i u) (stmt_rule p u) u DimensionSmashed card
  told_dim i u card b =
      let f = passed_head u (dim_smashed p i u) card b in
      inl (f.0, two_second FunctionSmashes DimensionSmashed (function_smashes p i u) (dim_smashed p i u) (omega arith) f.1)

  told : (i : ℕ) (u : Routine) (rule : Rule) (card : ℕ) → slice_get p.units i ≡ Some u → IsAmong rule rules_of_smashing
      → Breaks p rule i u card → IsToldIn (head_rule p i u) (stmt_rule p u) u rule card
  told i u rule card is (zero, e) b = let q : SmashedNotName ≡ rule = cc in
      subst (λ (r : Rule). Breaks p r i u card → IsToldIn (head_rule p i u) (stmt_rule p u) u r card) q (told_no_name i u card) b
  told i u rule card is (suc zero, e) b = let q : SmashedTwice ≡ rule = cc in
      subst (λ (r : Rule). Breaks p r i u card → IsToldIn (head_rule p i u) (stmt_rule p u) u r card) q (told_twice i u card) b
  told i u rule card is (suc (suc zero), e) b = let q : SmashedCommon ≡ rule = cc in
      subst (λ (r : Rule). Breaks p r i u card → IsToldIn (head_rule p i u) (stmt_rule p u) u r card) q (told_common i u card) b
  told i u rule card is (suc (suc (suc zero)), e) b = let q : FunctionSmashes ≡ rule = cc in
      subst (λ (r : Rule). Breaks p r i u card → IsToldIn (head_rule p i u) (stmt_rule p u) u r card) q (told_function i u card) b
  told i u rule card is (suc (suc (suc (suc zero))), e) b = let q : DimensionSmashed ≡ rule = cc in
      subst (λ (r : Rule). Breaks p r i u card → IsToldIn (head_rule p i u) (stmt_rule p u) u r card) q (told_dim i u card) b
  told i u rule card is (suc (suc (suc (suc (suc k)))), e) b = absurd (cc)

  tells : Tells p rules_of_smashing (head_rule p) (stmt_rule p)
  tells = record { of_heads = of_heads; of_statements = of_statements; told = told }

  least : (dialect : Dialect) → AreWellFormedUnits dialect p.units → IsTrue (units_ascend_above 0 p.units) → TellsLeast (IsBrokenOf p rules_of_smashing) (first_smash_fault p)
  least dialect well ascend = stage_fault_is_least p rules_of_smashing (head_rule p) (stmt_rule p) dialect well ascend tells

-- for each program of some units with a table
pub least_of : (dialect : Dialect) (units : List Routine) (rows : List (List Name)) → AreWellFormedUnits dialect units → IsTrue (units_ascend_above 0 units)
    → (p : Program) → p.units ≡ units → p.smashes ≡ rows → TellsLeast (IsBrokenOf p rules_of_smashing) (first_smash_fault (with_table units rows))
least_of dialect units rows well ascend p e f =
    subst (TellsLeast (IsBrokenOf p rules_of_smashing)) same
    (least p dialect (subst (AreWellFormedUnits dialect) (sym e) well) (subst (λ (us : List Routine). IsTrue (units_ascend_above 0 us)) (sym e) ascend))
  where
    same : first_smash_fault p ≡ first_smash_fault (with_table units rows)
    same =
        ap (λ (us : List Routine). first_smash_fault (with_table us p.smashes)) e ∙ ap (λ (rs : List (List Name)). first_smash_fault (with_table units rs)) f
