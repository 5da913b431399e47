-- A program keeps the rules where no card breaks those that are judged by looking, units call earlier ones alone, and
-- statements without an ASSERT lead down.
use Rattle.std.proofs.Common.{◌≡◌, ℕ, ◌<◌, Bool, true, false, ◌&&◌, List, [], ◌∷◌, Option, Some, None, slice_get, refl, sym, ap, ◌∙◌, subst, arith}
use Rattle.std.proofs.lemmas.Bool.Decides.{nat_tests}
use Rattle.std.specs.Prelude.{nat_lt}
use Rattle.std.specs.List.{list_all}
use Rattle.fort_syntax.specs.declared.dialect.Dialect.{Dialect}
use Rattle.fort_syntax.specs.declared.rule.Rule.{Rule}
use Rattle.fort_syntax.specs.declared.rule.Rule.TheVariants.{BadLastOfDo, CrossedDo, JumpIntoDo, DoSmashed, FallsOffEnd, UncutCycle, ClockLength, UnitTwice, UnknownUnit, Recursion, BadArguments, SmashedNotName, SmashedTwice, SmashedCommon, BlockMissing, FunctionSmashes, DimensionSmashed}
use Rattle.fort_syntax.specs.declared.unit.Unit.{Unit as Routine}
use Rattle.fort_model.specs.Calls.{Calls, Reaches, directly, through, callee_of, sites_of}
use Rattle.fort_model.specs.Flow.{one_way, leads}
use Rattle.fort_model.specs.Lists.{IsAmong}
use Rattle.fort_model.specs.Paths.{NoCut, cut_at, Uncut, one, more}
use Rattle.fort_notes.specs.Assertions.{Notes}
use Rattle.fort_model.specs.Program.{Program, notes_of}
use Rattle.fort_model.specs.Rules.{KeepsRules, cards_breaking}
use Rattle.fort_laws.proofs.Small.{both_parts}
use Rattle.fort_laws.proofs.WitnessLists.{AtEach, at_each, all_pass, nothing_among}

-- the rules that are judged by looking
abbrev looked_at : List Rule
looked_at =
    BadLastOfDo ∷ CrossedDo ∷ JumpIntoDo ∷ DoSmashed ∷ FallsOffEnd ∷ ClockLength ∷ UnitTwice ∷ UnknownUnit ∷ BadArguments
    ∷ SmashedNotName ∷ SmashedTwice ∷ SmashedCommon ∷ BlockMissing ∷ FunctionSmashes ∷ DimensionSmashed ∷ []

abbrev is_none : List ℕ → Bool
is_none [] = true
is_none (card ∷ cards) = false

abbrev is_before : ℕ → Option ℕ → Bool
is_before i None = true
is_before i (Some j) = nat_lt j i

-- the calls of a unit are of earlier units
abbrev calls_earlier : Program → ℕ → Routine → Bool
calls_earlier p i u = list_all (λ line. list_all (λ site. is_before i (callee_of p.units site)) (sites_of u line.stmt)) u.lines

abbrev pub is_clean : Program → ℕ → Routine → Bool
is_clean p i u = list_all (λ rule. is_none (cards_breaking p rule i u)) looked_at && calls_earlier p i u

-- each statement without an ASSERT leads to a point of lower rank
abbrev pub LeadsDown : Dialect → Routine → Notes → (ℕ → ℕ) → Type 0
LeadsDown dialect u notes rank =
    AtEach u.lines (λ pc line. (cs : List ℕ) (q : ℕ) → cut_at u notes pc ≡ NoCut → leads dialect u pc line.stmt cs ≡ Some q → rank q < rank pc)

-- where there is no choice, a statement leads to one point
pub leads_lower : {C : Type 0} (rank : ℕ → ℕ) (next pc : ℕ) → rank next < rank pc → (cs : List ℕ) (q : ℕ) → C → one_way next cs ≡ Some q → rank q < rank pc
leads_lower rank next pc low cs q c e = subst (λ (z : ℕ). rank z < rank pc) (one_way_is cs e) low
  where
    one_way_is : (cs : List ℕ) → one_way next cs ≡ Some q → next ≡ q
    one_way_is [] e = cc
    one_way_is (c ∷ cs) e = absurd (cc)

uncut_falls : (dialect : Dialect) (u : Routine) (notes : Notes) (rank : ℕ → ℕ) → LeadsDown dialect u notes rank → {a b : ℕ} → Uncut dialect u notes a b → rank b < rank a
uncut_falls dialect u notes rank down (one {p = a} {q = b} cs cut e) =
    at_each u.lines (λ pc line. (cs : List ℕ) (q : ℕ) → cut_at u notes pc ≡ NoCut → leads dialect u pc line.stmt cs ≡ Some q → rank q < rank pc) down a e.line e.at cs b cut e.to
uncut_falls dialect u notes rank down (more {p = a} {q = b} cs cut e way) =
    let first = at_each u.lines (λ pc line. (cs : List ℕ) (q : ℕ) → cut_at u notes pc ≡ NoCut → leads dialect u pc line.stmt cs ≡ Some q → rank q < rank pc) down a e.line e.at cs b cut e.to in
    let rest = uncut_falls dialect u notes rank down way in
    omega arith

module _ (p : Program) (clean : AtEach p.units (λ i u. is_clean p i u ≡ true)) where
  parts : (i : ℕ) (u : Routine) → slice_get p.units i ≡ Some u → (list_all (λ rule. is_none (cards_breaking p rule i u)) looked_at ≡ true) × (calls_earlier p i u ≡ true)
  parts i u is = both_parts (list_all (λ rule. is_none (cards_breaking p rule i u)) looked_at) (calls_earlier p i u) (at_each p.units (λ i u. is_clean p i u ≡ true) clean i u is)

  no_card : (rule : Rule) (k : ℕ) → slice_get looked_at k ≡ Some rule → (i card : ℕ) (u : Routine) → slice_get p.units i ≡ Some u → IsAmong card (cards_breaking p rule i u) → ⊥
  no_card rule k at i card u is m = empty (cards_breaking p rule i u) (all_pass (λ rule. is_none (cards_breaking p rule i u)) looked_at (parts i u is).0 k rule at) m
    where
      empty : (cards : List ℕ) → is_none cards ≡ true → IsAmong card cards → ⊥
      empty [] h m = nothing_among card m
      empty (c ∷ cards) h m = absurd (cc)

  pub calls_fall : {i j : ℕ} → Calls p.units i j → j < i
  calls_fall {i = i} {j = j} c =
      let line = all_pass (λ line. list_all (λ site. is_before i (callee_of p.units site)) (sites_of c.caller line.stmt)) c.caller.lines (parts i c.caller c.is_caller).1 c.is_line.0 c.line c.is_line.1 in
      let site = all_pass (λ site. is_before i (callee_of p.units site)) (sites_of c.caller c.line.stmt) line c.is_site.0 c.site c.is_site.1 in
      below (sym (ap (is_before i) c.is_of) ∙ site)
    where
      below : nat_lt j i ≡ true → j < i
      below h = grind (arith, nat_tests)

  reaches_fall : {i j : ℕ} → Reaches p.units i j → j < i
  reaches_fall (directly c) = calls_fall c
  reaches_fall (through c r) = let a = calls_fall c in let b = reaches_fall r in omega arith

  module _ (rank : ℕ → ℕ) (down : AtEach p.units (λ i u. LeadsDown p.dialect u (notes_of p i) rank)) where
    pub rules_are_kept : KeepsRules p
    rules_are_kept BadLastOfDo i card b = no_card BadLastOfDo 0 refl i card b.unit b.is_unit b.breaks
    rules_are_kept CrossedDo i card b = no_card CrossedDo 1 refl i card b.unit b.is_unit b.breaks
    rules_are_kept JumpIntoDo i card b = no_card JumpIntoDo 2 refl i card b.unit b.is_unit b.breaks
    rules_are_kept DoSmashed i card b = no_card DoSmashed 3 refl i card b.unit b.is_unit b.breaks
    rules_are_kept FallsOffEnd i card b = no_card FallsOffEnd 4 refl i card b.unit b.is_unit b.breaks
    rules_are_kept ClockLength i card b = no_card ClockLength 5 refl i card b.unit b.is_unit b.breaks
    rules_are_kept UnitTwice i card b = no_card UnitTwice 6 refl i card b.unit b.is_unit b.breaks
    rules_are_kept UnknownUnit i card b = no_card UnknownUnit 7 refl i card b.unit b.is_unit b.breaks
    rules_are_kept BadArguments i card b = no_card BadArguments 8 refl i card b.unit b.is_unit b.breaks
    rules_are_kept SmashedNotName i card b = no_card SmashedNotName 9 refl i card b.unit b.is_unit b.breaks
    rules_are_kept SmashedTwice i card b = no_card SmashedTwice 10 refl i card b.unit b.is_unit b.breaks
    rules_are_kept SmashedCommon i card b = no_card SmashedCommon 11 refl i card b.unit b.is_unit b.breaks
    rules_are_kept BlockMissing i card b = no_card BlockMissing 12 refl i card b.unit b.is_unit b.breaks
    rules_are_kept FunctionSmashes i card b = no_card FunctionSmashes 13 refl i card b.unit b.is_unit b.breaks
    rules_are_kept DimensionSmashed i card b = no_card DimensionSmashed 14 refl i card b.unit b.is_unit b.breaks
    rules_are_kept UncutCycle i card b =
        let l = b.breaks in
        let f = uncut_falls p.dialect b.unit (notes_of p i) rank (at_each p.units (λ i u. LeadsDown p.dialect u (notes_of p i) rank) down i b.unit b.is_unit) l.cycle in
        absurd (omega arith)
    rules_are_kept Recursion i card b = let f = reaches_fall b.breaks.way in absurd (omega arith)
    rules_are_kept _ i card b = nothing_among card b.breaks
