-- What a program that keeps the rules gives for the runs of its units.
use Rattle.std.proofs.Common.{◌≡◌, ℕ, Bool, true, false, not, ◌||◌, cond, List, [], ◌∷◌, length, Some, None, slice_get, zero, suc, refl, sym, ap, ◌∙◌, subst, arith}
use Rattle.std.specs.Prelude.{◌==◌, nat_lt}
use Rattle.fort_syntax.specs.declared.rule.Rule.TheVariants.{FallsOffEnd, UncutCycle, ClockLength, Recursion}
use Rattle.fort_syntax.specs.declared.unit.Line.{Line}
use Rattle.fort_syntax.specs.declared.unit.Unit.{Unit as Routine}
use Rattle.fort_model.specs.Calls.{Reaches, directly, through}
use Rattle.fort_model.specs.Lists.{IsAmong}
use Rattle.fort_model.specs.Paths.{AtAssert, cut_at, Edge, Uncut, one, more}
use Rattle.fort_notes.specs.Assertions.{Assertion}
use Rattle.fort_model.specs.Program.{Program, notes_of, assertion_at}
use Rattle.fort_model.specs.Rules.{KeepsRules, is_bad_clock, bad_clocks, all_clocks, off_end}
use Rattle.fort_laws.specs.Ways.{IsCutUp}
use Rattle.fort_laws.proofs.FewSymbols.{numbered, assert_is}
use Rattle.fort_laws.proofs.Near.{known}
use Rattle.fort_laws.proofs.RulesKept.{more_among}

module _ (p : Program) (keeps : KeepsRules p) where
  pub is_cut_up : (i : ℕ) (u : Routine) → slice_get p.units i ≡ Some u → IsCutUp p.dialect u (notes_of p i)
  is_cut_up i u is pc cycle = by_first (first cycle) cycle
    where
      first : {a b : ℕ} → Uncut p.dialect u (notes_of p i) a b → (cs : List ℕ) × (q : ℕ) × Edge p.dialect u a cs q
      first (one {q = q} cs c e) = (cs, q, e)
      first (more {q = q} cs c e r) = (cs, q, e)

      by_first : (cs : List ℕ) × (q : ℕ) × Edge p.dialect u pc cs q → Uncut p.dialect u (notes_of p i) pc pc → ⊥
      by_first e cycle =
          keeps UncutCycle i e.2.line.card (record { unit = u; is_unit = is; breaks = record { point = pc; line = e.2.line; at = e.2.at; is_card = refl; cycle = cycle } })

  caller_of : (units : List Routine) {i j : ℕ} → Reaches units i j → (u : Routine) × (slice_get units i ≡ Some u)
  caller_of units (directly c) = (c.caller, c.is_caller)
  caller_of units (through c r) = (c.caller, c.is_caller)

  pub none_reaches_itself : (i : ℕ) → Reaches p.units i i → ⊥
  none_reaches_itself i r = let c = caller_of p.units r in keeps Recursion i (c.0).head (record { unit = c.0; is_unit = c.1; breaks = record { is_card = refl; way = r } })

  -- a unit that the flow does not go off has a statement
  pub has_statement : (i : ℕ) (u : Routine) → slice_get p.units i ≡ Some u → slice_get u.lines 0 ≡ None → ⊥
  has_statement i u is = by_lines u.lines refl
    where
      by_lines : (lines : List Line) → u.lines ≡ lines → slice_get lines 0 ≡ None → ⊥
      by_lines [] e none =
          keeps FallsOffEnd i u.«end» (record { unit = u; is_unit = is; breaks = subst (λ (lines : List Line). IsAmong u.«end» (off_end p.dialect u lines)) (sym e) (0, refl) })
      by_lines (line ∷ lines) e none = absurd (cc)

  -- ---- clocks

  abbrev pub clock_parts : List Assertion → ℕ
  clock_parts [] = 0
  clock_parts (a ∷ rest) = length a.clock

  one_good : (parts : ℕ) (a : Assertion) → is_bad_clock parts a ≡ false → length a.clock ≡ parts
  one_good parts a h = same_number (length a.clock) parts (not_not (length a.clock == parts) (right (nat_lt 4 (length a.clock)) _ (right (length a.clock == 0) _ h)))
    where
      right : (x y : Bool) → (x || y) ≡ false → y ≡ false
      right true y e = absurd (cc)
      right false y e = e

      not_not : (b : Bool) → not b ≡ false → b ≡ true
      not_not true e = refl
      not_not false e = absurd (cc)

      same_number : (k n : ℕ) → (k == n) ≡ true → k ≡ n
      same_number k n h = grind arith

  all_good : (parts : ℕ) (asserts : List Assertion) → ((card : ℕ) → IsAmong card (bad_clocks parts asserts) → ⊥) → (a : Assertion) → IsAmong a asserts → length a.clock ≡ parts
  all_good parts [] h a m = absurd (cc)
  all_good parts (b ∷ rest) h a (zero, e) =
      let f : b ≡ a = cc in
      known (is_bad_clock parts b)
      (λ t. absurd (h b.card (subst (λ (z : Bool). IsAmong b.card (cond z (b.card ∷ bad_clocks parts rest) (bad_clocks parts rest))) (sym t) (0, refl))))
      (λ g. one_good parts a (ap (is_bad_clock parts) (sym f) ∙ g))
  all_good parts (b ∷ rest) h a (suc k, e) = all_good parts rest (λ card m. h card (more_among (is_bad_clock parts b) card b.card (bad_clocks parts rest) m)) a (k, e)

  pub clocks_agree : (i : ℕ) (u : Routine) → slice_get p.units i ≡ Some u → (a : Assertion) (q : ℕ) → cut_at u (notes_of p i) q ≡ AtAssert a → length a.clock ≡ clock_parts (notes_of p i).asserts
  clocks_agree i u is a q c =
      let n = numbered (notes_of p i).asserts q a (assert_is (slice_get u.lines q) (assertion_at (notes_of p i) q) a c) in
      by_list (notes_of p i).asserts refl (n.number, n.among)
    where
      by_list : (asserts : List Assertion) → (notes_of p i).asserts ≡ asserts → IsAmong a (notes_of p i).asserts → length a.clock ≡ clock_parts (notes_of p i).asserts
      by_list [] e m = let none : slice_get [] m.0 ≡ Some a = ap (λ (xs : List Assertion). slice_get xs m.0) (sym e) ∙ m.1 in absurd (cc)
      by_list (b ∷ rest) e m =
          all_good (length b.clock) (b ∷ rest)
          (λ card k. keeps ClockLength i card (record { unit = u; is_unit = is; breaks = subst (λ (xs : List Assertion). IsAmong card (all_clocks xs)) (sym e) k }))
          a (m.0, ap (λ (xs : List Assertion). slice_get xs m.0) (sym e) ∙ m.1)
          ∙ sym (ap clock_parts e)
