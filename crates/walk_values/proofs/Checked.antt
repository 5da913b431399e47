-- Checks of terms that were made before.
use Rattle.std.proofs.Common.{◌≡◌, ℕ, zero, suc, ◌≤◌, Bool, true, false, cond, List, [], ◌∷◌, ◌++◌, refl, sym, ap, ◌∙◌, subst, arith, true≢false}
use Rattle.std.specs.Prelude.{nat_lt}
use Rattle.std.proofs.lemmas.Bool.Decides.{nat_tests}
use Rattle.formula.specs.Tree.{Tree}
use Rattle.formula.specs.declared.function.BuiltIn.TheVariants.{AtMost}
use Rattle.fort_syntax.specs.declared.condition.Kind.{Kind}
use Rattle.fort_syntax.specs.declared.condition.Kind.TheVariants.{RangeCheck}
use Rattle.fort_syntax.specs.declared.unit.Unit.{Unit as Routine}
use Rattle.fort_model.specs.Conditions.{sight}
use Rattle.fort_model.specs.Events.{Event, Check}
use Rattle.fort_model.specs.Program.{Program}
use Rattle.fort_model.specs.Seen.{See, see}
use Rattle.fort_model.specs.Senses.{greatest_integer, make2, natural, of_terms}
use Rattle.fort_model.specs.WalkExpr as steps
use Rattle.walk_state.specs.declared.walk.Walk.{Walk}
use Rattle.walk_state.specs.Moments.{Did, Moment, met, moment, with_event}
use Rattle.walk_state.proofs.Parts.{Grew}

-- a check is met where a term was made before
pub checked_after : (w0 w1 : Walk) (m : Moment) (kind : Kind) (card : ℕ) (t0 t1 : Tree) → Grew w0 w1 → m ≡ with_event (moment w1) (Check kind card t1) → t1 ≡ t0
    → m ≡ with_event (moment w0) (Check kind card t0)
checked_after w0 w1 m kind card t0 t1 g e is = e ∙ (λ i. with_event (g.same i) (Check kind card (is i)))

-- a part that depends on a value is done where this value was made before
pub did_after : {A B : Type 0} (m0 m1 m2 : Moment) (part : A → See Tree B) (a0 a1 : A) (b0 b1 : B) → m1 ≡ m0 → a1 ≡ a0 → b0 ≡ b1 → Did m1 (part a1) m2 b1 → Did m0 (part a0) m2 b0
did_after m0 m1 m2 part a0 a1 b0 b1 same is made d = record {
  is = d.is ∙ (λ i. met (same i) (part (is i)));
  gives = made ∙ d.gives ∙ (λ i. (part (is i) ((same i).answers)).value);
}

append_nothing : {A : Type 0} (xs : List A) → xs ≡ xs ++ []
append_nothing [] = refl
append_nothing (x ∷ xs) = ap (λ (ys : List _). x ∷ ys) (append_nothing xs)

-- nothing is met
pub did_see : {A : Type 0} (m0 m1 : Moment) (a b : A) → m1 ≡ m0 → b ≡ a → Did m0 (see a) m1 b
did_see m0 m1 a b same is = record {
  is = same ∙ (λ i. record { now = m0.now; past = m0.past; events = append_nothing m0.events i; answers = m0.answers });
  gives = is;
}

-- ---- constants

abbrev limit : ℕ → ℕ → Event Tree
limit card c = Check RangeCheck card (make2 of_terms AtMost (natural of_terms c) (greatest_integer of_terms))

free : (m : Moment) (b : Bool) (e : Event Tree) → b ≡ false → m ≡ record { now = m.now; past = m.past; events = m.events ++ (cond b (e ∷ []) [] ++ []); answers = m.answers }
free m false e h = λ i. record { now = m.now; past = m.past; events = append_nothing m.events i; answers = m.answers }
free m true e h = absurd (true≢false h)

limited : (m : Moment) (b : Bool) (e : Event Tree) → b ≡ true → with_event m e ≡ record { now = m.now; past = m.past; events = m.events ++ (cond b (e ∷ []) [] ++ []); answers = m.answers }
limited m false e h = absurd (true≢false (sym h))
limited m true e h = refl

above : (bound other c : ℕ) → other ≡ bound → c ≤ bound → nat_lt other c ≡ false
above bound other c e h = let low : c ≤ other = omega (arith, e, h) in grind (arith, nat_tests)

below : (bound other c : ℕ) → other ≡ bound → suc bound ≤ c → nat_lt other c ≡ true
below bound other c e h = let high : suc other ≤ c = omega (arith, e, h) in grind (arith, nat_tests)

pub constant_free : (m0 m1 : Moment) (p : Program) (i : ℕ) (u : Routine) (bound card c : ℕ) (t : Tree) → p.bound ≡ bound → c ≤ bound → m1 ≡ m0 → t ≡ natural of_terms c
    → Did m0 (steps.constant (sight of_terms p i u) card c) m1 t
constant_free m0 m1 p i u bound card c t e h same is = record {
  is = same ∙ free m0 (nat_lt p.bound c) (limit card c) (above bound p.bound c e h);
  gives = is;
}

pub constant_limited : (m0 m1 : Moment) (p : Program) (i : ℕ) (u : Routine) (bound card c : ℕ) (t : Tree) → p.bound ≡ bound → suc bound ≤ c → m1 ≡ with_event m0 (limit card c) → t ≡ natural of_terms c
    → Did m0 (steps.constant (sight of_terms p i u) card c) m1 t
constant_limited m0 m1 p i u bound card c t e h met is = record {
  is = met ∙ limited m0 (nat_lt p.bound c) (limit card c) (below bound p.bound c e h);
  gives = is;
}
