-- Where no unit reaches itself, units can be taken in the order of their calls.
use Rattle.std.proofs.Common.{◌≡◌, ℕ, zero, suc, ◌+◌, ◌<◌, ◌≤◌, true, List, [], ◌∷◌, length, eqb, sym, subst, arith}
use Rattle.std.specs.List.{IsDistinct, list_any}
use Rattle.std.proofs.lemmas.Map.Steps.{length-le_from_distinct_below}
use Rattle.std.proofs.lemmas.Option.{slice_get_within}
use Rattle.fort_syntax.specs.declared.unit.Unit.{Unit as Routine}
use Rattle.fort_model.specs.Calls.{Calls, Reaches, directly, through}
use Rattle.fort_laws.proofs.Near.{apart_all, split_any}

-- all units that a unit calls come before it
pub data Ranked (units : List Routine) : ℕ → Type 0 where
  ranked : {i : ℕ} → ((j : ℕ) → Calls units i j → Ranked units j) → Ranked units i

-- different units, which reach a unit
record Callers (units : List Routine) (seen : List ℕ) (i : ℕ) : Type 0 where
  distinct : IsDistinct eqb seen
  below : (x : ℕ) → list_any (eqb x) seen ≡ true → x < length units
  reach : (x : ℕ) → list_any (eqb x) seen ≡ true → Reaches units x i

onto : (units : List Routine) {x i : ℕ} → Reaches units x i → {j : ℕ} → Calls units i j → Reaches units x j
onto units (directly c) d = through c (directly d)
onto units (through c r) d = through c (onto units r d)

extended : (units : List Routine) → ((i : ℕ) → Reaches units i i → ⊥) → (seen : List ℕ) (i j : ℕ) → Calls units i j → Callers units seen i
    → IsDistinct eqb (i ∷ seen) × ((x : ℕ) → list_any (eqb x) (i ∷ seen) ≡ true → x < length units)
unfolding IsDistinct
extended units none seen i j c v = (
  (apart_all i seen (λ x m e. none x (subst (Reaches units x) (sym e) (v.reach x m))), v.distinct),
  λ x m. split_any x i seen m (λ e. subst (λ y. y < length units) (sym e) (slice_get_within units i c.caller c.is_caller)) (λ h. v.below x h),
)

ranked_from : (units : List Routine) → ((i : ℕ) → Reaches units i i → ⊥) → (k : ℕ) (seen : List ℕ) (i : ℕ) → Callers units seen i → length units ≤ k + length seen → Ranked units i
ranked_from units none zero seen i v le =
    ranked (λ j c.
    let x = extended units none seen i j c v in
    let l = length-le_from_distinct_below (i ∷ seen) (length units) x.0 x.1 in
    absurd (omega arith))
ranked_from units none (suc k) seen i v le =
    ranked (λ j c.
    let x = extended units none seen i j c v in
    ranked_from units none k (i ∷ seen) j
    (record {
      distinct = x.0;
      below = x.1;
      reach = λ y m. split_any y i seen m (λ f. subst (λ z. Reaches units z j) (sym f) (directly c)) (λ h. onto units (v.reach y h) c);
    }) (omega arith))

no_callers : (units : List Routine) (i : ℕ) → Callers units [] i
unfolding IsDistinct
no_callers units i = record { distinct = tt; below = λ x m. absurd (grind arith); reach = λ x m. absurd (grind arith) }

pub all_ranked : (units : List Routine) → ((i : ℕ) → Reaches units i i → ⊥) → (i : ℕ) → Ranked units i
all_ranked units none i = ranked_from units none (length units) [] i (no_callers units i) (omega arith)
