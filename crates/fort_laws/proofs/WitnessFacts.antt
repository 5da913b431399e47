-- The facts of the calls of a small program.
use Rattle.std.proofs.Common.{◌≡◌, ℕ, zero, suc, ◌<◌, ◌≤◌, List, [], ◌∷◌, refl, subst, arith}
use Rattle.fort_model.specs.CallOrder.{CanStand, start, next}
use Rattle.fort_model.specs.Calls.{Calls}
use Rattle.fort_model.specs.Lists.{IsAmong}
use Rattle.fort_model.specs.VerdictRows.{rotate_program}
use Rattle.fort_laws.specs.WitnessFacts.{RotHasCallFacts}
use Rattle.fort_laws.proofs.WitnessLists.{nothing_among, ◌also◌}
use Rattle.fort_laws.proofs.WitnessRotate.{units, table}
use Rattle.fort_laws.proofs.WitnessRules.{calls_fall}

falls : {i j : ℕ} → Calls units i j → j < i
falls c = calls_fall rotate_program (refl also refl also tt) c

abbrev none : List ℕ
none = []

first_stands : CanStand units none 0
first_stands = record { unit = omega arith; new = λ m. nothing_among 0 m; behind = λ j c. let f = falls c in absurd (omega arith) }

second_stands : CanStand units (0 ∷ []) 1
second_stands = record { unit = omega arith; new = not_first; behind = λ j c. let f = falls c in subst (λ (k : ℕ). IsAmong {A = ℕ} k (0 ∷ [])) (is_first j f) (0, refl) }
  where
    not_first : IsAmong {A = ℕ} 1 (0 ∷ []) → ⊥
    not_first (zero, e) = absurd cc
    not_first (suc k, e) = absurd cc

    is_first : (j : ℕ) → j < 1 → 0 ≡ j
    is_first j f = omega arith

second_is_least : (j : ℕ) → CanStand units (0 ∷ []) j → 1 ≤ j
second_is_least zero c = absurd (c.new (0, refl))
second_is_least (suc j) c = omega arith

all_stand : (i : ℕ) → i < 2 → IsAmong {A = ℕ} i (0 ∷ 1 ∷ [])
all_stand zero h = (0, refl)
all_stand (suc zero) h = (1, refl)
all_stand (suc (suc i)) h = absurd (omega arith)

pub rot_has_call_facts : RotHasCallFacts
rot_has_call_facts = record {
  order = record { grows = next (next start first_stands (λ j c. omega arith)) second_stands second_is_least; whole = all_stand };
  table = record { holds = table; rows = refl also refl also tt };
  smashes = refl;
  callees = refl also refl also tt;
}
