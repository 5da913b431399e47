-- The order in which each unit stands behind those that it calls.
use Rattle.std.specs.Prelude.{ℕ, ◌<◌, ◌≤◌, List, [], ◌∷◌, length, reverse}
use Rattle.fort_syntax.specs.declared.unit.Unit.{Unit as Routine}
use Rattle.fort_model.specs.Lists.{IsAmong}
use Rattle.fort_model.specs.Calls.{Calls}

-- behind some units another one can stand: it is none of them, and they are all that it calls
pub record CanStand (units : List Routine) (done : List ℕ) (i : ℕ) : Type 0 where
  pub unit : i < length units
  pub new : IsAmong i done → ⊥
  pub behind : (j : ℕ) → Calls units i j → IsAmong j done

-- units, the last one first, each of which was the first of the deck that could stand next
pub data Grows (units : List Routine) : List ℕ → Type 0 where
  start : Grows units []
  next : {done : List ℕ} {i : ℕ} → Grows units done → CanStand units done i → ((j : ℕ) → CanStand units done j
      → i ≤ j) → Grows units (i ∷ done)

-- Each unit stands in the order, once, behind those that it calls; of two that could stand next the one earlier in the deck does.
pub record IsCallOrder (units : List Routine) (order : List ℕ) : Type 0 where
  pub grows : Grows units (reverse order)
  pub whole : (i : ℕ) → i < length units → IsAmong i order
