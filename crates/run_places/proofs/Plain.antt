-- An element needs room for one item at most.
use Rattle.std.proofs.Common.{◌≡◌, ℕ, ◌+◌, ◌≤◌, ◌∷◌, length, Option, Some, None, refl, arith}
use Rattle.fort_syntax.specs.declared.condition.Kind.TheVariants.{SubscriptCheck}
use Rattle.run_shapes.specs.Seen.{shape_at}
use Rattle.run_shapes.specs.declared.instr.Instr.TheVariants.{Array}
use Rattle.run_shapes.specs.declared.unit_code.Code.{Code}
use Rattle.run_state.specs.Near.{far}
use Rattle.run_state.specs.Deeds.{under_in, extent_at}
use Rattle.run_state.specs.Obeyed.{IsPlain}
use Rattle.run_state.specs.Shows.{unit_code}
use Rattle.run_state.specs.declared.machine.Extent.{Extent}
use Rattle.run_state.specs.declared.machine.Item.TheVariants.{Cells}
use Rattle.run_state.specs.declared.machine.Stage.TheVariants as stage
use Rattle.run_state.specs.declared.machine.State.{State}
use Rattle.run_elements.specs.Elements.{IsReady}
use Rattle.run_elements.proofs.Plain.{under_short, under_within, on_plain, failed_plain}
use Rattle.run_places.specs.Arrays.{did_array, place_by, took}
use Rattle.run_places.specs.declared.places.Place.{Place}

took_plain : (m : State) → m.stage ≡ stage.Inside → (n : ℕ) (e : Extent) (o : Option Place) → IsPlain m (took n e o m)
took_plain m inside n e None = failed_plain m SubscriptCheck
took_plain m inside n e (Some p) =
    let short : length (under_in n m.values.items) ≤ length m.values.items = under_short n m.values.items in
    on_plain m inside m.frame.place (Cells (record { first = far (e.first + p.offset); size = 1 }) ∷ under_in n m.values.items) m.cells.items (omega arith) (omega arith) refl
    (λ most one es h. (one, under_within most n m.values.items h))

pub plain : (code : Code) (slot n : ℕ) (m : State) → IsReady code (Array slot n) m → IsPlain m (did_array (unit_code code m.frame.unit) slot n m)
plain code slot n m ready =
    took_plain m ready.inside n (extent_at m slot) (place_by m (unit_code code m.frame.unit).slots (shape_at (unit_code code m.frame.unit).slots slot) n)
