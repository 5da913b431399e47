-- Calls go as in the model.
use Rattle.std.specs.Prelude.{ℕ, ◌≡◌, ◌<◌, ◌^◌, List, [], ◌∷◌, length, None, slice_get}
use Rattle.run_shapes.specs.declared.instr.Instr.TheVariants.{Refer}
use Rattle.run_shapes.specs.declared.unit_code.Code.{Code}
use Rattle.run_state.specs.Shows.{unit_code, World, IsWorldOf}
use Rattle.run_state.specs.Rests.{Same, Stepped}
use Rattle.run_state.specs.Obeyed.{Obeys}
use Rattle.run_state.specs.declared.machine.Frame.{Frame}
use Rattle.run_state.specs.declared.machine.Setting.{Setting}
use Rattle.run_state.specs.declared.machine.Stage.TheVariants as stage
use Rattle.run_state.specs.declared.machine.State.{State}
use Rattle.run_calls.specs.Calls.{AreSizesOf, entered, left, referred}

-- the instruction of a call is obeyed
abbrev pub CallsAreObeyed : Type 0
CallsAreObeyed =
    (code : Code) (setting : Setting) (place : ℕ) (m : State) → length m.cells.items < 2 ^ 64
    → Obeys code setting (Refer place) m (referred code setting (unit_code code m.frame.unit)
    (slice_get (unit_code code m.frame.unit).calls place) m)

-- entering a unit is a step
abbrev pub UnitsAreEntered : Type 0
UnitsAreEntered =
    (code : Code) (setting : Setting) (sizes : List ℕ) (m : State) → ((w : World) → IsWorldOf code setting w
    → AreSizesOf w.units m.frame.unit sizes) → m.stage ≡ stage.Entering
    → Stepped code setting m (entered sizes (unit_code code m.frame.unit).shared m)

-- the first of some frames, where there is one, has a base that is a number of the machine
abbrev pub IsNear : List Frame → Type 0
IsNear [] = Unit {0}
IsNear (n ∷ ns) = n.base < 2 ^ 64

-- at the end of a unit leaving it takes no step
abbrev pub UnitsAreLeft : Type 0
UnitsAreLeft =
    (code : Code) (setting : Setting) (m : State) → length m.cells.items < 2 ^ 64 → IsNear m.callers.items
    → m.stage ≡ stage.Between
    → slice_get (unit_code code m.frame.unit).lines m.frame.line ≡ None
    → Same code setting m (left code setting (unit_code code m.frame.unit) m)
