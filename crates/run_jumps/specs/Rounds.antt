-- What one test of a DO does to a state.
use Rattle.std.specs.Prelude.{◌≡◌, ◌<◌, ◌^◌, suc, ◌+◌, Bool, true, false, pos, ◌+ℤ◌, int_le, length, Result, Ok, Err, Option, Some, None, slice_get}
use Rattle.formula.specs.declared.value.Cell.{Cell}
use Rattle.formula.specs.declared.value.Cell.TheVariants.{Int}
use Rattle.fort_syntax.specs.declared.condition.Kind.{Kind}
use Rattle.fort_syntax.specs.declared.dialect.Dialect.{Dialect}
use Rattle.fort_model.specs.Cells.{num}
use Rattle.fort_model.specs.Perform.{left_with}
use Rattle.run_held.specs.Sums.{constant_to, ranged_to}
use Rattle.run_shapes.specs.Coded.{TestHasSlots}
use Rattle.run_shapes.specs.declared.slots.Amount.{Amount}
use Rattle.run_shapes.specs.declared.slots.Amount.TheVariants.{Fixed, Named}
use Rattle.run_shapes.specs.declared.tests.Round.{Round}
use Rattle.run_shapes.specs.declared.tests.Test.TheVariants.{Loop}
use Rattle.run_shapes.specs.declared.unit_code.Code.{Code}
use Rattle.run_state.specs.Deeds.{extent_at, gone_to, put_to_test, failed}
use Rattle.run_state.specs.Obeyed.{IsPlain}
use Rattle.run_state.specs.Rests.{Stepped}
use Rattle.run_state.specs.Shows.{unit_code}
use Rattle.run_state.specs.declared.machine.Setting.{Setting}
use Rattle.run_state.specs.declared.machine.Stage.TheVariants as stage
use Rattle.run_state.specs.declared.machine.State.{State}
use Rattle.run_elements.specs.Elements.{read_to}
use Rattle.run_jumps.specs.Jumps.{with_content}

-- a last value or a step
abbrev pub amount_to : Setting → State → Amount → Result Cell Kind
amount_to s m (Fixed c) = constant_to s.bounds c
amount_to s m (Named slot) = read_to m.cells.items (extent_at m slot).first

-- a step, which is 1 where none is given
abbrev pub step_to : Setting → State → Option Amount → Result Cell Kind
step_to s m None = Ok (Int (pos 1))
step_to s m (Some amount) = amount_to s m amount

-- a DO goes round again, or is left for the next test
abbrev pub went_round : Dialect → Round → Bool → Cell → State → State
went_round d round true sum m = gone_to (suc round.at) (with_content round.variable sum m)
went_round d round false sum m = put_to_test m.frame.card (m.frame.place + 1) (with_content round.variable (left_with d sum) m)

-- on with a value, or an error
abbrev pub then_so : Result Cell Kind → (Cell → State → State) → State → State
then_so (Ok c) next m = next c m
then_so (Err kind) next m = failed kind m

-- by the sum of its variable and its step, and its last value
abbrev pub did_round : Dialect → Setting → Round → Result Cell Kind → State → State
did_round d s round sum m = then_so sum (λ sum m. then_so (amount_to s m round.last) (λ last m.
    went_round d round (int_le (num sum) (num last)) sum m) m) m

abbrev pub did_test : Dialect → Setting → Round → State → State
did_test d s round m =
    then_so (read_to m.cells.items (extent_at m round.variable).first)
    (λ i m. then_so (step_to s m round.step) (λ by m. did_round d s round (ranged_to s.bounds (num i +ℤ num by)) m) m)
    m

-- a state in which the test of a DO stands next, whose slots are there
pub record IsReadyToTest (code : Code) (round : Round) (m : State) : Type 0 where
  pub testing : m.stage ≡ stage.Testing
  pub stands : slice_get (unit_code code m.frame.unit).tests m.frame.place ≡ Some (Loop round)
  pub cells_near : length m.cells.items < 2 ^ 64
  pub has_slots : TestHasSlots (length (unit_code code m.frame.unit).slots.names) (Loop round)

-- a test takes a step as the model says, and needs no room
abbrev pub RoundsAreTaken : Type 0
RoundsAreTaken = (code : Code) (setting : Setting) (round : Round) (m : State) → IsReadyToTest code round m
    → Stepped code setting m (did_test code.dialect setting round m) × IsPlain m (did_test code.dialect setting round m)
