-- What instructions do to a state that lead elsewhere.
use Rattle.std.specs.Prelude.{◌≡◌, ◌<◌, ℕ, ◌+◌, Bool, true, false, cond, ℤ, pos, int_lt, List, take, drop, Result, Ok, Err, Option, Some, None, get_or, slice_get}
use Rattle.formula.specs.Values.{count}
use Rattle.formula.specs.declared.value.Cell.{Cell}
use Rattle.formula.specs.declared.value.Cell.TheVariants.{Int}
use Rattle.fort_syntax.specs.declared.condition.Kind.{Kind}
use Rattle.fort_syntax.specs.declared.condition.Kind.TheVariants.{ChoiceCheck, ResultCheck}
use Rattle.fort_syntax.specs.declared.dialect.Dialect.{Dialect}
use Rattle.fort_syntax.specs.declared.dialect.Dialect.TheVariants.{Common, SeventySeven}
use Rattle.fort_model.specs.Cells.{num, holds, is_defined, same}
use Rattle.fort_model.specs.Flow.{chosen}
use Rattle.fort_model.specs.Storage.{load, store}
use Rattle.run_intrinsics.specs.Loops.{begun_to}
use Rattle.run_shapes.specs.declared.instr.Instr.{Instr}
use Rattle.run_shapes.specs.declared.instr.Instr.TheVariants as instr
use Rattle.run_shapes.specs.declared.unit_code.Code.{Code}
use Rattle.run_shapes.specs.declared.unit_code.UnitCode.{UnitCode}
use Rattle.run_state.specs.Deeds.{under_in, extent_at, with_stage, with_values, with_cells, advanced, skipped, gone_to, put_to_test, failed, lost}
use Rattle.run_state.specs.Obeyed.{Obeys, IsPlain}
use Rattle.run_state.specs.Rests.{Same}
use Rattle.run_state.specs.Shows.{unit_code}
use Rattle.run_state.specs.declared.machine.Setting.{Setting}
use Rattle.run_state.specs.declared.machine.Stage.TheVariants as stage
use Rattle.run_state.specs.declared.machine.State.{State}
use Rattle.run_elements.specs.Elements.{IsReady, value_below, did_forget}

-- on to a point, with so many values let go
abbrev pub left_for : ℕ → ℕ → State → State
left_for depth q m = gone_to q (with_values (under_in depth m.values.items) m)

-- the carried statement where the newest value is true; it is let go
abbrev pub turned : Bool → State → State
turned true m = with_stage stage.Carried (skipped 1 (did_forget m))
turned false m = did_forget m

abbrev pub did_turn : State → State
did_turn m = turned (holds (value_below 0 m)) m

-- on to one of three points by the sign of the newest value
abbrev pub point_by_sign : Cell → ℕ → ℕ → ℕ → ℕ
point_by_sign v l z r = cond (int_lt (num v) (pos 0)) l (cond (same v (Int (pos 0))) z r)

abbrev pub did_signs : UnitCode → ℕ → State → State
did_signs unit place m =
    left_for 1 (point_by_sign (value_below 0 m) (get_or unit.targets place 0) (get_or unit.targets (place + 1) 0)
    (get_or unit.targets (place + 2) 0)) m

-- on to one of two points, by whether the newest value is true
abbrev pub did_ways : ℕ → ℕ → State → State
did_ways q r m = left_for 1 (cond (holds (value_below 0 m)) q r) m

-- a computed GO TO goes on to a point; where its number counts none that is an error, but under 77 the flow goes on behind
abbrev pub chose : Dialect → Option ℕ → State → State
chose d (Some q) m = left_for 1 q m
chose Common None m = failed ChoiceCheck m
chose SeventySeven None m = did_forget m

-- the point that a number counts, among so many from a place of a table on
abbrev pub point_at : List ℕ → ℕ → ℕ → ℤ → Option ℕ
point_at targets place n i = chosen (take n (drop place targets)) (count i)

abbrev pub did_choose : Dialect → UnitCode → ℕ → ℕ → State → State
did_choose d unit place n m = chose d (point_at unit.targets place n (num (value_below 0 m))) m

-- a cell of a name gets a content
abbrev pub with_content : ℕ → Cell → State → State
with_content slot c m = with_cells (store m.cells.items (extent_at m slot).first c) m

-- a DO with a variable is entered at a point, or passed over
abbrev pub begun : Result Bool Kind → ℕ → ℕ → ℤ → State → State
begun (Ok true) slot q first m = left_for 3 q (with_content slot (Int first) m)
begun (Ok false) slot q first m = with_values (under_in 3 m.values.items) (with_content slot (Int first) m)
begun (Err kind) slot q first m = failed kind m

abbrev pub did_begin : Dialect → Setting → ℕ → ℕ → State → State
did_begin d s slot q m = begun (begun_to d s.bounds (num (value_below 2 m)) (num (value_below 1 m))
    (num (value_below 0 m))) slot q (num (value_below 2 m)) m

-- the value of a FUNCTION must be defined
abbrev pub did_result : UnitCode → State → State
did_result unit m = cond unit.is_function (cond (is_defined (load m.cells.items (extent_at m unit.value).first)) m
    (failed ResultCheck m)) m

-- ---- each instruction

-- what an instruction does; there is none of other forms
abbrev pub led : Dialect → UnitCode → Setting → Instr → State → State
led d unit s (instr.Go card q) m = gone_to q m
led d unit s (instr.Tests card place) m = put_to_test card place m
led d unit s (instr.Jump q) m = gone_to q m
led d unit s instr.Turn m = did_turn m
led d unit s (instr.Signs place) m = did_signs unit place m
led d unit s (instr.Ways q r) m = did_ways q r m
led d unit s (instr.Choose place n) m = did_choose d unit place n m
led d unit s (instr.BeginDo slot q) m = did_begin d s slot q m
led d unit s instr.ResultOf m = did_result unit m
led d unit s _ m = lost m

-- the same by the code of the unit that is run
abbrev pub led_by : Code → Setting → Instr → State → State
led_by code s i m = led code.dialect (unit_code code m.frame.unit) s i m

-- the instructions that take one piece of work in the model too
abbrev pub is_jump : Instr → Bool
is_jump (instr.Tests card place) = true
is_jump (instr.Jump q) = true
is_jump instr.Turn = true
is_jump (instr.Signs place) = true
is_jump (instr.Ways q r) = true
is_jump (instr.Choose place n) = true
is_jump (instr.BeginDo slot q) = true
is_jump instr.ResultOf = true
is_jump instr.Stop = true
is_jump _ = false

-- the instructions do what the model says, and need no room
abbrev pub JumpsAreObeyed : Type 0
JumpsAreObeyed = (code : Code) (setting : Setting) (i : Instr) (m : State) → is_jump i ≡ true → IsReady code i m
    → Obeys code setting i m (led_by code setting i m) × IsPlain m (led_by code setting i m)

-- where no DO is tested the model puts none to the test first, and the state goes to the point at once
abbrev pub PointsAreReached : Type 0
PointsAreReached = (code : Code) (setting : Setting) (card q : ℕ) (m : State) → m.stage ≡ stage.Inside
    → m.frame.place < m.frame.stop
    → slice_get (unit_code code m.frame.unit).instrs m.frame.place ≡ Some (instr.Go card q)
    → Same code setting m (gone_to q (advanced m)) × IsPlain (advanced m) (gone_to q (advanced m))
