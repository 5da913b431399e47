-- What instructions in slots and points stand for.
use Rattle.std.specs.Prelude.{ℕ, ◌+◌, ◌-◌, List, [], ◌∷◌, map, take, drop, Option, Some, None, get_or}
use Rattle.fort_syntax.specs.Names as names_of
use Rattle.fort_syntax.specs.declared.name.Name.{Name}
use Rattle.fort_syntax.specs.declared.stmt.Dim.{Dim}
use Rattle.fort_syntax.specs.declared.stmt.Dim.TheVariants as dim
use Rattle.fort_syntax.specs.declared.stmt.Param.{Param}
use Rattle.fort_syntax.specs.declared.stmt.Param.TheVariants as param
use Rattle.fort_model.specs.Flow.{Loop}
use Rattle.run_code.specs.Code as code
use Rattle.run_shapes.specs.declared.instr.Function.{Function}
use Rattle.run_shapes.specs.declared.instr.Function.TheVariants.{Absolute, Modulo, Greatest, Least}
use Rattle.run_shapes.specs.declared.instr.Instr.{Instr}
use Rattle.run_shapes.specs.declared.instr.Instr.TheVariants.{Number, One, Truth, Place, Load, Value, Negate, Raise, Operation, Comparison, Negation, SkipFalse, Both, SkipTrue, Either, Array, BuiltIn, Refer, Forget, Assigned, Go, Tests, Jump, Turn, Signs, Ways, Choose, BeginDo, ResultOf, Stop}
use Rattle.run_shapes.specs.declared.slots.Amount.{Amount}
use Rattle.run_shapes.specs.declared.slots.Amount.TheVariants.{Fixed, Named}
use Rattle.run_shapes.specs.declared.slots.Shape.{Shape}
use Rattle.run_shapes.specs.declared.slots.Slots.{Slots}
use Rattle.run_shapes.specs.declared.tests.Round.{Round}
use Rattle.run_shapes.specs.declared.tests.Test.{Test}
use Rattle.run_shapes.specs.declared.tests.Test.TheVariants as test
use Rattle.run_shapes.specs.declared.unit_code.CallCode.{CallCode}
use Rattle.run_shapes.specs.declared.unit_code.UnitCode.{UnitCode}

-- some neighbours of a list: from one place up to another, which is not among them
abbrev pub piece : {X : Type 0} → ℕ → ℕ → List X → List X
piece start stop xs = take (stop - start) (drop start xs)

-- ---- names

-- the name of a slot; no letters where there is no such slot
abbrev pub name_at : Slots → ℕ → Name
name_at slots slot = get_or slots.names slot []

-- a dimension, and a parameter of a DO
abbrev pub dim_of : Slots → Amount → Dim
dim_of slots (Fixed n) = dim.Fixed n
dim_of slots (Named slot) = dim.Named (name_at slots slot)

abbrev pub param_of : Slots → Amount → Param
param_of slots (Fixed n) = param.Fixed n
param_of slots (Named slot) = param.Named (name_at slots slot)

abbrev pub step_of : Slots → Option Amount → Option Param
step_of slots None = None
step_of slots (Some amount) = Some (param_of slots amount)

-- the dimensions of a shape, and those of the name of a slot
abbrev pub dims_by : Slots → Shape → List Dim
dims_by slots shape = map (dim_of slots) (take shape.rank (drop shape.first slots.sizes))

abbrev pub shape_at : Slots → ℕ → Shape
shape_at slots slot = get_or slots.shapes slot (record { first = 0; rank = 0 })

abbrev pub dims_at : Slots → ℕ → List Dim
dims_at slots slot = dims_by slots (shape_at slots slot)

-- ---- tests of DOs

abbrev pub loop_of : Slots → Round → Loop
loop_of slots round = record {
  at = round.at;
  variable = name_at slots round.variable;
  last = param_of
      slots round.last;
  step = step_of slots round.step;
}

-- the DOs before the point where the flow goes on, and that point
abbrev pub loops_of : Slots → List Test → List Loop
loops_of slots [] = []
loops_of slots (test.Loop round ∷ tests) = loop_of slots round ∷ loops_of slots tests
loops_of slots (test.Out point ∷ tests) = []

abbrev pub out_of : List Test → ℕ
out_of [] = 0
out_of (test.Loop round ∷ tests) = out_of tests
out_of (test.Out point ∷ tests) = point

-- ---- instructions

abbrev pub intrinsic_of : Function → names_of.Intrinsic
intrinsic_of Absolute = names_of.Absolute
intrinsic_of Modulo = names_of.Modulo
intrinsic_of Greatest = names_of.Greatest
intrinsic_of Least = names_of.Least

abbrev pub refer_by : CallCode → code.Instr
refer_by call = code.refer call.number call.callee call.actuals

abbrev pub call_at : List CallCode → ℕ → CallCode
call_at calls place = get_or calls place (record { number = 0; callee = None; actuals = 0 })

-- what an instruction stands for, by the slots of its unit and the tables of tests, calls and targets
abbrev pub seen : Slots → List Test → List CallCode → List ℕ → Instr → code.Instr
seen slots tests calls targets (Number n) = code.number n
seen slots tests calls targets One = code.one
seen slots tests calls targets (Truth b) = code.truth b
seen slots tests calls targets (Place slot) = code.place (name_at slots slot)
seen slots tests calls targets (Load slot) = code.load (name_at slots slot)
seen slots tests calls targets Value = code.value
seen slots tests calls targets Negate = code.negate
seen slots tests calls targets (Raise n) = code.raise n
seen slots tests calls targets (Operation o) = code.operation o
seen slots tests calls targets (Comparison o) = code.comparison o
seen slots tests calls targets Negation = code.negation
seen slots tests calls targets (SkipFalse n) = code.skip_false n
seen slots tests calls targets Both = code.both
seen slots tests calls targets (SkipTrue n) = code.skip_true n
seen slots tests calls targets Either = code.either
seen slots tests calls targets (Array slot n) = code.array (name_at slots slot) (dims_at slots slot) n
seen slots tests calls targets (BuiltIn f n) = code.built_in (intrinsic_of f) n
seen slots tests calls targets (Refer place) = refer_by (call_at calls place)
seen slots tests calls targets Forget = code.forget
seen slots tests calls targets Assigned = code.assigned
seen slots tests calls targets (Go card point) = code.test_loops card point []
seen slots tests calls targets (Tests card place) = code.test_loops card (out_of (drop place tests))
    (loops_of slots (drop place tests))
seen slots tests calls targets (Jump point) = code.jump point
seen slots tests calls targets Turn = code.turn
seen slots tests calls targets (Signs place) = code.signs (get_or targets place 0) (get_or targets (place + 1) 0)
    (get_or targets (place + 2) 0)
seen slots tests calls targets (Ways q r) = code.ways q r
seen slots tests calls targets (Choose place count) = code.choose (take count (drop place targets))
seen slots tests calls targets (BeginDo slot point) = code.begin_do (name_at slots slot) point
seen slots tests calls targets ResultOf = code.result_of
seen slots tests calls targets Stop = code.stop

-- the same in a unit's code
abbrev pub seen_in : UnitCode → Instr → code.Instr
seen_in unit = seen unit.slots unit.tests unit.calls unit.targets
