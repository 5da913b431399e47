-- What an instruction does to a state.
use Rattle.std.specs.Prelude.{ℕ, IfSome, slice_get}
use Rattle.run_shapes.specs.declared.instr.Instr.{Instr}
use Rattle.run_shapes.specs.declared.instr.Instr.TheVariants as instr
use Rattle.run_shapes.specs.declared.unit_code.UnitCode.{UnitCode}
use Rattle.run_state.specs.declared.machine.State.{State}
use Rattle.run_calls.specs.Calls.{IsReadyFor, referred}
use Rattle.run_elements.specs.Elements.{did}
use Rattle.run_jumps.specs.Jumps.{led}
use Rattle.run_places.specs.Arrays.{did_array}
use Rattle.run_work.specs.declared.program.Program.{Program}

-- there is room for each call of a unit
abbrev pub AreCallsReady : UnitCode → State → Type 0
AreCallsReady unit m = (place : ℕ) → IfSome (slice_get unit.calls place) (IsReadyFor m)

-- the instructions that lead elsewhere, by the unit's tables
abbrev pub goes : Program → UnitCode → Instr → State → State
goes p unit i m = led p.code.now.dialect unit p.setting.now i m

-- calls, then the instructions that lead elsewhere, then elements of arrays, then the other ones of expressions
abbrev pub obeyed : Program → UnitCode → Instr → State → State
obeyed p unit (instr.Refer place) m = referred p.code.now p.setting.now unit (slice_get unit.calls place) m
obeyed p unit (instr.Go card q) m = goes p unit (instr.Go card q) m
obeyed p unit (instr.Tests card place) m = goes p unit (instr.Tests card place) m
obeyed p unit (instr.Jump q) m = goes p unit (instr.Jump q) m
obeyed p unit instr.Turn m = goes p unit instr.Turn m
obeyed p unit (instr.Signs place) m = goes p unit (instr.Signs place) m
obeyed p unit (instr.Ways q r) m = goes p unit (instr.Ways q r) m
obeyed p unit (instr.Choose place n) m = goes p unit (instr.Choose place n) m
obeyed p unit (instr.BeginDo slot q) m = goes p unit (instr.BeginDo slot q) m
obeyed p unit instr.ResultOf m = goes p unit instr.ResultOf m
obeyed p unit instr.Stop m = goes p unit instr.Stop m
obeyed p unit (instr.Array slot n) m = did_array unit slot n m
obeyed p unit i m = did p.setting.now i m
