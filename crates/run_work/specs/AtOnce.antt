-- Assignments of sums and differences, whose instructions are done at once.
use Rattle.std.specs.Prelude.{ℕ, ◌≡◌, Bool, true, false, Option, Some, None, Result, Ok, Err}
use Rattle.formula.specs.declared.value.Cell.{Cell}
use Rattle.fort_syntax.specs.declared.condition.Kind.{Kind}
use Rattle.fort_model.specs.Storage.{store}
use Rattle.fort_model.specs.declared.bounds.Bounds.{Bounds}
use Rattle.fort_syntax.specs.declared.dialect.BinOp.{BinOp}
use Rattle.fort_syntax.specs.declared.dialect.BinOp.TheVariants as op
use Rattle.run_held.specs.Sums.{constant_to, operated_to}
use Rattle.run_shapes.specs.declared.instr.Instr.{Instr}
use Rattle.run_shapes.specs.declared.instr.Instr.TheVariants as instr
use Rattle.run_state.specs.Deeds.{extent_at, with_cells}
use Rattle.run_state.specs.Rests.{Works}
use Rattle.run_state.specs.declared.machine.Setting.{Setting}
use Rattle.run_state.specs.declared.machine.State.{State}
use Rattle.run_elements.specs.Elements.{read_to}
use Rattle.run_work.specs.Ways.{CanWork, Stays}
use Rattle.run_work.specs.declared.program.Program.{Program}

-- a value, where there is no error
abbrev pub value_of : Result Cell Kind → Option Cell
value_of (Ok c) = Some c
value_of (Err kind) = None

-- the value that a constant or a defined name puts behind the others; none by any other instruction
abbrev pub operand_to : Setting → Instr → State → Option Cell
operand_to s (instr.Number n) m = value_of (constant_to s.bounds n)
operand_to s (instr.Load slot) m = value_of (read_to m.cells.items (extent_at m slot).first)
operand_to s _ m = None

-- a sum or a difference, where it is no error; none by the other operators
abbrev pub plain_to : Bounds → BinOp → Cell → Cell → Option Cell
plain_to b op.Add v w = value_of (operated_to b op.Add v w)
plain_to b op.Sub v w = value_of (operated_to b op.Sub v w)
plain_to b _ v w = None

-- what an operator makes so of two values, where there are two
abbrev pub made_of : Bounds → BinOp → Option Cell → Option Cell → Option Cell
made_of b sign (Some v) (Some w) = plain_to b sign v w
made_of b sign (Some v) None = None
made_of b sign None o = None

-- the value that two operands and an operator put behind the others; none by any other instructions
abbrev pub sum_to : Setting → Instr → Instr → Instr → State → Option Cell
sum_to s a b (instr.Operation sign) m = made_of s.bounds sign (operand_to s a m) (operand_to s b m)
sum_to s a b _ m = None

-- whether it is the assignment
abbrev pub is_assignment : Instr → Bool
is_assignment instr.Assigned = true
is_assignment _ = false

-- the slot of the name whose cells are taken
abbrev pub slot_of : Instr → Option ℕ
slot_of (instr.Place slot) = Some slot
slot_of _ = None

-- a name gets a value, and the flow goes on at an instruction
abbrev pub assigned_at : ℕ → Cell → ℕ → State → State
assigned_at slot c place m =
    with_cells (store m.cells.items (extent_at m slot).first c) (record m { frame = record m.frame { place = place } })

-- instructions were done, or nothing was
abbrev pub MayAct : Bool → Program → State → State → Type 0
MayAct true p old new = Works p.code.now p.setting.now old new × CanWork p new × Stays old new
MayAct false p old new = new ≡ old
