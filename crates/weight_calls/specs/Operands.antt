-- What operands are by their weights.
use Rattle.std.specs.Prelude.{ℕ, Option, Some, None}
use Rattle.fort_syntax.specs.declared.name.Name.{Name}
use Rattle.fort_model.specs.WalkCalls as model
use Rattle.weight_calls.specs.declared.operands.Operand.{Operand}
use Rattle.weight_calls.specs.declared.operands.Operand.TheVariants.{Bare, Part, Computed}

-- an operand as the model has it
abbrev pub operand_of : Operand → model.Operand ℕ
operand_of (Bare x n) = model.Bare x n
operand_of (Part n) = model.Part n
operand_of (Computed n) = model.Computed n

-- its name, where it is a bare one
abbrev pub bare_of : model.Operand ℕ → Option Name
bare_of (model.Bare x n) = Some x
bare_of (model.Part n) = None
bare_of (model.Computed n) = None
