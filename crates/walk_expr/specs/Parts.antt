-- Parts of how expressions are evaluated.
use Rattle.std.specs.Prelude.{ℕ, List}
use Rattle.formula.specs.Tree.{Tree}
use Rattle.fort_syntax.specs.Names.{Intrinsic, applied, dims_of, function}
use Rattle.fort_syntax.specs.TreePatterns.{row_of}
use Rattle.fort_syntax.specs.declared.expr.Expr.{Expr}
use Rattle.fort_syntax.specs.declared.name.Name.{Name}
use Rattle.fort_model.specs.Seen.{Named, See, ◌>>=◌, see}
use Rattle.fort_model.specs.WalkCalls.{Sight, Operand, Computed, call}
use Rattle.fort_model.specs.WalkExpr.{apply, computed, intrinsic_value, operands, value, values}
use Rattle.walk_operators.specs.Operators.{element_of, of_one, of_two}
use Rattle.walk_operators.specs.declared.operators.Binary.{Binary}
use Rattle.walk_operators.specs.declared.operators.Unary.{Unary as Single}

module _ (w : Sight Tree) (card : ℕ) (now : Named Tree) where
  -- an operator of one value
  abbrev pub of_single : Single → Expr → See Tree (Operand Tree)
  of_single op a = value w card now a >>= of_one w card op

  -- an operator of two values, behind the first of them
  abbrev pub of_second : Binary → Tree → Expr → See Tree (Operand Tree)
  of_second op v b = value w card now b >>= of_two w card op v

  -- an element of an array
  abbrev pub of_element : Name → List Expr → See Tree (Operand Tree)
  of_element a args = values w card now (row_of args) >>= element_of w card now a (dims_of w.unit a)

  -- an intrinsic function
  abbrev pub of_built_in : Intrinsic → List Expr → See Tree (Operand Tree)
  of_built_in i args = values w card now (row_of args) >>= λ vs. computed w (intrinsic_value w card i vs)

  -- a reference to a FUNCTION
  abbrev pub of_reference : Name → List Expr → See Tree (Operand Tree)
  of_reference a args = operands w card now (row_of args) >>= λ xs. call w card (function w.program.units a)
      now xs >>= λ c. see (Computed (c.1))

  -- a name with expressions in brackets behind it
  abbrev pub of_applied : Name → List Expr → See Tree (Operand Tree)
  of_applied a args = apply w card now a (applied w.unit a) (values w card now (row_of args)) (operands w card now (row_of args))
