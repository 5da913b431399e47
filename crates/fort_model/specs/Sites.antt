-- The numbers of calls. The calls of a unit, CALL statements and references to FUNCTIONs alike, are
-- numbered from 1 in the order in which the called names stand in its text.
use Rattle.std.specs.Prelude.{ℕ, ◌+◌, List, [], ◌∷◌, take}
use Rattle.fort_syntax.specs.Names.{Applied, Element, BuiltIn, Reference, applied}
use Rattle.fort_syntax.specs.TreePatterns.{only, carried, row_of}
use mathlib.Core.Former.{Count}
use Rattle.fort_syntax.specs.declared.expr.Expr.{Expr, Row_of-Expr, end_of-Expr, more_of-Expr}
use Rattle.fort_syntax.specs.declared.expr.Expr.TheVariants.{Const, Truth, Var, Apply', Paren', Pos', Neg', Power', Bin', Rel', Not', And', Or'}
use Rattle.fort_syntax.specs.declared.stmt.Stmt.{Stmt}
use Rattle.fort_syntax.specs.declared.stmt.Stmt.TheVariants.{Assign, ArithIf, LogicalIf', Call, BlockIf, ElseIf}
use Rattle.fort_syntax.specs.declared.unit.Line.{Line}
use Rattle.fort_syntax.specs.declared.unit.Unit.{Unit as Routine}

-- elements and intrinsic functions are no calls
abbrev pub own_call : Applied → ℕ
own_call (Element dims) = 0
own_call (BuiltIn i) = 0
own_call Reference = 1

-- how many calls stand in an expression, and in a row of arguments
abbrev mutual
  pub calls_in : Routine → Expr → ℕ
  calls_in u (Const c) = 0
  calls_in u (Truth b) = 0
  calls_in u (Var x) = 0
  calls_in u (Apply' f _ args) = own_call (applied u f) + calls_in_row u args
  calls_in u (Paren' _ (only a)) = calls_in u a
  calls_in u (Pos' _ (only a)) = calls_in u a
  calls_in u (Neg' _ (only a)) = calls_in u a
  calls_in u (Power' _ (only a) n) = calls_in u a
  calls_in u (Bin' o _ (only a) _ (only b)) = calls_in u a + calls_in u b
  calls_in u (Rel' o _ (only a) _ (only b)) = calls_in u a + calls_in u b
  calls_in u (Not' _ (only a)) = calls_in u a
  calls_in u (And' _ (only a) _ (only b)) = calls_in u a + calls_in u b
  calls_in u (Or' _ (only a) _ (only b)) = calls_in u a + calls_in u b

  pub calls_in_row : Routine → {m : Count} → Row_of-Expr m → ℕ
  calls_in_row u end_of-Expr = 0
  calls_in_row u (more_of-Expr e es) = calls_in u e + calls_in_row u es

-- how many calls stand in a statement
abbrev pub calls_of : Routine → Stmt → ℕ
calls_of u (Assign left right) = calls_in u left + calls_in u right
calls_of u (ArithIf e l m n) = calls_in u e
calls_of u (LogicalIf' e _ (carried s)) = calls_in u e + calls_of u s
calls_of u (Call f args) = 1 + calls_in_row u (row_of args)
calls_of u (BlockIf e) = calls_in u e
calls_of u (ElseIf e) = calls_in u e
calls_of u _ = 0

abbrev pub calls_of_lines : Routine → List Line → ℕ
calls_of_lines u [] = 0
calls_of_lines u (line ∷ lines) = calls_of u line.stmt + calls_of_lines u lines

-- how many calls stand in the statements of a unit before the one at a point
abbrev pub calls_before : Routine → ℕ → ℕ
calls_before u pc = calls_of_lines u (take pc u.lines)
