-- Short names for the patterns of trees.
use Rattle.std.specs.Prelude.{List, [], ◌∷◌}
use mathlib.Core.Former.{Count, none_left, one_more}
use Rattle.fort_syntax.specs.declared.expr.Expr.{Expr, Row_of-Expr, end_of-Expr, more_of-Expr}
use Rattle.fort_syntax.specs.declared.stmt.Stmt.{Stmt, Row_of-Stmt, end_of-Stmt, more_of-Stmt}

-- the expression that a bracket, a sign or an operator has in one of its places
pattern abbrev pub only : Expr → Row_of-Expr (one_more none_left)
only e = more_of-Expr e end_of-Expr

-- the statement that a logical IF carries
pattern abbrev pub carried : Stmt → Row_of-Stmt (one_more none_left)
carried s = more_of-Stmt s end_of-Stmt

-- the expressions in the brackets behind a name, as a list
abbrev pub listed : {m : Count} → Row_of-Expr m → List Expr
listed end_of-Expr = []
listed (more_of-Expr e es) = e ∷ listed es

-- a list of expressions as a row, which is how an expression has its arguments
abbrev pub row_size : List Expr → Count
row_size [] = none_left
row_size (e ∷ es) = one_more (row_size es)

abbrev pub row_of : (es : List Expr) → Row_of-Expr (row_size es)
row_of [] = end_of-Expr
row_of (e ∷ es) = more_of-Expr e (row_of es)
