-- The names in statements, in the order of the text, and what they are used as.
use Rattle.std.specs.Prelude.{ℕ, List, [], ◌∷◌, ◌++◌, length, flat_map, Option, Some, None}
use mathlib.Core.Former.{Count}
use Rattle.fort_syntax.specs.TreePatterns.{only, carried, listed}
use Rattle.fort_syntax.specs.declared.name.Name.{Name}
use Rattle.fort_syntax.specs.declared.expr.Expr.{Expr, Row_of-Expr, end_of-Expr, more_of-Expr}
use Rattle.fort_syntax.specs.declared.expr.Expr.TheVariants.{Const, Truth, Var, Apply', Paren', Pos', Neg', Power', Bin', Rel', Not', And', Or'}
use Rattle.fort_syntax.specs.declared.stmt.Param.{Param}
use Rattle.fort_syntax.specs.declared.stmt.Param.TheVariants.{Fixed, Named}
use Rattle.fort_syntax.specs.declared.stmt.Stmt.{Stmt}
use Rattle.fort_syntax.specs.declared.stmt.Stmt.TheVariants.{Assign, GoTo, Computed, ArithIf, LogicalIf', Do, Call, BlockIf, ElseIf}

-- how a name stands in an executable statement: as a value that is read; as the bare left side of an
-- assignment, or one with so many subscripts; as the variable of a DO; before so many expressions in
-- brackets; bare in the brackets behind another name; as a bare actual of a CALL; as the called name
pub data Use : Type 0 where
  read : Use
  assigned : Use
  assigned_element : ℕ → Use
  counted : Use
  applied : ℕ → Use
  argument_of : Name → Use
  actual : Use
  called : Use

pub record Occurrence : Type 0 where
  pub name : Name
  pub «use» : Use

abbrev pub occurrence : Name → Use → Occurrence
occurrence x how = record { name = x; «use» = how }

-- the names in an expression, which is itself read, or is an argument or an actual
abbrev mutual
  pub uses_in : Use → Expr → List Occurrence
  uses_in how (Const n) = []
  uses_in how (Truth b) = []
  uses_in how (Var x) = occurrence x how ∷ []
  uses_in how (Apply' f _ args) = occurrence f (applied (length (listed args))) ∷ uses_in_row (argument_of f) args
  uses_in how (Paren' _ (only a)) = uses_in read a
  uses_in how (Pos' _ (only a)) = uses_in read a
  uses_in how (Neg' _ (only a)) = uses_in read a
  uses_in how (Power' _ (only a) n) = uses_in read a
  uses_in how (Bin' o _ (only a) _ (only b)) = uses_in read a ++ uses_in read b
  uses_in how (Rel' o _ (only a) _ (only b)) = uses_in read a ++ uses_in read b
  uses_in how (Not' _ (only a)) = uses_in read a
  uses_in how (And' _ (only a) _ (only b)) = uses_in read a ++ uses_in read b
  uses_in how (Or' _ (only a) _ (only b)) = uses_in read a ++ uses_in read b

  pub uses_in_row : Use → {m : Count} → Row_of-Expr m → List Occurrence
  uses_in_row how end_of-Expr = []
  uses_in_row how (more_of-Expr e es) = uses_in how e ++ uses_in_row how es

-- the left side of an assignment
abbrev pub uses_on_left : Expr → List Occurrence
uses_on_left (Var x) = occurrence x assigned ∷ []
uses_on_left (Apply' f _ args) = occurrence f (assigned_element (length (listed args))) ∷ uses_in_row read args
uses_on_left _ = []

abbrev pub uses_of_param : Param → List Occurrence
uses_of_param (Fixed n) = []
uses_of_param (Named x) = occurrence x read ∷ []

abbrev pub uses_of_step : Option Param → List Occurrence
uses_of_step None = []
uses_of_step (Some p) = uses_of_param p

-- the names in an executable statement
abbrev pub uses_of : Stmt → List Occurrence
uses_of (Assign left right) = uses_on_left left ++ uses_in read right
uses_of (Computed labels x) = occurrence x read ∷ []
uses_of (ArithIf e l m n) = uses_in read e
uses_of (LogicalIf' e _ (carried s)) = uses_in read e ++ uses_of s
uses_of (Do label x first last step) = occurrence x counted ∷ (uses_of_param first ++ uses_of_param last ++ uses_of_step step)
uses_of (Call f args) = occurrence f called ∷ flat_map (uses_in actual) args
uses_of (BlockIf e) = uses_in read e
uses_of (ElseIf e) = uses_in read e
uses_of _ = []

-- an expression and all expressions in it
abbrev mutual
  pub parts : Expr → List Expr
  parts (Const n) = Const n ∷ []
  parts (Truth b) = Truth b ∷ []
  parts (Var x) = Var x ∷ []
  parts (Apply' f m args) = Apply' f m args ∷ parts_of_row args
  parts (Paren' m (only a)) = Paren' m (only a) ∷ parts a
  parts (Pos' m (only a)) = Pos' m (only a) ∷ parts a
  parts (Neg' m (only a)) = Neg' m (only a) ∷ parts a
  parts (Power' m (only a) n) = Power' m (only a) n ∷ parts a
  parts (Bin' o m (only a) n (only b)) = Bin' o m (only a) n (only b) ∷ (parts a ++ parts b)
  parts (Rel' o m (only a) n (only b)) = Rel' o m (only a) n (only b) ∷ (parts a ++ parts b)
  parts (Not' m (only a)) = Not' m (only a) ∷ parts a
  parts (And' m (only a) n (only b)) = And' m (only a) n (only b) ∷ (parts a ++ parts b)
  parts (Or' m (only a) n (only b)) = Or' m (only a) n (only b) ∷ (parts a ++ parts b)

  pub parts_of_row : {m : Count} → Row_of-Expr m → List Expr
  parts_of_row end_of-Expr = []
  parts_of_row (more_of-Expr e es) = parts e ++ parts_of_row es

-- the expressions of a statement, each side of an assignment among them
abbrev pub expressions : Stmt → List Expr
expressions (Assign left right) = left ∷ right ∷ []
expressions (ArithIf e l m n) = e ∷ []
expressions (LogicalIf' e _ (carried s)) = e ∷ expressions s
expressions (Call f args) = args
expressions (BlockIf e) = e ∷ []
expressions (ElseIf e) = e ∷ []
expressions _ = []

-- all expressions in a statement
abbrev pub all_parts : Stmt → List Expr
all_parts s = flat_map parts (expressions s)

-- the labels that a statement names, a DO's own among them
abbrev pub used_labels : Stmt → List ℕ
used_labels (GoTo label) = label ∷ []
used_labels (Computed labels x) = labels
used_labels (ArithIf e l m n) = l ∷ m ∷ n ∷ []
used_labels (LogicalIf' e _ (carried s)) = used_labels s
used_labels (Do label x first last step) = label ∷ []
used_labels _ = []
