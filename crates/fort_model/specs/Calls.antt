-- The calls in the text of a unit, and which unit calls which.
use Rattle.std.specs.Prelude.{◌≡◌, ℕ, Bool, true, false, cond, List, [], ◌∷◌, ◌++◌, Option, Some, slice_get}
use Rattle.fort_syntax.specs.TreePatterns.{only, carried, row_of, listed}
use Rattle.fort_syntax.specs.Names.{Applied, Element, BuiltIn, Reference, applied, function, subroutine}
use mathlib.Core.Former.{Count}
use Rattle.fort_syntax.specs.declared.name.Name.{Name}
use Rattle.fort_syntax.specs.declared.expr.Expr.{Expr, Row_of-Expr, end_of-Expr, more_of-Expr}
use Rattle.fort_syntax.specs.declared.expr.Expr.TheVariants.{Const, Truth, Var, Apply', Paren', Pos', Neg', Power', Bin', Rel', Not', And', Or'}
use Rattle.fort_syntax.specs.declared.stmt.Stmt.{Stmt}
use Rattle.fort_syntax.specs.declared.stmt.Stmt.TheVariants.{Assign, ArithIf, LogicalIf', Call, BlockIf, ElseIf}
use Rattle.fort_syntax.specs.declared.unit.Line.{Line}
use Rattle.fort_syntax.specs.declared.unit.Unit.{Unit as Routine}
use Rattle.fort_model.specs.Lists.{IsAmong}

-- a call: whether it is a reference to a FUNCTION or a CALL, the called name, and the actuals in order
pub record CallSite : Type 0 where
  pub reference : Bool
  pub callee : Name
  pub actuals : List Expr

-- elements and intrinsic functions are no calls
abbrev pub own_site : Applied → Name → List Expr → List CallSite
own_site (Element dims) f es = []
own_site (BuiltIn i) f es = []
own_site Reference f es = record { reference = true; callee = f; actuals = es } ∷ []

-- the calls in an expression, and in a row of arguments, in the order of the called names in the text
abbrev mutual
  pub sites_in : Routine → Expr → List CallSite
  sites_in u (Const c) = []
  sites_in u (Truth b) = []
  sites_in u (Var x) = []
  sites_in u (Apply' f _ args) = own_site (applied u f) f (listed args) ++ sites_in_row u args
  sites_in u (Paren' _ (only a)) = sites_in u a
  sites_in u (Pos' _ (only a)) = sites_in u a
  sites_in u (Neg' _ (only a)) = sites_in u a
  sites_in u (Power' _ (only a) n) = sites_in u a
  sites_in u (Bin' o _ (only a) _ (only b)) = sites_in u a ++ sites_in u b
  sites_in u (Rel' o _ (only a) _ (only b)) = sites_in u a ++ sites_in u b
  sites_in u (Not' _ (only a)) = sites_in u a
  sites_in u (And' _ (only a) _ (only b)) = sites_in u a ++ sites_in u b
  sites_in u (Or' _ (only a) _ (only b)) = sites_in u a ++ sites_in u b

  pub sites_in_row : Routine → {m : Count} → Row_of-Expr m → List CallSite
  sites_in_row u end_of-Expr = []
  sites_in_row u (more_of-Expr e es) = sites_in u e ++ sites_in_row u es

-- the calls in a statement
abbrev pub sites_of : Routine → Stmt → List CallSite
sites_of u (Assign left right) = sites_in u left ++ sites_in u right
sites_of u (ArithIf e l m n) = sites_in u e
sites_of u (LogicalIf' e _ (carried s)) = sites_in u e ++ sites_of u s
sites_of u (Call f args) = record { reference = false; callee = f; actuals = args } ∷ sites_in_row u (row_of args)
sites_of u (BlockIf e) = sites_in u e
sites_of u (ElseIf e) = sites_in u e
sites_of u _ = []

-- the number of the unit that a call is of
abbrev pub callee_of : List Routine → CallSite → Option ℕ
callee_of units site = cond site.reference (function units site.callee) (subroutine units site.callee)

-- a call of the unit of number j in the unit of number i
pub record Calls (units : List Routine) (i j : ℕ) : Type 0 where
  pub caller : Routine
  pub callee : Routine
  pub is_caller : slice_get units i ≡ Some caller
  pub is_callee : slice_get units j ≡ Some callee
  pub line : Line
  pub is_line : IsAmong line caller.lines
  pub site : CallSite
  pub is_site : IsAmong site (sites_of caller line.stmt)
  pub is_of : callee_of units site ≡ Some j

-- a unit calls another, directly or through others
pub data Reaches (units : List Routine) : ℕ → ℕ → Type 0 where
  directly : {i j : ℕ} → Calls units i j → Reaches units i j
  through : {i j k : ℕ} → Calls units i j → Reaches units j k → Reaches units i k
