-- Statements whose parts have the types that their places demand.
use Rattle.std.specs.Prelude.{ℕ, ◌≡◌, Bool, true, false, List, [], ◌∷◌, length}
use Rattle.fort_syntax.specs.Names.{Element, applied, dims_of, is_function}
use Rattle.fort_syntax.specs.TreePatterns.{carried, row_of}
use mathlib.Core.Former.{Count}
use Rattle.fort_syntax.specs.declared.name.Name.{Name}
use Rattle.fort_syntax.specs.declared.dialect.Sort.{Sort}
use Rattle.fort_syntax.specs.declared.dialect.Sort.TheVariants.{Integer, Logical}
use Rattle.fort_syntax.specs.declared.expr.Expr.{Expr, Row_of-Expr}
use Rattle.fort_syntax.specs.declared.expr.Expr.TheVariants.{Var, Apply'}
use Rattle.fort_syntax.specs.declared.stmt.Dim.{Dim}
use Rattle.fort_syntax.specs.declared.stmt.Stmt.{Stmt}
use Rattle.fort_syntax.specs.declared.stmt.Stmt.TheVariants.{Assign, GoTo, Computed, ArithIf, LogicalIf', Do, Continue, Call, Return, BlockIf, ElseIf, Else, EndIf}
use Rattle.fort_syntax.specs.declared.unit.Unit.{Unit as Routine}
use Rattle.fort_model.specs.Flow.{target, Loop, loops_at, loops_around}
use Rattle.fort_laws.specs.GoodStatements.{IsParameter, IsStep}
use Rattle.fort_laws.specs.Typed.{IsScalar, IsArray, IsTyped, AreInteger, AreActual, row_length}
use Rattle.fort_laws.specs.Ways.{IsExecutable}

-- DOs whose variables and parameters are integer scalars
pub record IsTypedLoop (u : Routine) (d : Loop) : Type 0 where
  pub variable : IsScalar u Integer d.variable
  pub last : IsParameter u d.last
  pub step : IsStep u d.step

abbrev pub AreTypedLoops : Routine → List Loop → Type 0
AreTypedLoops u [] = Unit {0}
AreTypedLoops u (d ∷ ds) = IsTypedLoop u d × AreTypedLoops u ds

-- a computed GO TO has a label at least
abbrev pub HasSomeLabel : List ℕ → Type 0
HasSomeLabel [] = ⊥
HasSomeLabel (l ∷ ls) = Unit {0}

-- the own value of a FUNCTION is a scalar
abbrev pub HasOwnValue : Routine → Bool → Type 0
HasOwnValue u false = Unit {0}
HasOwnValue u true = (q : Sort) × IsScalar u q u.name

module _ (u : Routine) (IsReference : Sort → Name → List Expr → Type 0) (IsCall : Name → List Expr → Type 0) where
  -- an element on the left side of an assignment
  pub record IsTypedElement (q : Sort) (a : Name) {m : Count} (args : Row_of-Expr m) : Type 0 where
    pub dim : Dim
    pub dims : List Dim
    pub applied_is : applied u a ≡ Element (dim ∷ dims)
    pub dims_are : dims_of u a ≡ dim ∷ dims
    pub array : IsArray u q a (dim ∷ dims)
    pub many : row_length args ≡ length (dim ∷ dims)
    pub integers : AreInteger u IsReference args

  abbrev pub IsTypedLeft : Sort → Expr → Type 0
  IsTypedLeft q (Var x) = IsScalar u q x
  IsTypedLeft q (Apply' a _ args) = IsTypedElement q a args
  IsTypedLeft q _ = ⊥

  -- a statement at a point, whose parts have their types
  abbrev pub IsTypedStatement : ℕ → Stmt → Type 0
  IsTypedStatement pc (Assign left right) = (q : Sort) × IsTypedLeft q left × IsTyped u IsReference q right
      × AreTypedLoops u (loops_at u pc)
  IsTypedStatement pc (GoTo l) = Unit {0}
  IsTypedStatement pc (Computed ls x) = IsScalar u Integer x × HasSomeLabel ls × AreTypedLoops u (loops_at u pc)
  IsTypedStatement pc (ArithIf e l m n) = IsTyped u IsReference Integer e
  IsTypedStatement pc (LogicalIf' e _ (carried b)) = IsTyped u IsReference Logical e × AreTypedLoops u
      (loops_at u pc) × IsExecutable b × IsTypedStatement pc b
  IsTypedStatement pc (Do l x first last by) =
      IsScalar u Integer x × IsParameter u first × IsParameter u last × IsStep u by × AreTypedLoops u
      (loops_around u (target u.lines l) pc)
  IsTypedStatement pc Continue = AreTypedLoops u (loops_at u pc)
  IsTypedStatement pc (Call g args) = IsCall g args × AreActual u IsReference (row_of args) × AreTypedLoops u (loops_at u pc)
  IsTypedStatement pc Return = HasOwnValue u (is_function u)
  IsTypedStatement pc (BlockIf e) = IsTyped u IsReference Logical e
  IsTypedStatement pc (ElseIf e) = IsTyped u IsReference Logical e
  IsTypedStatement pc Else = AreTypedLoops u (loops_at u pc)
  IsTypedStatement pc EndIf = AreTypedLoops u (loops_at u pc)
  IsTypedStatement pc _ = ⊥
