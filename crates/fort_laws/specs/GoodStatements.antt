-- Statements whose parts have the types that their places demand, and which write only what may be written; and that walks and
-- strict runs then perform them alike.
use Rattle.std.specs.Prelude.{ℕ, ◌+◌, ◌≤◌, ◌≡◌, Bool, true, false, List, [], ◌∷◌, length, Option, Some, None}
use mathlib.Core.Former.{Count}
use Rattle.std.specs.List.{list_all}
use Rattle.fort_syntax.specs.Names.{Element, applied, data_name, dims_of, is_function, subroutine, unit_at}
use Rattle.formula.specs.Atoms.{same_bytes}
use Rattle.fort_syntax.specs.TreePatterns.{carried, row_of}
use Rattle.formula.specs.declared.value.Value.{Value}
use Rattle.formula.specs.declared.value.Value.TheVariants.{Int}
use Rattle.formula.specs.Worth.{Function}
use Rattle.fort_syntax.specs.declared.name.Name.{Name}
use Rattle.fort_syntax.specs.declared.dialect.Sort.{Sort}
use Rattle.fort_syntax.specs.declared.dialect.Sort.TheVariants.{Integer, Logical}
use Rattle.fort_syntax.specs.declared.expr.Expr.{Expr, Row_of-Expr}
use Rattle.fort_syntax.specs.declared.expr.Expr.TheVariants.{Var, Apply'}
use Rattle.fort_syntax.specs.declared.stmt.Dim.{Dim}
use Rattle.fort_syntax.specs.declared.stmt.Dim.TheVariants.{Fixed, Named as Adjustable}
use Rattle.fort_syntax.specs.declared.stmt.Param.{Param}
use Rattle.fort_syntax.specs.declared.stmt.Param.TheVariants as param
use Rattle.fort_syntax.specs.declared.stmt.Stmt.{Stmt}
use Rattle.fort_syntax.specs.declared.stmt.Stmt.TheVariants.{Assign, GoTo, Computed, ArithIf, LogicalIf', Do, Continue, Call, Return, BlockIf, ElseIf, Else, EndIf}
use Rattle.fort_syntax.specs.declared.unit.DataName.{DataName}
use Rattle.fort_syntax.specs.declared.unit.Unit.{Unit as Routine}
use Rattle.fort_model.specs.Conditions.{sight}
use Rattle.fort_model.specs.Evaluate.{Scene}
use Rattle.fort_model.specs.Fits.{IsIn, is_good_dim}
use Rattle.fort_model.specs.Flow.{leads, target, Loop, loops_at, loops_around}
use Rattle.fort_model.specs.Passing.{Taken, Caller, call, passed}
use Rattle.fort_model.specs.Perform.{perform}
use Rattle.fort_model.specs.Processor.{Processor, MeetsBound}
use Rattle.fort_model.specs.Program.{Program}
use Rattle.fort_model.specs.Seen.{Named}
use Rattle.fort_model.specs.Senses.{of_values}
use Rattle.fort_model.specs.Storage.{Storage, Environment}
use Rattle.fort_model.specs.Symbols.{Symbol, LeastInteger, GreatestInteger}
use Rattle.fort_model.specs.WalkCalls as walk
use Rattle.fort_model.specs.WalkCalls.{Operand}
use Rattle.fort_model.specs.WalkStmt.{performed}
use Rattle.fort_laws.specs.Actuals.{ArePassed}
use Rattle.fort_laws.specs.Called.{IsReferenceTo, IsCallTo}
use Rattle.fort_laws.specs.Matches.{Matches}
use Rattle.fort_laws.specs.Standing.{Standing, CallsMatch}
use Rattle.fort_laws.specs.StepMatches.{StepMatches}
use Rattle.fort_laws.specs.Typed.{IsScalar, IsArray, IsTyped, AreInteger, AreActual, row_length}
use Rattle.fort_laws.specs.Ways.{IsExecutable}

module _ (u : Routine) (env : Environment) where
  -- none of these dimensions has the name
  abbrev pub DimsAreOther : Name → List Dim → Type 0
  DimsAreOther x [] = Unit {0}
  DimsAreOther x (Fixed n ∷ ds) = DimsAreOther x ds
  DimsAreOther x (Adjustable z ∷ ds) = (same_bytes x z ≡ false) × DimsAreOther x ds

  -- a name of the unit may be written: no cell of it is one of another name, and it is no dimension
  pub record MayBeWritten (x : Name) : Type 0 where
    pub apart : (y : Name) (d : DataName) → data_name u y ≡ Some d → same_bytes x y ≡ false → (k : ℕ)
        → IsIn k (env x) → IsIn k (env y) → ⊥
    pub no_dim : (y : Name) (d : DataName) → data_name u y ≡ Some d → DimsAreOther x d.dims

  -- each adjustable dimension of a name is a scalar of the unit
  abbrev pub DimsAreScalars : List Dim → Type 0
  DimsAreScalars [] = Unit {0}
  DimsAreScalars (Fixed n ∷ ds) = DimsAreScalars ds
  DimsAreScalars (Adjustable z ∷ ds) = ((d : DataName) × (data_name u z ≡ Some d) × (1 ≤ (env z).size)) × DimsAreScalars ds

-- named values stand for cells, which lie in the storage; adjustable dimensions are at least 1
pub record Stood (p : Processor) (u : Routine) (env : Environment) (now : Named Value) (st : Storage) : Type 0 where
  pub standing : Standing p u env st now
  pub good : (x : Name) (d : DataName) → data_name u x ≡ Some d → list_all (is_good_dim env st) d.dims ≡ true
  pub within : (x : Name) (d : DataName) → data_name u x ≡ Some d → (env x).first + (env x).size ≤ length st

-- what is wanted of a unit: its adjustable dimensions are scalars of it
abbrev pub HasScalarDims : Routine → Environment → Type 0
HasScalarDims u env = (y : Name) (d : DataName) → data_name u y ≡ Some d → DimsAreScalars u env d.dims

-- ---- parameters of DOs

-- a parameter is a constant or an integer scalar
abbrev pub IsParameter : Routine → Param → Type 0
IsParameter u (param.Fixed n) = Unit {0}
IsParameter u (param.Named x) = IsScalar u Integer x

abbrev pub IsStep : Routine → Option Param → Type 0
IsStep u None = Unit {0}
IsStep u (Some m) = IsParameter u m

-- a DO whose variable is an integer scalar that may be written
pub record IsGoodLoop (u : Routine) (env : Environment) (d : Loop) : Type 0 where
  pub variable : IsScalar u Integer d.variable
  pub may : MayBeWritten u env d.variable
  pub last : IsParameter u d.last
  pub step : IsStep u d.step

abbrev pub AreGoodLoops : Routine → Environment → List Loop → Type 0
AreGoodLoops u env [] = Unit {0}
AreGoodLoops u env (d ∷ ds) = IsGoodLoop u env d × AreGoodLoops u env ds

-- ---- statements

module _ (u : Routine) (env : Environment) (IsReference : Sort → Name → List Expr → Type 0)
    (IsCall : Name → List Expr → Type 0) where
  -- the left side of an assignment: a scalar or an element of a type, whose name may be written
  pub record IsGoodElement (q : Sort) (a : Name) {m : Count} (args : Row_of-Expr m) : Type 0 where
    pub dim : Dim
    pub dims : List Dim
    pub applied_is : applied u a ≡ Element (dim ∷ dims)
    pub dims_are : dims_of u a ≡ dim ∷ dims
    pub array : IsArray u q a (dim ∷ dims)
    pub may : MayBeWritten u env a
    pub many : row_length args ≡ length (dim ∷ dims)
    pub integers : AreInteger u IsReference args

  abbrev pub IsLeft : Sort → Expr → Type 0
  IsLeft q (Var x) = IsScalar u q x × MayBeWritten u env x
  IsLeft q (Apply' a _ args) = IsGoodElement q a args
  IsLeft q _ = ⊥

  abbrev pub HasLabels : List ℕ → Type 0
  HasLabels [] = ⊥
  HasLabels (l ∷ ls) = Unit {0}

  -- the own value of a FUNCTION
  abbrev pub HasResult : Bool → Type 0
  HasResult false = Unit {0}
  HasResult true = (q : Sort) × IsScalar u q u.name

  abbrev pub HasGoodLoops : ℕ → Type 0
  HasGoodLoops pc = AreGoodLoops u env (loops_at u pc)

  -- a statement at a point, whose parts have their types, and which writes only what may be written
  abbrev pub IsGood : ℕ → Stmt → Type 0
  IsGood pc (Assign left right) = (q : Sort) × IsLeft q left × IsTyped u IsReference q right × HasGoodLoops pc
  IsGood pc (GoTo l) = Unit {0}
  IsGood pc (Computed ls x) = IsScalar u Integer x × HasLabels ls × HasGoodLoops pc
  IsGood pc (ArithIf e l m n) = IsTyped u IsReference Integer e
  IsGood pc (LogicalIf' e _ (carried b)) = IsTyped u IsReference Logical e × HasGoodLoops pc × IsExecutable b × IsGood pc b
  IsGood pc (Do l x first last by) =
      IsScalar u Integer x × MayBeWritten u env x × IsParameter u first × IsParameter u last × IsStep u by
      × AreGoodLoops u env (loops_around u (target u.lines l) pc)
  IsGood pc Continue = HasGoodLoops pc
  IsGood pc (Call g args) = IsCall g args × AreActual u IsReference (row_of args) × HasGoodLoops pc
  IsGood pc Return = HasResult (is_function u)
  IsGood pc (BlockIf e) = IsTyped u IsReference Logical e
  IsGood pc (ElseIf e) = IsTyped u IsReference Logical e
  IsGood pc Else = HasGoodLoops pc
  IsGood pc EndIf = HasGoodLoops pc
  IsGood pc _ = ⊥

-- ---- the law

module _ (fs : List Function) (values : Symbol → Value) (program : Program) (i : ℕ) (s : Scene) (caller : Caller) where
  -- what is wanted of CALLs: the walk and the run of a call match, and named values stand for cells afterwards
  abbrev pub CallStatementsMatch : (Name → List Expr → Type 0) → Type 0
  CallStatementsMatch IsCall =
      (st : Storage) (now : Named Value) → Stood s.processor s.unit s.environment now st
      → (card k : ℕ) (g : Name) (args : List Expr) (xs : List (Operand Value)) (ts : List Taken) → IsCall g args
      → ArePassed s st now args xs ts
      → Matches (λ r c after. Stood s.processor s.unit s.environment (r.0) after)
      (walk.call (sight (of_values fs values) program i s.unit) card (subroutine program.units g) now xs)
      (call caller s.environment (unit_at s.units (subroutine s.units g)) (passed (s.processor.copies s.unit.name k) 1 ts)) st

  abbrev pub ReferencesMatch : (Sort → Name → List Expr → Type 0) → Type 0
  ReferencesMatch IsReference = (st : Storage) (now : Named Value) → Stood s.processor s.unit s.environment now st
      → CallsMatch fs values program i s caller st now IsReference

  -- a statement at a point, by choices that lead on
  abbrev pub StatementsStep : (Sort → Name → List Expr → Type 0) → (Name → List Expr → Type 0) → Type 0
  StatementsStep IsReference IsCall =
      (st : Storage) (now : Named Value) → Stood s.processor s.unit s.environment now st
      → (stmt : Stmt) (card pc k : ℕ) → IsGood s.unit s.environment IsReference IsCall pc stmt
      → StepMatches (λ (cs : List ℕ). cs) (leads s.processor.dialect s.unit pc stmt)
      (λ cs. performed (sight (of_values fs values) program i s.unit) card pc now stmt cs)
      (perform s caller card pc k stmt) (Stood s.processor s.unit s.environment) st

-- On a strict processor of the program's dialect that has all integers up to the bound, where named values
-- stand for cells and calls match, all statements do.
abbrev pub StatementsMatch : Type 0
StatementsMatch =
    (fs : List Function) (values : Symbol → Value) (program : Program) (i : ℕ) (s : Scene) (caller : Caller)
    → values LeastInteger ≡ Int s.processor.least → values GreatestInteger ≡ Int s.processor.greatest → s.processor.lazy ≡ false
    → MeetsBound s.processor program.bound
    → s.processor.dialect ≡ program.dialect → HasScalarDims s.unit s.environment
    → ReferencesMatch fs values program i s caller (IsReferenceTo program i s.unit)
    → CallStatementsMatch fs values program i s caller (IsCallTo program i s.unit)
    → StatementsStep fs values program i s caller (IsReferenceTo program i s.unit) (IsCallTo program i s.unit)
