-- Where named values stand for the cells of a unit's names, and what expressions then come to.
use Rattle.std.specs.Prelude.{ℕ, ◌+◌, ◌<◌, ◌≡◌, true, false, pos, List, Some}
use Rattle.fort_syntax.specs.Names.{data_name, function, unit_at}
use Rattle.formula.specs.declared.value.Cell.{Cell}
use Rattle.formula.specs.declared.value.Cell.TheVariants as cell
use Rattle.formula.specs.declared.value.Value.{Value}
use Rattle.formula.specs.declared.value.Value.TheVariants.{Int}
use Rattle.formula.specs.Values.{is_between, of_cell}
use Rattle.formula.specs.Worth.{Function}
use Rattle.fort_syntax.specs.declared.name.Name.{Name}
use Rattle.fort_syntax.specs.declared.dialect.Sort.{Sort}
use Rattle.fort_syntax.specs.declared.dialect.Sort.TheVariants.{Integer, Logical}
use Rattle.fort_syntax.specs.declared.expr.Expr.{Expr}
use Rattle.fort_syntax.specs.declared.unit.DataName.{DataName}
use Rattle.fort_syntax.specs.declared.unit.Unit.{Unit as Routine}
use Rattle.fort_model.specs.Conditions.{sight}
use Rattle.fort_model.specs.Correct.{held_in}
use Rattle.fort_model.specs.Evaluate as run
use Rattle.fort_model.specs.Evaluate.{Scene}
use Rattle.fort_model.specs.Passing.{Taken, Cells, Fresh, Caller, call, passed}
use Rattle.fort_model.specs.Places.{dim_values, stretch}
use Rattle.fort_model.specs.Processor.{Processor, MeetsBound}
use Rattle.fort_model.specs.Program.{Program}
use Rattle.fort_model.specs.Seen.{Named}
use Rattle.fort_model.specs.Senses.{of_values}
use Rattle.fort_model.specs.Storage.{Storage, Environment, load}
use Rattle.fort_model.specs.Symbols.{Symbol, LeastInteger, GreatestInteger}
use Rattle.fort_model.specs.WalkCalls as walk_call
use Rattle.fort_model.specs.WalkCalls.{Operand, Bare, Part, Computed}
use Rattle.fort_model.specs.WalkExpr as walk
use Rattle.fort_laws.specs.Actuals.{ArePassed}
use Rattle.fort_laws.specs.Called.{IsReferenceTo}
use Rattle.fort_laws.specs.Matches.{Matches, Same}
use Rattle.fort_laws.specs.Typed.{IsTyped}

-- a value is that of a cell
abbrev pub IsOf : Value → Cell → Type 0
IsOf v c = v ≡ of_cell c

-- a cell holds a value of a type; an integer is one of the processor's
abbrev pub IsSort : Processor → Sort → Cell → Type 0
IsSort p Integer (cell.Int z) = is_between p.least p.greatest z ≡ true
IsSort p Integer (cell.Logical b) = ⊥
IsSort p Integer cell.Undefined = ⊥
IsSort p Logical (cell.Int z) = ⊥
IsSort p Logical (cell.Logical b) = Unit {0}
IsSort p Logical cell.Undefined = ⊥

-- a value is that of a cell, which holds a value of a type
abbrev pub Of : Processor → Sort → Value → Cell → Type 0
Of p sort v c = IsOf v c × IsSort p sort c

-- a cell is undefined or holds a value of a type
abbrev pub MayBe : Processor → Sort → Cell → Type 0
MayBe p sort (cell.Int z) = IsSort p sort (cell.Int z)
MayBe p sort (cell.Logical b) = IsSort p sort (cell.Logical b)
MayBe p sort cell.Undefined = Unit {0}

module _ (p : Processor) (u : Routine) (env : Environment) (st : Storage) where
  -- the named values stand for the cells of the unit's names, which have their sizes and types
  pub record Standing (now : Named Value) : Type 0 where
    pub names : (x : Name) (d : DataName) → data_name u x ≡ Some d → now x ≡ held_in d.dims st (env x)
    pub sizes : (x : Name) (d : DataName) → data_name u x ≡ Some d → pos (env x).size ≡ stretch (dim_values env st d.dims)
    pub sorts : (x : Name) (d : DataName) → data_name u x ≡ Some d → (k : ℕ) → k < (env x).size
        → MayBe p d.sort (load st ((env x).first + k))

module _ (s : Scene) (st : Storage) (now : Named Value) where
  -- an operand of a walk and what a run takes: a value of a type, in a cell or fresh
  abbrev pub OperandOf : Sort → Operand Value → Taken → Type 0
  OperandOf q (Bare x v) (Cells e) = (e ≡ s.environment x) × (v ≡ now x) × (v ≡ of_cell (load st e.first))
      × MayBe s.processor q (load st e.first)
  OperandOf q (Bare x v) (Fresh c) = ⊥
  OperandOf q (Part v) (Cells e) = (v ≡ of_cell (load st e.first)) × MayBe s.processor q (load st e.first) × (e.size ≡ 1)
  OperandOf q (Part v) (Fresh c) = ⊥
  OperandOf q (Computed v) (Cells e) = ⊥
  OperandOf q (Computed v) (Fresh c) = Of s.processor q v c

module _ (fs : List Function) (values : Symbol → Value) (program : Program) (i : ℕ) (s : Scene) (caller : Caller)
    (st : Storage) (now : Named Value)
    (IsReference : Sort → Name → List Expr → Type 0) where
  -- what is wanted of a reference: its walk and its run match, and leave the storage as it is
  abbrev pub CallsMatch : Type 0
  CallsMatch =
      (card k : ℕ) (q : Sort) (a : Name) (es : List Expr) (xs : List (Operand Value)) (ts : List Taken)
      → IsReference q a es → ArePassed s st now es xs ts
      → Matches (Same st (λ r c. Of s.processor q (r.1) c))
      (walk_call.call (sight (of_values fs values) program i s.unit) card (function program.units a) now xs)
      (call caller s.environment (unit_at s.units (function s.units a)) (passed (s.processor.copies s.unit.name k) 1 ts)) st

  -- an expression of a type comes to values that belong together, in the storage as it was; or its first check that is false is
  -- the error of the run
  abbrev pub ExpressionMatches : Type 0
  ExpressionMatches =
      (e : Expr) (q : Sort) (card k : ℕ) → IsTyped s.unit IsReference q e
      → Matches (Same st (Of s.processor q)) (walk.value (sight (of_values fs values) program i s.unit) card now e)
      (run.evaluate s caller card k e) st

-- On a strict processor that has all integers up to the bound, where named values stand for cells and references to functions
-- match, all expressions do.
abbrev pub ExpressionsMatch : Type 0
ExpressionsMatch =
    (fs : List Function) (values : Symbol → Value) (program : Program) (i : ℕ) (s : Scene) (caller : Caller)
    (st : Storage) (now : Named Value)
    → values LeastInteger ≡ Int s.processor.least → values GreatestInteger ≡ Int s.processor.greatest → s.processor.lazy ≡ false
    → MeetsBound s.processor program.bound
    → Standing s.processor s.unit s.environment st now
    → CallsMatch fs values program i s caller st now (IsReferenceTo program i s.unit)
    → ExpressionMatches fs values program i s caller st now (IsReferenceTo program i s.unit)
