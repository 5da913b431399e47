-- The law of calls: a called unit that ends well makes the walk and the run of a call match.
use Rattle.std.specs.Prelude.{ℕ, ◌+◌, ◌<◌, ◌≡◌, ◌≢◌, true, false, List, [], Some, slice_get}
use Rattle.fort_syntax.specs.Names.{is_function, unit_at}
use Rattle.formula.specs.declared.value.Cell.{Cell}
use Rattle.formula.specs.declared.value.Cell.TheVariants as cell
use Rattle.formula.specs.declared.value.Value.{Value}
use Rattle.formula.specs.declared.value.Value.TheVariants.{Int}
use Rattle.fort_syntax.specs.declared.name.Name.{Name}
use Rattle.fort_syntax.specs.declared.dialect.Sort.{Sort}
use Rattle.fort_syntax.specs.declared.expr.Expr.{Expr}
use Rattle.fort_syntax.specs.declared.unit.DataName.{DataName}
use Rattle.fort_syntax.specs.declared.unit.Role.TheVariants.{InCommon, OwnValue}
use Rattle.fort_syntax.specs.declared.unit.Unit.{Unit as Routine}
use Rattle.fort_model.specs.Arguments.{same_sort_as, sort_of_expr}
use Rattle.fort_model.specs.Calls.{Calls, callee_of}
use Rattle.fort_model.specs.Cells.{is_defined}
use Rattle.fort_model.specs.Conditions.{sight}
use Rattle.fort_model.specs.Correct.{IsMet, names_hold}
use Rattle.fort_model.specs.Evaluate.{Scene}
use Rattle.fort_model.specs.Fits.{IsIn, IsVisible, IsApart, Fits, has_sort}
use Rattle.fort_model.specs.Lists.{IsAmong}
use Rattle.fort_model.specs.Outcome.{Ended}
use Rattle.fort_model.specs.Passing.{Taken, call, passed}
use Rattle.fort_model.specs.Processor.{Processor}
use Rattle.fort_model.specs.Program.{Program, notes_of}
use Rattle.fort_model.specs.Run.{run}
use Rattle.fort_model.specs.Seen.{Named}
use Rattle.fort_model.specs.Senses.{of_values}
use Rattle.fort_model.specs.Smashes.{Smashes, HoldsSmashed}
use Rattle.fort_model.specs.Storage.{Storage, Environment, load}
use Rattle.fort_model.specs.Symbols.{Symbol, LeastInteger, GreatestInteger}
use Rattle.fort_model.specs.WalkCalls as walk
use Rattle.fort_model.specs.WalkCalls.{Operand}
use Rattle.fort_laws.specs.Actuals.{ArePassed}
use Rattle.fort_laws.specs.Frame.{HasName, AreSound, SharesBlocks, FunctionsSmashNothing}
use Rattle.fort_laws.specs.Called.{IsReferenceTo, IsCallTo}
use Rattle.fort_laws.specs.GoodStatements.{Stood, ReferencesMatch, CallStatementsMatch}
use Rattle.fort_laws.specs.Matches.{Matches}
use Rattle.fort_laws.specs.Standing.{IsOf}

-- ---- what is wanted of declarations

-- The names of a unit: dummies are data names; the own value of a FUNCTION is a scalar of its type with the unit's name, and no
-- COMMON entity has that name.
pub record HasNames (u : Routine) : Type 0 where
  pub dummies : (n : ℕ) (x : Name) → slice_get u.dummies n ≡ Some x → HasName u x
  pub own : (d : DataName) → IsAmong d u.names → d.role ≡ OwnValue → (d.name ≡ u.name) × (u.sort ≡ Some d.sort) × (d.dims ≡ [])
  pub function : is_function u ≡ true → (d : DataName) × IsAmong d u.names × (d.name ≡ u.name) × (d.role ≡ OwnValue)
  pub common : (d : DataName) → IsAmong d u.names → d.role ≡ InCommon → d.name ≢ u.name

-- a call agrees in types, of actuals and dummies, and of COMMON entities; and no data name of the caller has
-- the called unit's name
pub record Agrees {units : List Routine} {i j : ℕ} (c : Calls units i j) : Type 0 where
  pub apart : (d : DataName) → IsAmong d c.caller.names → d.name ≢ c.callee.name
  pub dummies : (d : DataName) (n : ℕ) (e : Expr) → IsAmong d c.callee.names → slice_get c.callee.dummies n
      ≡ Some d.name → slice_get c.site.actuals n ≡ Some e
      → same_sort_as d.sort (sort_of_expr c.caller e) ≡ true
  pub commons : (d e : DataName) → IsAmong d c.callee.names → d.role ≡ InCommon → IsAmong e c.caller.names
      → e.name ≡ d.name → e.sort ≡ d.sort

-- ---- units that end well

-- the cells of a data name are undefined or have its type, in the processor's range
abbrev pub HoldsName : Processor → Environment → Storage → DataName → Type 0
HoldsName p env st d = (k : ℕ) → k < (env d.name).size → has_sort p d.sort (load st ((env d.name).first + k)) ≡ true

-- With some number of steps a run ends, whatever more there are: visible names still hold things of their types, the value of a
-- FUNCTION is defined and has its type, and OUTPUT is met.
pub record EndsRight (p : Processor) (program : Program) (j : ℕ) (g : Routine) (env : Environment) (st : Storage) : Type 0 where
  pub cost : ℕ
  pub after : Storage
  pub value : Cell
  pub ends : (n : ℕ) → run p program.units g env st (cost + n) ≡ Ended value after n
  pub sorts : (d : DataName) → IsVisible g d → HoldsName p env after d
  pub result : (q : Sort) → g.sort ≡ Some q → (is_defined value ≡ true) × (has_sort p q value ≡ true)
  pub nothing : is_function g ≡ false → value ≡ cell.Undefined
  pub met : IsMet program.functions p (names_hold g env st cell.Undefined) (names_hold g env after value)
      (notes_of program j).output

-- from each storage that fits, where smashed names lie apart and INPUT is met, a unit ends well
abbrev pub IsRight : Processor → Program → ℕ → Routine → Type 0
IsRight p program j g =
    (env : Environment) (st : Storage) → IsApart program.units j g env → Fits p g env st
    → IsMet program.functions p (names_hold g env st cell.Undefined) (names_hold g env st cell.Undefined)
    (notes_of program j).input
    → EndsRight p program j g env st

-- ---- the law

-- a unit of a program, on a processor, with its environment
abbrev pub at_home : Processor → Program → Routine → Environment → Scene
at_home p program u env = record { processor = p; units = program.units; unit = u; environment = env }

-- cells of a name that the unit smashes are those of no other name of it
abbrev pub LieApart : List Routine → ℕ → Routine → Environment → Type 0
LieApart units i u env =
    (d e : DataName) → IsAmong d u.names → IsAmong e u.names → Smashes units i d.name → d.name ≢ e.name
    → (k : ℕ) → IsIn k (env d.name) → IsIn k (env e.name) → ⊥

-- What a call leaves: named values stand for cells; the walk's value of a function is that of the run, of its type; and where the
-- called unit smashes no name that the caller sees, the storage is as it was.
pub record Leaves (program : Program) {i j : ℕ} (c : Calls program.units i j) (p : Processor) (env : Environment)
    (st : Storage) (r : Named Value × Value) (v : Cell) (after : Storage) : Type 0 where
  pub stood : Stood p c.caller env (r.0) after
  pub is : IsOf (r.1) v
  pub sorted : (q : Sort) → c.callee.sort ≡ Some q → (is_defined v ≡ true) × (has_sort p q v ≡ true)
  pub kept : ((d : DataName) → IsVisible c.callee d → Smashes program.units j d.name → ⊥) → after ≡ st

-- On a processor, in a program whose units and calls are sound and agree: where named values stand for cells,
-- and a called unit is right, the walk and the run of a call match, whichever arguments pass by copy.
abbrev pub CallsAreMatched : Type 0
CallsAreMatched =
    (values : Symbol → Value) (program : Program) (p : Processor) (i j : ℕ) (c : Calls program.units i j) (env : Environment)
    → values LeastInteger ≡ Int p.least → values GreatestInteger ≡ Int p.greatest
    → AreSound program.units → HoldsSmashed program → SharesBlocks program.units → Agrees c → HasNames c.callee
    → IsRight p program j c.callee → LieApart program.units i c.caller env
    → (st : Storage) (now : Named Value) → Stood p c.caller env now st
    → (card k : ℕ) (os : List (Operand Value)) (ts : List Taken)
    → ArePassed (at_home p program c.caller env) st now c.site.actuals os ts
    → Matches (Leaves program c p env st) (walk.call (sight (of_values program.functions values) program i c.caller)
    card (callee_of program.units c.site) now os)
    (call (run p program.units) env (unit_at program.units (callee_of program.units c.site))
    (passed (p.copies c.caller.name k) 1 ts)) st

-- ---- the calls of a unit

-- the calls of a unit agree with the units that they are of, which are right
pub record CallsAreRight (p : Processor) (program : Program) (i : ℕ) : Type 0 where
  pub agrees : (j : ℕ) (c : Calls program.units i j) → Agrees c
  pub names : (j : ℕ) (c : Calls program.units i j) → HasNames c.callee
  pub right : (j : ℕ) (c : Calls program.units i j) → IsRight p program j c.callee

-- then all references and CALLs of the unit match, as the laws of expressions and statements take it
abbrev pub UnitCallsMatch : Type 0
UnitCallsMatch =
    (values : Symbol → Value) (program : Program) (p : Processor) (i : ℕ) (u : Routine) (env : Environment)
    → values LeastInteger ≡ Int p.least → values GreatestInteger ≡ Int p.greatest
    → AreSound program.units → HoldsSmashed program → SharesBlocks program.units
    → FunctionsSmashNothing program.units → CallsAreRight p program i → LieApart program.units i u env
    → ReferencesMatch program.functions values program i (at_home p program u env) (run p program.units)
    (IsReferenceTo program i u)
    × CallStatementsMatch program.functions values program i (at_home p program u env) (run p program.units)
    (IsCallTo program i u)
