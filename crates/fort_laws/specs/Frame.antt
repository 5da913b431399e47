-- What a run leaves as it was: a unit changes only cells of names that it smashes.
use Rattle.std.specs.Prelude.{◌≡◌, ◌≢◌, ◌<◌, ◌≤◌, ℕ, true, false, List, [], ◌∷◌, length, Some, slice_get}
use Rattle.fort_syntax.specs.Names.{is_function, has_common, commons}
use Rattle.formula.specs.declared.value.Cell.{Cell}
use Rattle.fort_syntax.specs.declared.name.Name.{Name}
use Rattle.fort_syntax.specs.declared.expr.Expr.{Expr}
use Rattle.fort_syntax.specs.declared.expr.Expr.TheVariants.{Const, Var}
use Rattle.fort_syntax.specs.declared.stmt.Dim.{Dim}
use Rattle.fort_syntax.specs.declared.stmt.Dim.TheVariants.{Fixed, Named}
use Rattle.fort_syntax.specs.declared.unit.DataName.{DataName}
use Rattle.fort_syntax.specs.declared.unit.Line.{Line}
use Rattle.fort_syntax.specs.declared.unit.Role.TheVariants.{Dummy, InCommon}
use Rattle.fort_syntax.specs.declared.unit.Unit.{Unit as Routine}
use Rattle.fort_model.specs.Arguments.{mentions, dims_of_actual}
use Rattle.fort_model.specs.Calls.{CallSite, Calls, sites_in, sites_of}
use Rattle.fort_model.specs.Evaluate.{evaluate}
use Rattle.fort_model.specs.Fits.{IsVisible, IsIn, IsApart, HasShape}
use Rattle.fort_model.specs.Lists.{IsAmong}
use Rattle.fort_model.specs.Outcome.{Outcome, Ended, Erred, Running}
use Rattle.fort_model.specs.Processor.{Processor}
use Rattle.fort_model.specs.Program.{Program}
use Rattle.fort_model.specs.Rules.{KeepsRules}
use Rattle.fort_model.specs.Run.{run, run_within}
use Rattle.fort_model.specs.Smashes.{Smashes, HoldsSmashed, set_by}
use Rattle.fort_model.specs.Storage.{Storage, Environment, load}

-- ---- what the law needs of a deck: facts that follow from its rules

-- a unit has a data name
pub record HasName (u : Routine) (x : Name) : Type 0 where
  pub its : DataName
  pub among : IsAmong its u.names
  pub name : its.name ≡ x

-- an adjustable dimension: it is a scalar dummy of the unit, which does not smash it; its array is a dummy
pub record IsAdjustable (units : List Routine) (i : ℕ) (u : Routine) (array : DataName) (x : Name) : Type 0 where
  pub array_is_dummy : array.role ≡ Dummy
  pub has : HasName u x
  pub is_dummy : has.its.role ≡ Dummy
  pub is_scalar : has.its.dims ≡ []
  pub not_smashed : Smashes units i x → ⊥

-- A unit of a deck: its data names have different names, and so have its dummies, which are just the data names that are
-- dummies; what its statements set is a data name; constant dimensions are at least 1, and other ones are adjustable.
pub record IsSoundUnit (units : List Routine) (i : ℕ) (u : Routine) : Type 0 where
  pub one_name : (d e : DataName) → IsAmong d u.names → IsAmong e u.names → d.name ≡ e.name → d ≡ e
  pub one_dummy : (m n : ℕ) (x : Name) → slice_get u.dummies m ≡ Some x → slice_get u.dummies n ≡ Some x → m ≡ n
  pub dummies : (d : DataName) → IsAmong d u.names → d.role ≡ Dummy → IsAmong d.name u.dummies
  pub roles : (d : DataName) → IsAmong d u.names → IsAmong d.name u.dummies → d.role ≡ Dummy
  pub sets : (line : Line) (x : Name) → IsAmong line u.lines → IsAmong x (set_by line.stmt) → HasName u x
  pub constants : (d : DataName) (n : ℕ) → IsAmong d u.names → IsAmong (Fixed n) d.dims → 1 ≤ n
  pub adjustables : (d : DataName) (x : Name) → IsAmong d u.names → IsAmong (Named x) d.dims → IsAdjustable units i u d x

-- an actual that is passed for a dummy which is a dimension is that of the actual array: the constant, or the name
abbrev pub IsDim : Expr → Dim → Type 0
IsDim (Const c) (Fixed n) = c ≡ n
IsDim (Var y) (Named x) = y ≡ x
IsDim e d = ⊥

-- a dimension of a dummy agrees with one of the actual
abbrev pub DimAgrees : Routine → List Expr → Dim → Dim → Type 0
DimAgrees g es (Fixed n) d = d ≡ Fixed n
DimAgrees g es (Named x) d = (n : ℕ) × (e : Expr) × (slice_get g.dummies n ≡ Some x) × (slice_get es n ≡ Some e) × IsDim e d

abbrev pub DimsAgree : Routine → List Expr → List Dim → List Dim → Type 0
DimsAgree g es [] [] = Unit {0}
DimsAgree g es [] (b ∷ bs) = ⊥
DimsAgree g es (a ∷ ds) [] = ⊥
DimsAgree g es (a ∷ ds) (b ∷ bs) = DimAgrees g es a b × DimsAgree g es ds bs

-- a dummy of the called unit has an actual, and their dimensions agree
pub record HasActual {units : List Routine} {i j : ℕ} (c : Calls units i j) (d : DataName) (n : ℕ) : Type 0 where
  pub actual : Expr
  pub is : slice_get c.site.actuals n ≡ Some actual
  pub dims : DimsAgree c.callee c.site.actuals d.dims (dims_of_actual c.caller actual)

-- How a call passes what the called unit smashes: the actual of a dummy that it smashes is a bare name, which stands in no other
-- actual and is no COMMON entity of both units; no actual contains a COMMON entity that it smashes.
pub record PassesSmashedAlone {units : List Routine} {i j : ℕ} (c : Calls units i j) : Type 0 where
  pub bare : (n : ℕ) (d : Name) (e : Expr) → slice_get c.callee.dummies n ≡ Some d → Smashes units j d
      → slice_get c.site.actuals n ≡ Some e → (x : Name) × (e ≡ Var x)
  pub once : (m n : ℕ) (d x : Name) (e : Expr) → m ≢ n → slice_get c.callee.dummies n ≡ Some d → Smashes units j d
      → slice_get c.site.actuals n ≡ Some (Var x)
      → slice_get c.site.actuals m ≡ Some e → mentions e x ≡ false
  pub not_shared : (n : ℕ) (d x : Name) → slice_get c.callee.dummies n ≡ Some d → Smashes units j d
      → slice_get c.site.actuals n ≡ Some (Var x)
      → has_common c.caller x ≡ true → has_common c.callee x ≡ true → ⊥
  pub no_common : (n : ℕ) (x : Name) (e : Expr) → has_common c.callee x ≡ true → Smashes units j x
      → slice_get c.site.actuals n ≡ Some e → mentions e x ≡ false

-- A call in a deck: the actuals match the dummies, and a bare name is a data name; each COMMON entity of the
-- called unit is one of the calling unit, of the same size; and the call passes what is smashed alone.
pub record IsSoundCall {units : List Routine} {i j : ℕ} (c : Calls units i j) : Type 0 where
  pub matches : (d : DataName) (n : ℕ) → IsAmong d c.callee.names → slice_get c.callee.dummies n ≡ Some d.name → HasActual c d n
  pub names : (n : ℕ) (x : Name) → slice_get c.site.actuals n ≡ Some (Var x) → HasName c.caller x
  pub commons : (d : DataName) → IsAmong d c.callee.names → d.role ≡ InCommon
      → (e : DataName) × IsAmong e c.caller.names × (e.name ≡ d.name) × (e.role ≡ InCommon) × (e.dims ≡ d.dims)
  pub smashed : PassesSmashedAlone c

pub record AreSound (units : List Routine) : Type 0 where
  pub units_are : (i : ℕ) (u : Routine) → slice_get units i ≡ Some u → IsSoundUnit units i u
  pub calls_are : (i j : ℕ) (c : Calls units i j) → IsSoundCall c

-- ---- the law

-- a cell of a dummy or COMMON entity that the unit smashes
pub record IsSmashedCell (units : List Routine) (i : ℕ) (u : Routine) (env : Environment) (k : ℕ) : Type 0 where
  pub its : DataName
  pub visible : IsVisible u its
  pub smashed : Smashes units i its.name
  pub cell : IsIn k (env its.name)

-- every other cell that was there is as it was
abbrev pub OthersKept : (ℕ → Type 0) → Storage → Storage → Type 0
OthersKept May before after = (k : ℕ) → k < length before → (May k → ⊥) → load after k ≡ load before k

-- where a run ends there are as many cells as before; where it errs or is running there may be more
abbrev pub Changes : (ℕ → Type 0) → Storage → Outcome Cell → Type 0
Changes May before (Ended v after left) = (length after ≡ length before) × OthersKept May before after
Changes May before (Erred kind card after) = (length before ≤ length after) × OthersKept May before after
Changes May before (Running after) = (length before ≤ length after) × OthersKept May before after

-- a run of a unit changes only cells of dummies and COMMON entities that the unit smashes
abbrev pub RunsChangeOnlySmashed : Type 0
RunsChangeOnlySmashed =
    (units : List Routine) → AreSound units
    → (p : Processor) (i : ℕ) (u : Routine) (env : Environment) (st : Storage) (n : ℕ) → slice_get units i ≡ Some u
    → IsApart units i u env → ((d : DataName) → IsVisible u d → HasShape env st d)
    → Changes (IsSmashedCell units i u env) st (run p units u env st n)

-- a unit that smashes no dummy and no COMMON entity changes no cell
abbrev pub RunsWithoutSmashingChangeNothing : Type 0
RunsWithoutSmashingChangeNothing =
    (units : List Routine) → AreSound units
    → (p : Processor) (i : ℕ) (u : Routine) (env : Environment) (st : Storage) (n : ℕ) → slice_get units i ≡ Some u
    → ((d : DataName) → IsVisible u d → HasShape env st d) → ((d : DataName) → IsVisible u d → Smashes units i d.name → ⊥)
    → (v : Cell) (after : Storage) (left : ℕ) → run p units u env st n ≡ Ended v after left → after ≡ st

-- ---- expressions

-- the cells of all data names of the unit: they lie in the storage, as many as their dimensions say, and those of smashed
-- names lie apart from all others
pub record IsPlaced (units : List Routine) (i : ℕ) (u : Routine) (env : Environment) (st : Storage) : Type 0 where
  pub apart : (d e : DataName) → IsAmong d u.names → IsAmong e u.names → Smashes units i d.name → d.name ≢ e.name
      → (k : ℕ) → IsIn k (env d.name) → IsIn k (env e.name) → ⊥
  pub shapes : (d : DataName) → IsAmong d u.names → HasShape env st d

-- no FUNCTION smashes a dummy or a COMMON entity
abbrev pub FunctionsSmashNothing : List Routine → Type 0
FunctionsSmashNothing units = (j : ℕ) (g : Routine) (d : DataName) → slice_get units j ≡ Some g
    → is_function g ≡ true → IsVisible g d → Smashes units j d.name → ⊥

-- evaluating an expression of a statement changes no cell, whatever the depth of the runs of the FUNCTIONs in it
abbrev pub EvaluationChangesNothing : Type 0
EvaluationChangesNothing =
    (units : List Routine) → AreSound units → FunctionsSmashNothing units
    → (p : Processor) (i : ℕ) (u : Routine) (env : Environment) (st : Storage) → slice_get units i ≡ Some u
    → IsPlaced units i u env st
    → (line : Line) (e : Expr) → IsAmong line u.lines → ((site : CallSite) → IsAmong site (sites_in u e)
    → IsAmong site (sites_of u line.stmt))
    → (depth card k n : ℕ) (v : Cell) (after : Storage) (left : ℕ)
    → evaluate (record { processor = p; units = units; unit = u; environment = env })
    (run_within p units depth) card k e st n ≡ Ended v after left → after ≡ st

-- ---- what the rules on smashed names give

-- each COMMON entity of a called unit stands in a COMMON block of the calling one
abbrev pub SharesBlocks : List Routine → Type 0
SharesBlocks units = (i j : ℕ) (c : Calls units i j) (x : Name) → has_common c.callee x ≡ true → IsAmong x (commons c.caller)

-- a program that keeps the rules passes what is smashed alone, and no FUNCTION in it smashes what its caller sees
abbrev pub RulesPassSmashedAlone : Type 0
RulesPassSmashedAlone =
    (p : Program) → KeepsRules p → HoldsSmashed p → SharesBlocks p.units
    → ((i j : ℕ) (c : Calls p.units i j) → PassesSmashedAlone c) × FunctionsSmashNothing p.units
