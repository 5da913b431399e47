-- What declarations give, and that the rules then give all that the laws of runs need of a deck.
use Rattle.std.specs.Prelude.{◌≡◌, ◌≤◌, ℕ, List, [], Some, slice_get}
use Rattle.fort_syntax.specs.declared.name.Name.{Name}
use Rattle.fort_syntax.specs.declared.expr.Expr.TheVariants.{Var}
use Rattle.fort_syntax.specs.declared.stmt.Dim.TheVariants.{Fixed, Named}
use Rattle.fort_syntax.specs.declared.unit.DataName.{DataName}
use Rattle.fort_syntax.specs.declared.unit.Line.{Line}
use Rattle.fort_syntax.specs.declared.unit.Role.TheVariants.{Dummy, InCommon}
use Rattle.fort_syntax.specs.declared.unit.Unit.{Unit as Routine}
use Rattle.fort_model.specs.Calls.{Calls}
use Rattle.fort_model.specs.Lists.{IsAmong}
use Rattle.fort_model.specs.Program.{Program}
use Rattle.fort_model.specs.Rules.{KeepsRules}
use Rattle.fort_model.specs.Smashes.{HoldsSmashed, set_by}
use Rattle.fort_laws.specs.Frame.{HasName, AreSound, SharesBlocks}

-- a dimension that is no constant: it is a scalar dummy of the unit, and its array is a dummy
pub record IsDimension (u : Routine) (array : DataName) (x : Name) : Type 0 where
  pub array_is_dummy : array.role ≡ Dummy
  pub has : HasName u x
  pub is_dummy : has.its.role ≡ Dummy
  pub is_scalar : has.its.dims ≡ []

-- A unit as its declarations make it: its data names have different names, and so have its dummies, which are just the data
-- names that are dummies; what its statements set is a data name; constant dimensions are at least 1.
pub record IsDeclared (u : Routine) : Type 0 where
  pub one_name : (d e : DataName) → IsAmong d u.names → IsAmong e u.names → d.name ≡ e.name → d ≡ e
  pub one_dummy : (m n : ℕ) (x : Name) → slice_get u.dummies m ≡ Some x → slice_get u.dummies n ≡ Some x → m ≡ n
  pub dummies : (d : DataName) → IsAmong d u.names → d.role ≡ Dummy → IsAmong d.name u.dummies
  pub roles : (d : DataName) → IsAmong d u.names → IsAmong d.name u.dummies → d.role ≡ Dummy
  pub sets : (line : Line) (x : Name) → IsAmong line u.lines → IsAmong x (set_by line.stmt) → HasName u x
  pub constants : (d : DataName) (n : ℕ) → IsAmong d u.names → IsAmong (Fixed n) d.dims → 1 ≤ n
  pub dimensions : (d : DataName) (x : Name) → IsAmong d u.names → IsAmong (Named x) d.dims → IsDimension u d x

-- The units of a deck: a bare name among actuals is a data name; and each COMMON entity of a called unit stands in a block of the
-- calling one, and is a COMMON entity of that of the same size.
pub record AreDeclared (units : List Routine) : Type 0 where
  pub units_are : (i : ℕ) (u : Routine) → slice_get units i ≡ Some u → IsDeclared u
  pub actuals : (i j : ℕ) (c : Calls units i j) (n : ℕ) (x : Name) → slice_get c.site.actuals n ≡ Some (Var x)
      → HasName c.caller x
  pub blocks : SharesBlocks units
  pub commons : (i j : ℕ) (c : Calls units i j) (d : DataName) → IsAmong d c.callee.names → d.role ≡ InCommon
      → (e : DataName) × IsAmong e c.caller.names × (e.name ≡ d.name) × (e.role ≡ InCommon) × (e.dims ≡ d.dims)

-- a program that keeps the rules on calls has all that the laws of runs need
abbrev pub RulesMakeSound : Type 0
RulesMakeSound = (p : Program) → KeepsRules p → HoldsSmashed p → AreDeclared p.units → AreSound p.units
