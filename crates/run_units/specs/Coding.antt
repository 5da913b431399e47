-- The code of the units of a deck.
use Rattle.std.specs.Prelude.{◌≡◌, ℕ, true, List, length, Some, slice_get}
use Rattle.formula.specs.Atoms.{is_among}
use Rattle.fort_syntax.specs.Names.{commons}
use Rattle.fort_syntax.specs.declared.name.Name.{Name}
use Rattle.fort_syntax.specs.declared.unit.Unit.{Unit as Routine}
use Rattle.run_shapes.specs.Coded.{IsUnitCodeOf}
use Rattle.run_shapes.specs.declared.unit_code.UnitCode.{UnitCode}

-- the COMMON entities of units stand among some names
abbrev pub HaveShared : List Name → List Routine → Type 0
HaveShared common units = (i : ℕ) (u : Routine) (x : Name) → slice_get units i ≡ Some u
    → is_among x (commons u) ≡ true → is_among x common ≡ true

-- the code of the first units
pub record AreUnitsTo (units : List Routine) (common : List Name) (n : ℕ) (codes : List UnitCode) : Type 0 where
  pub long : length codes ≡ n
  pub each : (i : ℕ) (u : Routine) (unit : UnitCode) → slice_get units i ≡ Some u → slice_get codes i ≡ Some unit
      → IsUnitCodeOf units common u unit

-- the code of all
abbrev pub AreUnitsOf : List Routine → List Name → List UnitCode → Type 0
AreUnitsOf units common codes = AreUnitsTo units common (length units) codes
