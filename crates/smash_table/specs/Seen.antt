-- Called units whose smashed COMMON entities are known to be in a set.
use Rattle.std.specs.Prelude.{◌≡◌, ℕ, true, List}
use Rattle.formula.specs.Atoms.{is_among}
use Rattle.fort_syntax.specs.declared.name.Name.{Name}
use Rattle.fort_syntax.specs.declared.unit.Unit.{Unit as Routine}
use Rattle.fort_model.specs.Program.{Program}
use Rattle.name_tables.specs.Labels.{is_known}
use Rattle.smash_table.specs.Smashed.{shared_by}

-- a set has the COMMON entities of a unit that the units of some numbers smash
pub record AreSeen (p : Program) (u : Routine) (numbers : List ℕ) (set : List Name) : Type 0 where
  pub seen : (j : ℕ) → is_known j numbers ≡ true → (x : Name) → is_among x (shared_by p u j) ≡ true → is_among x set ≡ true
