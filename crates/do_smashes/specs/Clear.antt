-- Called units that are known to smash no kept name in COMMON.
use Rattle.std.specs.Prelude.{◌≡◌, ℕ, Bool, true, false, List}
use Rattle.std.specs.List.{list_any}
use Rattle.fort_syntax.specs.declared.name.Name.{Name}
use Rattle.fort_syntax.specs.declared.stmt.Stmt.{Stmt}
use Rattle.fort_syntax.specs.declared.stmt.Stmt.TheVariants.{Do}
use Rattle.fort_syntax.specs.declared.unit.Unit.{Unit as Routine}
use Rattle.fort_model.specs.Program.{Program}
use Rattle.name_tables.specs.Labels.{is_known}
use Rattle.smash_table.specs.Smashed.{shared_by}
use Rattle.do_smashes.specs.Guards.{is_kept}

abbrev pub is_do : Stmt → Bool
is_do (Do label x first last step) = true
is_do _ = false

-- no unit of one of some numbers smashes a COMMON entity of a unit that is kept at a point
pub record AreClear (p : Program) (u : Routine) (table : List (Name × ℕ)) (at : ℕ) (numbers : List ℕ) : Type 0 where
  pub clear : (j : ℕ) → is_known j numbers ≡ true → list_any (is_kept table at) (shared_by p u j) ≡ false
