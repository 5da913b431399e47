use Rattle.std.proofs.Common.{◌≡◌, drop, length, ◌≤◌}
use Rattle.std.specs.Prelude.{◌&&◌}
use Rattle.formula.specs.Atoms.{same_bytes}
use Rattle.fort_syntax.specs.Names.{first_unit}
use Rattle.fort_syntax.specs.declared.name.Name.{Name}
use Rattle.unit_tables.specs.Tables.{told, is_of_kind}
use Rattle.unit_tables.proofs.unit_numbers.numbers_of_kind.Given as goal

abbrev pub invariant-loop-left : goal.invariant-loop-left
invariant-loop-left l = (l.left ≤ length l.units) × ((x : Name) → told l.table x ≡ first_unit (λ u. is_of_kind l.fn.of_functions u && same_bytes u.name x) (drop l.left l.units) l.left)

abbrev pub decreases-loop-left : goal.decreases-loop-left
decreases-loop-left l = l.left
