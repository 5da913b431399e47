use Rattle.std.proofs.Common.{◌≡◌, drop, length, ◌≤◌}
use Rattle.fort_syntax.specs.declared.name.Name.{Name}
use Rattle.unit_tables.specs.Tables.{told, first_name}
use Rattle.unit_tables.proofs.name_places.NamePlaces.new.Given as goal

abbrev pub invariant-loop-left : goal.invariant-loop-left
invariant-loop-left l = (l.left ≤ length l.names) × ((x : Name) → told l.table x ≡ first_name x (drop l.left l.names) l.left)

abbrev pub decreases-loop-left : goal.decreases-loop-left
decreases-loop-left l = l.left
