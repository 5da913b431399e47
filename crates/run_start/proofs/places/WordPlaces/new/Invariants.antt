use Rattle.std.proofs.Common.{◌≡◌, drop, length, ◌≤◌}
use Rattle.formula.specs.Atoms.{has_twin}
use Rattle.fort_syntax.specs.declared.name.Name.{Name}
use Rattle.unit_tables.specs.Tables.{told}
use Rattle.run_start.specs.Places.{first_place}
use Rattle.run_start.proofs.places.WordPlaces.new.Given as goal

abbrev pub invariant-loop-left : goal.invariant-loop-left
invariant-loop-left l =
    (l.left ≤ length l.words) × ((x : Name) → told l.table x ≡ first_place (drop l.left l.words) x l.left) × (l.twice ≡ has_twin (drop l.left l.words))

abbrev pub decreases-loop-left : goal.decreases-loop-left
decreases-loop-left l = l.left
