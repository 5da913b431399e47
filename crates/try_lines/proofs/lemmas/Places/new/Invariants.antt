use Rattle.std.proofs.Common.{◌≡◌, ◌≤◌, ℕ, List, drop, length}
use Rattle.try_lines.specs.Lemmas.{told, first_place}
use Rattle.try_lines.proofs.lemmas.Places.new.Given as goal

abbrev pub invariant-loop-left : goal.invariant-loop-left
invariant-loop-left l = (l.left ≤ length l.conditions) × ((w : List ℕ) → told l.places w ≡ first_place w (drop l.left l.conditions) l.left)

abbrev pub decreases-loop-left : goal.decreases-loop-left
decreases-loop-left l = l.left
