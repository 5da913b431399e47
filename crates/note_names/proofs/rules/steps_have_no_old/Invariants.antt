use Rattle.std.proofs.Common.{◌≡◌, ◌≤◌, drop, length, true}
use Rattle.std.specs.List.{list_all, flat_map}
use Rattle.fort_notes.specs.Judging.{has_no_old, step_terms}
use Rattle.note_forms.specs.FormTrees.{steps_of}
use Rattle.note_names.proofs.rules.steps_have_no_old.Given as goal

-- no entry value stands in the steps from `left` on
abbrev pub invariant-loop-left : goal.invariant-loop-left
invariant-loop-left l = record {
  within : l.left ≤ length l.steps;
  none : list_all has_no_old (flat_map step_terms (steps_of l.pool (drop l.left l.steps))) ≡ true;
}

abbrev pub decreases-loop-left : goal.decreases-loop-left
decreases-loop-left l = l.left
