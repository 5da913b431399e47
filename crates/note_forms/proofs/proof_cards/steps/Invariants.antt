use Rattle.std.proofs.Common.{◌≡◌}
use Rattle.formula.specs.Pool.{Grows}
use Rattle.fort_notes.specs.Parts.{bracket, is_over, parts_up_to, rest_of}
use Rattle.fort_notes.specs.Forms.{step_parts}
use Rattle.note_parts.proofs.Rounds.{before}
use Rattle.note_forms.specs.FormTrees.{AreStepsIn, steps_of}
use Rattle.note_forms.proofs.proof_cards.steps.Given as goal

-- what was read and what is still to be read are the list
abbrev pub invariant-loop-left : goal.invariant-loop-left
invariant-loop-left l = record {
  same : before (steps_of l.pool l.all.items) (parts_up_to is_over (bracket (step_parts l.headings)) l.left l.rest) ≡ rest_of (bracket (step_parts l.headings)) l.text;
  are_in : AreStepsIn l.pool l.all.items;
  grows : Grows l.fn.pool l.pool;
}

abbrev pub decreases-loop-left : goal.decreases-loop-left
decreases-loop-left l = l.left
