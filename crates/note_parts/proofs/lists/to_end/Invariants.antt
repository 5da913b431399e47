use Rattle.std.proofs.Common.{◌≡◌}
use Rattle.fort_notes.specs.Parts.{is_over, parts_up_to, rest_of}
use Rattle.note_parts.proofs.Rounds.{before}
use Rattle.note_parts.proofs.lists.to_end.Given as goal

-- what was read and what is still to be read are the list
abbrev pub invariant-loop-left : goal.invariant-loop-left
invariant-loop-left g l = before l.all.items (parts_up_to is_over g.X.Part.part l.left l.rest) ≡ rest_of g.X.Part.part l.text

abbrev pub decreases-loop-left : goal.decreases-loop-left
decreases-loop-left g l = l.left
