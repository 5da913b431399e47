use Rattle.std.proofs.Common.{◌≡◌}
use Rattle.fort_notes.specs.Parts.{begins, is_closing, parts_up_to, inside}
use Rattle.note_parts.proofs.Rounds.{before}
use Rattle.note_parts.proofs.lists.inside_brackets.Given as goal

-- what was read and what is still to be read are the list
abbrev pub invariant-loop-left : goal.invariant-loop-left
invariant-loop-left g l = before l.all.items (parts_up_to (begins is_closing) g.X.Part.part l.left l.rest) ≡ inside g.X.Part.part l.text

abbrev pub decreases-loop-left : goal.decreases-loop-left
decreases-loop-left g l = l.left
