use Rattle.std.proofs.Common.{◌≡◌, length}
use Rattle.std.specs.Prelude.{None}
use Rattle.formula.specs.Pool.{AllBelow, Grows}
use Rattle.fort_notes.specs.Parts.{parts, parts_up_to, term}
use Rattle.note_parts.specs.Answers.{ends_at, trees_of}
use Rattle.note_parts.proofs.Rounds.{before}
use Rattle.note_parts.proofs.term_lists.term_list.Given as goal

-- what was read and what is still to be read are the list
abbrev pub invariant-loop-left : goal.invariant-loop-left
invariant-loop-left l = record {
  same : before (trees_of l.pool l.all.items) (parts_up_to (ends_at l.until) (term l.headings None) l.left l.rest) ≡ parts (ends_at l.until) (term l.headings None) l.text;
  below : AllBelow (length l.pool) l.all.items;
  grows : Grows l.fn.pool l.pool;
}

abbrev pub decreases-loop-left : goal.decreases-loop-left
decreases-loop-left l = l.left
