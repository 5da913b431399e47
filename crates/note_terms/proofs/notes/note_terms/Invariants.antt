use Rattle.std.proofs.Common.{map, take}
use Rattle.note_terms.specs.Stated.{Makes, stated, trees_in}
use Rattle.note_terms.proofs.notes.note_terms.Given as goal

abbrev pub invariant-loop-id : goal.invariant-loop-id
invariant-loop-id l = Makes l.fn.pool l.pool l.terms.items (map (stated l.fn.pool l.names l.entry) (trees_in l.fn.pool (take l.id-index l.ids)))
