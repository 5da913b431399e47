use Rattle.std.proofs.Common.{map, take}
use Rattle.note_terms.specs.Stated.{Makes, at_least_0, trees_in}
use Rattle.note_terms.proofs.clocks.at_least_zero.Given as goal

abbrev pub invariant-loop-number : goal.invariant-loop-number
invariant-loop-number l = Makes l.fn.pool l.pool l.terms.items (map at_least_0 (trees_in l.fn.pool (take l.number-index l.numbers)))
