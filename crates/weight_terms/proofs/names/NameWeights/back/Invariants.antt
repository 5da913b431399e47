use Rattle.std.proofs.Common.{◌≡◌, length}
use Rattle.weight_terms.specs.Held.{marked, pasts}
use Rattle.weight_terms.proofs.names.NameWeights.back.Given as goal

abbrev pub invariant-loop-entry : goal.invariant-loop-entry
invariant-loop-entry l = pasts l.self-inside.map.entries l.self-inside.log ≡ marked l.fn.self

abbrev pub decreases-loop-entry : goal.decreases-loop-entry
decreases-loop-entry l = length l.self-inside.log
