use Rattle.std.proofs.Common.{◌≡◌, drop}
use Rattle.weight_terms.specs.Held.{held}
use Rattle.weight_terms.specs.Terms.{weights_told}
use Rattle.weight_terms.proofs.Weighed.{summed}
use Rattle.weight_terms.proofs.notes.sum_terms.Given as goal

abbrev pub invariant-loop-id : goal.invariant-loop-id
invariant-loop-id l =
    summed l.all (weights_told l.pool (held l.told.before.now) (held l.told.behind.now) (drop l.id-index l.ids)) ≡ summed 0 (weights_told l.pool (held l.told.before.now) (held l.told.behind.now) l.ids)
