use Rattle.std.proofs.Common.{◌≡◌, drop}
use Rattle.weight_caps.specs.Loads.{with_tests}
use Rattle.weight_terms.specs.Held.{held}
use Rattle.weight_terms.specs.Terms.{weights_told}
use Rattle.weight_terms.proofs.notes.test_terms.Given as goal

abbrev pub invariant-loop-id : goal.invariant-loop-id
invariant-loop-id l =
    with_tests l.load (weights_told l.pool (held l.told.before.now) (held l.told.behind.now) (drop l.id-index l.ids)) ≡ with_tests l.initial.load (weights_told l.pool (held l.told.before.now) (held l.told.behind.now) l.ids)
