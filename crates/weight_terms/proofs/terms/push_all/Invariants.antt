use Rattle.std.proofs.Common.{◌≡◌, drop}
use Rattle.weight_terms.specs.Terms.{pushed}
use Rattle.weight_terms.proofs.terms.push_all.Given as goal

abbrev pub invariant-loop-id : goal.invariant-loop-id
invariant-loop-id l = pushed (drop l.id-index l.ids) l.waiting ≡ pushed l.ids l.initial.waiting
