use Rattle.std.proofs.Common.{◌≡◌, ◌++◌, drop}
use Rattle.formula.specs.Atoms.{is_among}
use Rattle.call_hits.specs.Hits.{group_hits}
use Rattle.call_hits.proofs.hits.push_commons.Given as goal

abbrev pub invariant-loop-group : goal.invariant-loop-group
invariant-loop-group l =
    (l.all.items ++ group_hits (λ x. is_among x l.smashed) l.callee.unit.now (drop l.group-index l.groups))
    ≡ (l.initial.all.items ++ group_hits (λ x. is_among x l.smashed) l.callee.unit.now l.groups)
