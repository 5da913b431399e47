use Rattle.std.proofs.Common.{◌≡◌, ◌++◌, drop}
use Rattle.formula.specs.Atoms.{is_among}
use Rattle.call_hits.specs.Hits.{item_hits}
use Rattle.call_hits.proofs.hits.push_group.Given as goal

abbrev pub invariant-loop-item : goal.invariant-loop-item
invariant-loop-item l =
    (l.all.items ++ item_hits (λ x. is_among x l.smashed) l.callee.unit.now (drop l.item-index l.items))
    ≡ (l.initial.all.items ++ item_hits (λ x. is_among x l.smashed) l.callee.unit.now l.items)
