use Rattle.std.proofs.Common.{◌++◌}
use Rattle.formula.specs.Atoms.{is_among}
use Rattle.call_hits.specs.Hits.{group_hits}
use Rattle.call_hits.proofs.Smashed.{group_pushed}
use Rattle.call_hits.proofs.hits.push_commons.Goals as goal

pub loop-group-preserved : goal.loop-group-preserved
loop-group-preserved c =
    group_pushed (λ x. is_among x c.args.smashed.now) c.args.callee.now.unit.now c.args.groups.now c.loop-group.group-index c.group-item.result c.group-item.result
    c.loop-group.all.items c.push_group.new.all.items
    (c.args.all.now.items ++ group_hits (λ x. is_among x c.args.smashed.now) c.args.callee.now.unit.now c.args.groups.now)
    c.loop-group-test.true c.group-item.is c.in-Ok.ensures c.loop-group.invariant
