use Rattle.std.proofs.Common.{◌+◌}
use Rattle.fort_model.specs.Senses.{note}
use Rattle.formula.specs.Pool.{tree_of}
use Rattle.path_sizes.specs.Weights.{of_weights}
use Rattle.weight_caps.specs.Capped.{capped}
use Rattle.weight_terms.specs.Held.{held}
use Rattle.weight_terms.proofs.Weighed.{next_capped, smaller, stepped, wait_below}
use Rattle.weight_terms.proofs.terms.term_weight.Goals as goal

pub loop-next-smaller : goal.loop-next-smaller
loop-next-smaller c =
    smaller c.args.pool.now c.in-Some.next c.loop-next.waiting c.pop.new.self c.push_arguments.new.waiting c.node-node.result.now c.node-node.ensures.tree c.in-Some.ensures c.in-Ok-push_arguments.ensures

pub loop-next-preserved : goal.loop-next-preserved
loop-next-preserved c = record {
  below = wait_below c.args.pool.now c.in-Some.next c.loop-next.waiting c.pop.new.self c.push_arguments.new.waiting c.node-node.result.now c.in-Some.ensures c.in-Ok-push_arguments.ensures c.node-node.ensures.below c.loop-next.invariant.below;
  whole = next_capped c.plus-all.result (c.loop-next.all + c.own_weight.result) c.plus-all.ensures;
  same =
      stepped c.args.pool.now (held c.args.told.now.before.now) (held c.args.told.now.behind.now) c.in-Some.next c.loop-next.waiting c.pop.new.self c.push_arguments.new.waiting c.node-node.result.now
      c.loop-next.all c.own_weight.result c.plus-all.result (capped (note of_weights (held c.args.told.now.before.now) (held c.args.told.now.behind.now) (tree_of c.args.pool.now c.args.id)))
      c.node-node.ensures.tree c.in-Some.ensures c.in-Ok-push_arguments.ensures c.own_weight.ensures c.plus-all.ensures c.loop-next.invariant.same;
}
