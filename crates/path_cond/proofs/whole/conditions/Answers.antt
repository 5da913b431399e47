use Rattle.std.proofs.Common.{ap, map, ◌∙◌, arith}
use Rattle.event_text.specs.Conditions.{condition_tree}
use Rattle.path_cond.proofs.Stepwise.{all_counted, as_many, few_at, graph_at, none_counted, one_counted}
use Rattle.path_scene.proofs.Staying.{ready_stays}
use Rattle.path_cond.proofs.whole.conditions.Goals as goal

pub loop-number-init : goal.loop-number-init
loop-number-init c = none_counted c.args.scene.now (record { alloc = c.args.alloc; pool = c.args.pool; conditions = c.new-2.result }) c.new-2.ensures.items

pub add_unit-requires-clause-within : goal.add_unit-requires-clause-within
add_unit-requires-clause-within c =
    let many = as_many c.args.pool c.args.scene.now c.requires.ready.0 c.args.graphs.now c.requires.ready.1 c.requires.graphs in
    omega (arith, many)

pub add_unit-requires-clause-ready : goal.add_unit-requires-clause-ready
add_unit-requires-clause-ready c =
    (c.requires.ready.0, ready_stays c.args.pool c.loop-number.drafts.pool c.loop-number.invariant.grows c.args.scene.now c.requires.ready.0 c.requires.ready.1)

pub add_unit-requires-clause-graph : goal.add_unit-requires-clause-graph
add_unit-requires-clause-graph c =
    graph_at c.args.pool c.loop-number.drafts.pool c.args.scene.now c.requires.ready.0 c.args.graphs.now c.loop-number.number c.index-graphs-number.result c.loop-number.invariant.grows
    c.requires.ready.1 c.requires.graphs (omega arith) c.index-graphs-number.is

pub add_unit-requires-clause-few : goal.add_unit-requires-clause-few
add_unit-requires-clause-few c =
    few_at c.args.pool c.loop-number.drafts.pool c.args.scene.now c.requires.ready.0 c.args.graphs.now c.loop-number.number c.index-graphs-number.result c.loop-number.invariant.grows
    c.requires.ready.1 c.requires.graphs c.requires.within (omega arith) c.index-graphs-number.is

pub loop-number-preserved : goal.loop-number-preserved
loop-number-preserved c =
    let many = as_many c.args.pool c.args.scene.now c.requires.ready.0 c.args.graphs.now c.requires.ready.1 c.requires.graphs in
    one_counted c.args.scene.now c.args.pool c.loop-number.drafts c.in-Ok-add_unit.after c.loop-number.number (omega (arith, many)) c.loop-number.invariant c.in-Ok-add_unit.ensures

pub returns-clause-trees : goal.returns-clause-trees
returns-clause-trees c = λ p r paths all.
    ap (map (condition_tree c.loop-number.drafts.pool)) c.from_vec.ensures
    ∙ all_counted c.args.scene.now c.args.pool c.loop-number.drafts c.loop-number.number c.args.graphs.now c.requires.graphs (omega arith) c.loop-number.invariant p r paths all
