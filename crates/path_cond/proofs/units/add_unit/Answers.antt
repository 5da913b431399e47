use Rattle.path_cond.proofs.Stepwise.{plan_few, plan_graph, unit_added}
use Rattle.path_cond.proofs.units.add_unit.Goals as goal

pub add_paths-requires-clause-graph : goal.add_paths-requires-clause-graph
add_paths-requires-clause-graph c =
    plan_graph c.in-Ok.plan c.new-setting.result c.args.scene.now c.args.number c.args.graph.now c.in-Ok-new.flow.graph.now c.in-Ok.ensures.setting c.new-setting.ensures.scene
    c.new-setting.ensures.number c.new-setting.ensures.unit c.in-Ok-new.ensures.graph c.args.drafts.pool c.requires.graph

pub add_paths-requires-clause-few : goal.add_paths-requires-clause-few
add_paths-requires-clause-few c =
    plan_few c.in-Ok.plan c.new-setting.result c.args.scene.now c.args.number c.args.graph.now c.in-Ok-new.flow.graph.now c.in-Ok.ensures.setting c.new-setting.ensures.scene
    c.new-setting.ensures.number c.new-setting.ensures.unit c.in-Ok-new.ensures.graph c.args.drafts.pool c.requires.few

pub returns : goal.returns
returns c =
    unit_added c.in-Ok.plan c.new-setting.result c.args.scene.now c.args.number c.args.graph.now c.in-Ok-new.flow.graph.now c.in-Ok.ensures.setting c.new-setting.ensures.scene
    c.new-setting.ensures.number c.new-setting.ensures.unit c.in-Ok-new.ensures.graph c.args.drafts c.in-Ok-add_paths.after c.requires.graph c.in-Ok-add_paths.ensures
