use Rattle.std.proofs.Common.{◌≡◌, Some, ap, ◌∙◌}
use Rattle.flow_stage.proofs.Stepwise.{all_graphs, all_kept, first_broken}
use Rattle.flow_stage.proofs.units.graphs.Goals as goal

pub returns-in-None-clause-graphs : goal.returns-in-None-clause-graphs
returns-in-None-clause-graphs c = all_graphs c.args.scene.now c.in-Ok.seen.graphs.items c.in-Ok.seen.first c.in-Ok.ensures c.in-None.is

pub returns-in-None-clause-kept : goal.returns-in-None-clause-kept
returns-in-None-clause-kept c = all_kept c.args.scene.now c.in-Ok.seen.graphs.items c.in-Ok.seen.first c.in-Ok.ensures c.in-None.is

pub returns-in-Some-clause-broken : goal.returns-in-Some-clause-broken
returns-in-Some-clause-broken c = λ f q.
    let same : c.in-Some.fault ≡ f = cc in
    first_broken c.args.scene.now c.in-Ok.seen.graphs.items c.in-Ok.seen.first f c.in-Ok.ensures (c.in-Some.is ∙ ap Some same)
