use Rattle.std.proofs.Common.{◌≡◌, Err, inl, inr, sym, ap, subst, List}
use Rattle.formula.specs.Pool.{Grows}
use Rattle.fort_model.specs.Program.{Program}
use Rattle.fort_model.specs.declared.graph.Graph.{Graph}
use Rattle.fort_syntax.specs.declared.refusal.Refusal.TheVariants.{Broken}
use Rattle.path_scene.specs.Graphs.{AreGraphsOf}
use Rattle.path_scene.specs.Scenes.{IsReady}
use Rattle.deck_judging.specs.Stages.{KeepsFlow}
use Rattle.deck_judging.proofs.Weaker.{ok_weaker}
use Rattle.deck_judging.proofs.scene.conditions_of_ready.Goals as goal

pub conditions_of_graphs-requires-clause-graphs : goal.conditions_of_graphs-requires-clause-graphs
conditions_of_graphs-requires-clause-graphs c p ready =
    subst (λ (gs : List Graph). AreGraphsOf p gs) (sym c.as_slice.ensures.value) (c.in-Ok.ensures.graphs c.args.pool p ready)

pub returns-in-Ok-clause-kept : goal.returns-in-Ok-clause-kept
returns-in-Ok-clause-kept c =
    ok_weaker (λ found. Grows c.args.pool found.pool) (λ found. (p : Program) → IsReady c.args.pool c.args.scene.now p → KeepsFlow p) c.conditions_of_graphs.result
    (λ found grows p ready. c.in-Ok.ensures.kept c.args.pool p ready) c.conditions_of_graphs.ensures.grows

pub returns-in-Ok-clause-broken : goal.returns-in-Ok-clause-broken
returns-in-Ok-clause-broken c f e p ready = inr (c.in-Ok.ensures.kept c.args.pool p ready, c.conditions_of_graphs.ensures.broken f e p ready)

pub returns-in-Err-clause-broken : goal.returns-in-Err-clause-broken
returns-in-Err-clause-broken c f q p ready =
    let same : c.in-Err.refusal ≡ Broken f = cc in
    inl (c.in-Err.ensures.broken f (ap Err same) c.args.pool p ready)
