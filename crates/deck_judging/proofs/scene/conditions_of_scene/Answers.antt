use Rattle.std.proofs.Common.{inr}
use Rattle.fort_model.specs.Program.{Program}
use Rattle.path_scene.specs.Scenes.{IsReady}
use Rattle.deck_judging.specs.Stages.{AreAllConditions, IsAliased, KeepsFlow, KeepsScene}
use Rattle.deck_judging.proofs.Scenes.{is_ready}
use Rattle.deck_judging.proofs.Weaker.{ok_weaker}
use Rattle.deck_judging.proofs.scene.conditions_of_scene.Goals as goal

pub conditions_of_ready-requires : goal.conditions_of_ready-requires
conditions_of_ready-requires c =
    let p = c.requires.aliased.0 in
    let a = c.requires.aliased.1 in
    record { ready = (p, is_ready c.args.pool c.args.scene.now p a (c.in-Ok.ensures.kept c.args.pool p a.is_scene)) }

pub returns-in-Ok-clause-kept : goal.returns-in-Ok-clause-kept
returns-in-Ok-clause-kept c =
    ok_weaker (λ found. (p : Program) → IsReady c.args.pool c.args.scene.now p → KeepsFlow p) (λ found. (p : Program) → IsAliased c.args.pool c.args.scene.now p → KeepsScene p) c.conditions_of_ready.result
    (λ found kept p a. (c.in-Ok.ensures.kept c.args.pool p a.is_scene, kept p (is_ready c.args.pool c.args.scene.now p a (c.in-Ok.ensures.kept c.args.pool p a.is_scene))))
    c.conditions_of_ready.ensures.kept

pub returns-in-Ok-clause-conditions : goal.returns-in-Ok-clause-conditions
returns-in-Ok-clause-conditions c =
    ok_weaker (λ found. (p : Program) → IsReady c.args.pool c.args.scene.now p → AreAllConditions p found.pool found.conditions found.paths)
    (λ found. (p : Program) → IsAliased c.args.pool c.args.scene.now p → AreAllConditions p found.pool found.conditions found.paths) c.conditions_of_ready.result
    (λ found all p a. all p (is_ready c.args.pool c.args.scene.now p a (c.in-Ok.ensures.kept c.args.pool p a.is_scene)))
    c.conditions_of_ready.ensures.conditions

pub returns-in-Ok-clause-broken : goal.returns-in-Ok-clause-broken
returns-in-Ok-clause-broken c f e p a =
    let ranges = c.in-Ok.ensures.kept c.args.pool p a.is_scene in
    inr (ranges, c.conditions_of_ready.ensures.broken f e p (is_ready c.args.pool c.args.scene.now p a ranges))
