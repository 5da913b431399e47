use Rattle.std.proofs.Common.{◌≡◌, Some, ap, ◌∙◌}
use Rattle.range_stage.proofs.Stepwise.{scene_kept, scene_broken}
use Rattle.range_stage.proofs.units.check_units.Goals as goal

pub returns-in-Ok-None-clause-kept : goal.returns-in-Ok-None-clause-kept
returns-in-Ok-None-clause-kept c = scene_kept c.args.scene.now c.in-Ok-None.field-0 c.in-Ok-None.ensures c.in-Ok-None.field-0-is

pub returns-in-Ok-Some-clause-broken : goal.returns-in-Ok-Some-clause-broken
returns-in-Ok-Some-clause-broken c = λ f q.
    let same : c.in-Ok-Some.fault ≡ f = cc in
    scene_broken c.args.scene.now c.in-Ok-Some.field-0 f c.in-Ok-Some.ensures (c.in-Ok-Some.field-0-is ∙ ap Some same)
