use Rattle.std.proofs.Common.{◌∙◌}
use Rattle.fort_model.specs.WalkStmt as forms
use Rattle.walk_setting.specs.Settings.{performed_at, seen_from}
use Rattle.walk_state.specs.Moments.{moment}
use Rattle.path_fronts.proofs.going.perform_at.Goals as goal

pub returns-clause-did : goal.returns-clause-did
returns-clause-did c line is p r =
    let m0 = moment c.args.walk.now in
    let w = seen_from c.args.flow.now.setting.now p in
    c.in-Ok-performed.ensures.did line is p r
    ∙ (λ i. performed_at m0 (forms.performed w line.card c.args.point m0.now line.stmt ((c.deref.ensures.value ∙ c.in-Ok.ensures) i)))
