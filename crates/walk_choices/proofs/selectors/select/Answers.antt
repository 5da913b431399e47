use Rattle.std.proofs.Common.{length, refl}
use Rattle.std.proofs.lemmas.Result.{on_ok_weaker}
use Rattle.walk_choices.proofs.Passing.{selected_then}
use Rattle.walk_choices.proofs.selectors.select.Goals as goal

pub returns-clause-did : goal.returns-clause-did
returns-clause-did c =
    let at = c.args.at.now in
    let s = at.flow.now.setting.now in
    on_ok_weaker c.choose.result
    (selected_then s s.scene.now.dialect at.card at.point (length c.args.labels.now) c.args.selector.now c.args.choices.now c.args.walk.now c.read_name.new.walk c.check_choice.new.walk c.choose.new.walk c.in_ok-number.number refl
    c.read_name.ensures.on c.check_choice.ensures.on c.in_ok-number.ensures.is_in c.in_ok-number.ensures.did c.in_ok-check_choice.ensures.did)
    c.choose.ensures.did
