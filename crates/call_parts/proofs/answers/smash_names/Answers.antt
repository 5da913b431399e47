use Rattle.std.proofs.Common.{◌∙◌}
use Rattle.call_facts.specs.Calls.{called}
use Rattle.fort_model.specs.WalkCalls.{changed}
use Rattle.walk_setting.specs.Settings.{seen_from}
use Rattle.walk_state.specs.Moments.{moment, with_names}
use Rattle.call_parts.proofs.answers.smash_names.Goals as goal

pub returns-clause-smashed : goal.returns-clause-smashed
returns-clause-smashed c p =
    let m = moment c.args.walk.now in
    let w = seen_from c.args.called.now.setting.now p in
    c.in_ok-smash.ensures.smashed w ∙ (λ j. with_names m (changed w (c.as_slice.ensures j) (called c.args.call) m.now))
