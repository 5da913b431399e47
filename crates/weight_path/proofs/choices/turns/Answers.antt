use Rattle.std.proofs.Common.{◌≡◌, ◌≤◌, suc, ◌+◌, length, arith}
use Rattle.path_cut.specs.declared.step.Step.TheVariants.{At}
use Rattle.way_laws.specs.PathsOf.{turns}
use Rattle.weight_path.proofs.Walked.{all_gathered, gathered, none_gathered}
use Rattle.weight_path.proofs.choices.turns.Goals as goal

pub loop-step-preserved : goal.loop-step-preserved
loop-step-preserved c =
    let next : c.loop-step.step-index + 1 ≡ suc c.loop-step.step-index = omega arith in
    gathered c.args.steps.now c.loop-step.step-index (c.loop-step.step-index + 1) c.in-Some.choice (At 0) c.loop-step.choices.items c.push.new.self.items (turns c.args.steps.now) next
    c.loop-step-test.true c.in-Some.ensures c.in-Ok.ensures.items c.loop-step.invariant

pub returns-in_default : goal.returns-in_default
returns-in_default c =
    all_gathered c.args.steps.now c.loop-step.step-index (At 0) c.loop-step.choices.items (turns c.args.steps.now) c.loop-step-test.true c.in_default.ensures c.loop-step.invariant

pub returns : goal.returns
returns c =
    let past : length c.args.steps.now ≤ c.loop-step.step-index = omega arith in
    none_gathered c.args.steps.now c.loop-step.step-index c.loop-step.choices.items (turns c.args.steps.now) past c.loop-step.invariant
