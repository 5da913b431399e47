use Rattle.std.proofs.Common.{◌≡◌, Some, subst}
use Rattle.do_ranges.specs.Stage.{TellsRanges}
use Rattle.do_ranges.proofs.stage.check_ranges.Goals as goal

pub returns-in-Ok-Some-clause-broken : goal.returns-in-Ok-Some-clause-broken
returns-in-Ok-Some-clause-broken c = λ f same.
    let is : c.in-Ok-Some.fault ≡ f = cc in
    let told = subst (TellsRanges c.args.unit.now c.args.spec.now) c.in-Ok-Some.field-0-is c.in-Ok-Some.ensures in
    subst (λ g. TellsRanges c.args.unit.now c.args.spec.now (Some g)) is told
