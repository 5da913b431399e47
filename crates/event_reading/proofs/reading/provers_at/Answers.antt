use Rattle.std.proofs.Common.{subst, sym}
use Rattle.event_reading.specs.Fronts.{AreAsked}
use Rattle.event_reading.proofs.Growing.{asked_go}
use Rattle.event_reading.proofs.reading.provers_at.Goals as goal

pub loop-one-smaller : goal.loop-one-smaller
loop-one-smaller c = (asked_go c.loop-one.asked.items c.args.text.now c.loop-one.rest.now c.in-Some.behind.now c.in-Some.one c.loop-one.invariant (sym c.in-Some.ensures)).less

pub loop-one-preserved : goal.loop-one-preserved
loop-one-preserved c =
    subst (λ l. AreAsked c.args.text.now l c.in-Some.behind.now) (sym c.in-Ok.ensures.items)
    (asked_go c.loop-one.asked.items c.args.text.now c.loop-one.rest.now c.in-Some.behind.now c.in-Some.one c.loop-one.invariant (sym c.in-Some.ensures)).lines
