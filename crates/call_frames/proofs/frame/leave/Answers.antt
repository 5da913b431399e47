use Rattle.call_frames.proofs.Framed.{entry_stays}
use Rattle.call_frames.proofs.frame.leave.Goals as goal

pub returns-clause-entry : goal.returns-clause-entry
returns-clause-entry c told h =
    entry_stays c.args.walk.now.pool c.fill.new.walk.pool c.args.frame.now.names.table c.fill.new.frame.table c.args.frame.now.entry.items c.args.callee.now.unit.now told c.fill.ensures.on.grows
    c.in_ok-fill.ensures.fills.extends h
