use Rattle.std.proofs.Common.{Err, ap}
use Rattle.range_stage.proofs.units.unit_fault.Goals as goal

pub returns-in-Err-Broken : goal.returns-in-Err-Broken
returns-in-Err-Broken c = c.in-Err-Broken.ensures.broken c.in-Err-Broken.fault (ap Err c.in-Err-Broken.field-0-is)
