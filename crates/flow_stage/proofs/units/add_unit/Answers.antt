use Rattle.std.proofs.Common.{Err, ap}
use Rattle.flow_stage.proofs.Stepwise.{seen_broken, seen_whole}
use Rattle.flow_stage.proofs.units.add_unit.Goals as goal

pub returns-in-Ok-push : goal.returns-in-Ok-push
returns-in-Ok-push c =
    seen_whole c.args.scene.now c.args.number c.args.graphs.now.items c.push.new.self.items c.in-Ok.found c.in-Ok.ensures.kept c.in-Ok.ensures.graph c.in-Ok-push.ensures.items

pub returns-in-Err-Broken : goal.returns-in-Err-Broken
returns-in-Err-Broken c =
    seen_broken c.args.scene.now c.args.number c.args.graphs.now.items c.args.graphs.now.items c.in-Err-Broken.fault
    (c.in-Err-Broken.ensures.broken c.in-Err-Broken.fault (ap Err c.in-Err-Broken.field-0-is))
