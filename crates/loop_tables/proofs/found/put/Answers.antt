use Rattle.loop_tables.proofs.FromBehind.{put_so}
use Rattle.loop_tables.proofs.found.put.Goals as goal

pub returns : goal.returns
returns c =
    put_so c.args.table.now.items c.taken-points.new.table.items c.args.place c.args.point c.taken-points.result.items c.push.new.self.items c.from_vec.result
    c.taken-points.ensures.rest c.taken-points.ensures.value c.in-Ok.ensures.items c.from_vec.ensures
