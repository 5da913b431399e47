use Rattle.std.proofs.Common.{sym, ◌∙◌}
use Rattle.loop_tables.proofs.FromBehind.{at_line, is_none, loop_taken, none_taken}
use Rattle.loop_tables.proofs.loops.Loops.take.Goals as goal

pub returns-in_default : goal.returns-in_default
returns-in_default c =
    let here = at_line c.args.unit.now.lines c.args.at c.requires.within in
    none_taken c.args.unit.now c.args.at here.0 c.args.self.now.table.items here.1 (sym (c.last_of.ensures.last here.0 here.1) ∙ is_none c.last_of.result c.in_default.not-Some) c.requires.before

pub returns : goal.returns
returns c =
    let here = at_line c.args.unit.now.lines c.args.at c.requires.within in
    loop_taken c.args.unit.now c.args.at here.0 c.in-Some.point c.args.self.now.table.items c.put.new.table.items here.1 (sym (c.last_of.ensures.last here.0 here.1) ∙ c.in-Some.is) c.in-Some.ensures.inside
    c.in-Ok.ensures c.requires.before
