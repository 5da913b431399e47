use Rattle.std.proofs.Common.{◌≡◌, ◌<◌, length, refl, arith}
use Rattle.try_lines.proofs.Assignments.{last_entries, next_entries}
use Rattle.try_lines.proofs.sheets.sheet_of.Goals as goal

pub loop-i-preserved : goal.loop-i-preserved
loop-i-preserved c =
    let less : c.loop-i.i < length c.args.entries.now = omega arith in
    next_entries c.args.entries.now c.loop-i.sheet c.set.new.sheet c.loop-i.i c.index-entries-i.result c.index-entries-i.result.0 c.in_ok-value.value less c.index-entries-i.is refl c.in_ok-value.ensures
    c.in_ok-set.ensures c.loop-i.invariant

pub returns : goal.returns
returns c s =
    let past : length c.args.entries.now ≡ c.loop-i.i = omega arith in
    last_entries c.args.entries.now c.loop-i.sheet c.loop-i.i past c.loop-i.invariant s
