use Rattle.std.proofs.Common.{◌<◌, length, slice_get, refl, sym, ap, ◌∙◌, arith}
use Rattle.std.proofs.lemmas.Option.{slice_get_read}
use Rattle.run_made.proofs.Pushing.{stepped}
use Rattle.run_made.proofs.maker.Maker.make.Goals as goal

pub loop-point-preserved : goal.loop-point-preserved
loop-point-preserved c =
    let lines = c.lines-lines.result.now in
    let lt : c.loop-point.point < length lines = omega arith in
    let e = c.in_ok-push_line.ensures in
    stepped c.args.self.now c.loop-point.point c.index-lines-point.result c.loop-point.made c.push_line.new.made
    (ap (λ ls. slice_get ls c.loop-point.point) (sym c.lines-lines.ensures)
    ∙ slice_get_read lines (length lines) c.loop-point.point c.index-lines-point.result refl lt c.index-lines-point.is)
    e.targets e.calls e.code e.place c.loop-point.invariant
