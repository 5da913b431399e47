use Rattle.std.proofs.Common.{◌≡◌, drop}
use Rattle.path_cut.specs.Ways.{marked}
use Rattle.path_cut.proofs.flow.mark.Given as goal

abbrev pub invariant-loop-cut : goal.invariant-loop-cut
invariant-loop-cut l = marked l.marks (drop l.cut-index l.cuts) ≡ marked l.fn.marks l.cuts
