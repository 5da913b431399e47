use Rattle.std.proofs.Common.{ap, ◌∙◌, drop}
use Rattle.fort_model.specs.Flow.{is_branch, is_close}
use Rattle.unit_points.proofs.Scanning.{turned}
use Rattle.unit_points.proofs.turns.turns_of.Goals as goal

pub returns : goal.returns
returns c =
    let scanned = c.in_ok-scan.ensures in
    record {
      points = c.in_ok-points.ensures;
      branches = turned c.args.unit.now is_branch c.as_slice.result.now c.in_ok-scan.scan.branches.items _ c.as_slice.ensures
          (c.in_ok-branches.ensures ∙ ap (drop 1) c.as_slice-2.ensures.value) scanned.branches_long scanned.branches;
      ends = turned c.args.unit.now is_close c.as_slice.result.now c.in_ok-scan.scan.ends.items _ c.as_slice.ensures
          (c.in_ok-ends.ensures ∙ ap (drop 1) c.as_slice-3.ensures.value) scanned.ends_long scanned.ends;
    }
