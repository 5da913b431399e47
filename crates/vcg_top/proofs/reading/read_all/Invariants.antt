use Rattle.std.proofs.Common.{◌≡◌, ◌≤◌, ◌-◌, vec_len}
use Rattle.std.specs.Io.KnownBytes.{Consumes}
use Rattle.vcg_top.specs.Commands.{most_read}
use Rattle.vcg_top.proofs.reading.read_all.Given as goal

abbrev pub invariant-loop-buffer : goal.invariant-loop-buffer
invariant-loop-buffer g l =
    let S = g.S.Source in
    record {
      within : vec_len l.bytes ≤ most_read;
      taken : Consumes (S.left l.fn.source) (S.left l.source) l.bytes.items;
      later : S.faults l.fn.source ≤ S.faults l.source;
      kept : S.never l.source ≡ S.never l.fn.source;
    }

abbrev pub decreases-loop-buffer : goal.decreases-loop-buffer
decreases-loop-buffer g l = most_read - vec_len l.bytes
