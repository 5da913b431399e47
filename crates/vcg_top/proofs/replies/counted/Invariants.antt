use Rattle.std.proofs.Common.{ℕ, ◌<◌, slice_index_or}
use Rattle.vcg_top.proofs.replies.counted.Given as goal

-- the counts so far are small
abbrev pub invariant-loop-i : goal.invariant-loop-i
invariant-loop-i l = record {
  small : (k : ℕ) (d : ℕ × ℕ) → k < l.i → (slice_index_or l.asked k d).1 < 18446744073709551616;
}
