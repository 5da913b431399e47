use Rattle.std.proofs.Common.{length, ◌-◌, ◌≡◌, ◌<◌, ◌≤◌, [], drop}
use Rattle.std.specs.Prelude.{slice_range}
use Rattle.formula.specs.Tokens.{tokens_from}
use Rattle.formula.proofs.tokens.atom_end.Given as goal

-- the bytes passed are the atom so far
abbrev pub invariant-loop-end : goal.invariant-loop-end
invariant-loop-end l = record {
  low : l.start < l.end;
  high : l.end ≤ length l.text;
  same : tokens_from l.start [] (drop l.start l.text) ≡ tokens_from l.end (slice_range l.text l.start l.end) (drop l.end l.text);
}

abbrev pub decreases-loop-end : goal.decreases-loop-end
decreases-loop-end l = length l.text - l.end
