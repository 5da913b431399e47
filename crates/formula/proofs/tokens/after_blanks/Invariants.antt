use Rattle.std.proofs.Common.{length, ◌-◌, ◌≡◌, ◌≤◌, [], drop}
use Rattle.formula.specs.Tokens.{tokens_from}
use Rattle.formula.proofs.tokens.after_blanks.Given as goal

-- the tokens left are the same
abbrev pub invariant-loop-end : goal.invariant-loop-end
invariant-loop-end l = record {
  low : l.at ≤ l.end;
  high : l.end ≤ length l.text;
  same : tokens_from l.at [] (drop l.at l.text) ≡ tokens_from l.end [] (drop l.end l.text);
}

abbrev pub decreases-loop-end : goal.decreases-loop-end
decreases-loop-end l = length l.text - l.end
