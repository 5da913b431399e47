use Rattle.std.proofs.Common.{◌≡◌, ◌≤◌, ◌+◌, ◌-◌, [], length, drop}
use Rattle.formula.specs.Tokens.{tokens_from}
use Rattle.fort_notes.specs.Judging.{clocks}
use Rattle.note_names.proofs.CountedClocks.{clocks_among}
use Rattle.note_names.proofs.clock_words.clocks.Given as goal

-- those found and those among the tokens left
abbrev pub invariant-loop-lexeme : goal.invariant-loop-lexeme
invariant-loop-lexeme l = record {
  within : l.at ≤ length l.text;
  few : l.found ≤ l.at;
  same : l.found + clocks_among (tokens_from l.at [] (drop l.at l.text)) ≡ clocks l.text;
}

abbrev pub decreases-loop-lexeme : goal.decreases-loop-lexeme
decreases-loop-lexeme l = length l.text - l.at
