use Rattle.std.proofs.Common.{◌≡◌, ◌≤◌, ◌-◌, [], length, drop, option_copied}
use Rattle.formula.specs.Pool.{Grows, trees}
use Rattle.formula.specs.Tokens.{tokens_from}
use Rattle.formula.specs.Reading.{head_named, reading, reads}
use Rattle.formula.specs.OpenCalls.{state_of, Stands}
use Rattle.formula.proofs.reader.read_term.Given as goal

-- the tokens left lead to the answer
abbrev pub invariant-loop-lexeme : goal.invariant-loop-lexeme
invariant-loop-lexeme l =
    let named = head_named l.headings (option_copied l.next) in
    record {
      stands : Stands l.pool l.due l.open;
      within : l.at ≤ length l.text;
      same : reading named l.limit (state_of (trees l.pool) l.due l.open) (tokens_from l.at [] (drop l.at l.text)) ≡ reads named l.limit l.text;
      grows : Grows l.fn.pool l.pool;
    }

abbrev pub decreases-loop-lexeme : goal.decreases-loop-lexeme
decreases-loop-lexeme l = length l.text - l.at
