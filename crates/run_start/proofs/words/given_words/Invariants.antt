use Rattle.std.proofs.Common.{◌≡◌, ◌++◌, drop}
use Rattle.run_start.specs.Starts.{names_given}
use Rattle.run_start.proofs.words.given_words.Given as goal

abbrev pub invariant-loop-entry : goal.invariant-loop-entry
invariant-loop-entry l = l.words.items ++ names_given (drop l.entry-index l.given) ≡ names_given l.given
