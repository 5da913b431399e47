use Rattle.std.proofs.Common.{◌≡◌, ◌++◌, drop}
use Rattle.run_start.proofs.words.name_words.Given as goal

abbrev pub invariant-loop-name : goal.invariant-loop-name
invariant-loop-name l = l.words.items ++ drop l.name-index l.names ≡ l.names
