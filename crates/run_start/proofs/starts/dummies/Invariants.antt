use Rattle.std.proofs.Common.{◌≡◌, drop, Some}
use Rattle.run_start.specs.Decks.{dummies_from}
use Rattle.run_start.proofs.starts.dummies.Given as goal

abbrev pub invariant-loop-code : goal.invariant-loop-code
invariant-loop-code l = dummies_from l.sum (drop l.code-index l.codes) ≡ dummies_from (Some 0) l.codes
