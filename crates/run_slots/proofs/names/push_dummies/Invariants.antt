use Rattle.std.proofs.Common.{◌≡◌, ◌++◌, drop}
use Rattle.run_slots.proofs.names.push_dummies.Given as goal

abbrev pub invariant-loop-name : goal.invariant-loop-name
invariant-loop-name l = l.all.items ++ drop l.name-index l.dummies ≡ l.fn.all.items ++ l.dummies
