use Rattle.std.proofs.Common.{◌≡◌, drop}
use Rattle.run_start.specs.Decks.{longest_size}
use Rattle.run_start.proofs.starts.longest_size.Given as goal

abbrev pub invariant-loop-size : goal.invariant-loop-size
invariant-loop-size l = longest_size l.most (drop l.size-index l.sizes) ≡ longest_size l.fn.most l.sizes
