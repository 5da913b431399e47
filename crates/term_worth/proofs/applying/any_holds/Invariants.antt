use Rattle.std.proofs.Common.{◌≡◌, drop}
use Rattle.std.specs.List.{list_any}
use Rattle.term_worth.specs.Machine.{held_holds}
use Rattle.term_worth.proofs.applying.any_holds.Given as goal

abbrev pub invariant-loop-held : goal.invariant-loop-held
invariant-loop-held l = list_any held_holds l.args ≡ list_any held_holds (drop l.held-index l.args)
