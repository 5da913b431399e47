use Rattle.std.proofs.Common.{◌≡◌, drop}
use Rattle.std.specs.List.{list_all}
use Rattle.term_worth.specs.Machine.{held_holds}
use Rattle.term_worth.proofs.applying.all_hold.Given as goal

abbrev pub invariant-loop-held : goal.invariant-loop-held
invariant-loop-held l = list_all held_holds l.args ≡ list_all held_holds (drop l.held-index l.args)
