use Rattle.std.proofs.Common.{◌≡◌, drop}
use Rattle.run_calls.specs.Calls.{given_all, HasRoomToGive}
use Rattle.run_calls.proofs.entering.give_all.Given as goal

abbrev pub invariant-loop-i : goal.invariant-loop-i
invariant-loop-i l = (given_all (drop l.i l.sizes) l.m ≡ given_all l.sizes l.fn.m) × HasRoomToGive (drop l.i l.sizes) l.m
