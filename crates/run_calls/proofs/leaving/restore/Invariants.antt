use Rattle.std.proofs.Common.{◌≡◌, suc, [], drop}
use Rattle.run_state.specs.Deeds.{newest_in}
use Rattle.run_calls.specs.Calls.{copies_in, given_back_all, restored}
use Rattle.run_calls.proofs.leaving.restore.Given as goal

abbrev pub invariant-loop-i : goal.invariant-loop-i
invariant-loop-i l =
    (given_back_all (copies_in l.setting l.unit l.frame.number) (suc l.i) l.next (drop l.i (newest_in l.frame.actuals l.fn.m.values.items [])) l.m ≡ restored l.setting l.unit l.frame l.fn.m)
    × (l.m.values ≡ l.fn.m.values)
