use Rattle.std.proofs.Common.{◌≡◌, ◌≤◌, suc, [], drop, length}
use Rattle.run_state.specs.Deeds.{newest_in}
use Rattle.run_state.specs.Settings.{copies_by}
use Rattle.run_calls.specs.Calls.{handed_all, HasRoomFor}
use Rattle.run_calls.proofs.passing.hand_all.Given as goal

abbrev pub invariant-loop-i : goal.invariant-loop-i
invariant-loop-i l =
    (handed_all (copies_by l.setting.passing l.unit l.number) (suc l.i) l.base (drop l.i (newest_in l.count l.fn.m.values.items [])) l.m
    ≡ handed_all (copies_by l.setting.passing l.unit l.number) 1 l.base (newest_in l.count l.fn.m.values.items []) l.fn.m)
    × (HasRoomFor (drop l.i (newest_in l.count l.fn.m.values.items [])) l.m × (l.m.values ≡ l.fn.m.values) × (l.base ≤ length l.m.cells.items))
