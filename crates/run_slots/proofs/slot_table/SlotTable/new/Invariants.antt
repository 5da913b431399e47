use Rattle.std.proofs.Common.{◌≡◌, [], drop}
use Rattle.name_tables.specs.Tables.{all_told}
use Rattle.run_slots.specs.Slotted.{slotted}
use Rattle.run_slots.proofs.slot_table.SlotTable.new.Given as goal

abbrev pub invariant-loop-slot : goal.invariant-loop-slot
invariant-loop-slot l = all_told l.table (slotted (drop l.slot l.names) l.slot) ≡ all_told [] (slotted l.names 0)
