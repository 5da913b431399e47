use Rattle.std.proofs.Common.{◌≤◌, length, drop}
use Rattle.note_names.specs.NameTests.{AreRolesIn}
use Rattle.note_names.proofs.roles.Roles.of_names.Given as goal

-- the names from `left` on are in the table
abbrev pub invariant-loop-left : goal.invariant-loop-left
invariant-loop-left l = record {
  within : l.left ≤ length l.names;
  told : AreRolesIn (drop l.left l.names) l.roles;
}

abbrev pub decreases-loop-left : goal.decreases-loop-left
decreases-loop-left l = l.left
