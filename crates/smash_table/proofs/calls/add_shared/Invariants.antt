use Rattle.std.proofs.Common.{◌≡◌, drop}
use Rattle.name_tables.specs.Sets.{with_names}
use Rattle.smash_table.specs.Smashed.{shared_row}
use Rattle.smash_table.proofs.calls.add_shared.Given as goal

abbrev pub invariant-loop-name : goal.invariant-loop-name
invariant-loop-name l =
    with_names l.set (shared_row l.caller.unit.now l.callee.unit.now (drop l.name-index l.names))
    ≡ with_names l.initial.set (shared_row l.caller.unit.now l.callee.unit.now l.names)
