use Rattle.std.proofs.Common.{◌≡◌, drop}
use Rattle.std.specs.List.{list_any}
use Rattle.smash_table.specs.Smashed.{shared_row}
use Rattle.do_smashes.specs.Guards.{is_kept}
use Rattle.do_smashes.proofs.calls.hits_names.Given as goal

abbrev pub invariant-loop-name : goal.invariant-loop-name
invariant-loop-name l =
    list_any (is_kept l.kept.guards.now l.kept.at) (shared_row l.caller.unit.now l.callee.unit.now (drop l.name-index l.names))
    ≡ list_any (is_kept l.kept.guards.now l.kept.at) (shared_row l.caller.unit.now l.callee.unit.now l.names)
