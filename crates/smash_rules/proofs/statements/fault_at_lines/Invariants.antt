use Rattle.std.proofs.Common.{◌≡◌, drop}
use Rattle.smash_laws.specs.Ordered.{with_table}
use Rattle.stage_faults.specs.Scans.{first_at_lines}
use Rattle.smash_rules.specs.Judged.{stmt_rule}
use Rattle.smash_rules.proofs.statements.fault_at_lines.Given as goal

abbrev pub invariant-loop-line : goal.invariant-loop-line
invariant-loop-line l =
    first_at_lines (stmt_rule (with_table l.deck.units.now l.rows) l.caller.unit.now) (drop l.line-index l.lines)
    ≡ first_at_lines (stmt_rule (with_table l.deck.units.now l.rows) l.caller.unit.now) l.caller.unit.now.lines
