use Rattle.std.proofs.Common.{◌≡◌, drop}
use Rattle.stage_faults.specs.Scans.{first_at_lines}
use Rattle.call_rules.specs.CallFaults.{stmt_rule}
use Rattle.call_rules.specs.Cleared.{AreCleared}
use Rattle.call_rules.proofs.statements.lines_fault.Given as goal

abbrev pub invariant-loop-line : goal.invariant-loop-line
invariant-loop-line l = record {
  cleared : AreCleared l.deck.units.now l.caller.unit.now l.cleared;
  rest : first_at_lines (stmt_rule l.deck.units.now l.caller.unit.now) (drop l.line-index l.lines)
      ≡ first_at_lines (stmt_rule l.deck.units.now l.caller.unit.now) l.lines;
}
