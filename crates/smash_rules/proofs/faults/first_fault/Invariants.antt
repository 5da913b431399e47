use Rattle.std.proofs.Common.{◌≡◌, drop}
use Rattle.smash_laws.specs.Ordered.{with_table}
use Rattle.stage_faults.specs.Scans.{first_in_units}
use Rattle.smash_rules.specs.Judged.{head_rule, stmt_rule, first_smash_fault}
use Rattle.smash_rules.proofs.faults.first_fault.Given as goal

abbrev pub invariant-loop-number : goal.invariant-loop-number
invariant-loop-number l =
    first_in_units (head_rule (with_table l.deck.units.now l.rows)) (stmt_rule (with_table l.deck.units.now l.rows)) l.number (drop l.number l.deck.units.now)
    ≡ first_smash_fault (with_table l.deck.units.now l.rows)
