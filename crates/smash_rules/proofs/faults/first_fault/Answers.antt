use Rattle.std.proofs.Common.{sym, ◌∙◌, arith}
use Rattle.smash_laws.specs.Ordered.{with_table}
use Rattle.smash_rules.proofs.Scanned.{unit_gone, unit_told}
use Rattle.smash_rules.proofs.faults.first_fault.Goals as goal

pub returns-in-Some : goal.returns-in-Some
returns-in-Some c =
    unit_told (with_table c.args.deck.now.units.now c.args.rows.now) c.loop-number.number _ (omega arith) c.loop-number.invariant c.in-Some.found (sym c.in_ok-fault.ensures ∙ c.in-Some.is)

pub loop-number-preserved : goal.loop-number-preserved
loop-number-preserved c =
    unit_gone (with_table c.args.deck.now.units.now c.args.rows.now) c.loop-number.number _ (omega arith) c.loop-number.invariant (sym c.in_ok-fault.ensures ∙ c.in-None.is)
