use Rattle.std.proofs.Common.{arith}
use Rattle.range_stage.proofs.Stepwise.{at_place, cards_at, one_told, all_told}
use Rattle.range_stage.proofs.units.first_fault.Goals as goal

pub unit_fault-requires : goal.unit_fault-requires
unit_fault-requires c =
    cards_at c.requires.well.0 c.args.units.now c.loop-number.number c.index-units-number.result c.requires.well.1
    (at_place c.args.units.now c.loop-number.number c.index-units-number.result (omega arith) c.index-units-number.is)

pub loop-number-preserved : goal.loop-number-preserved
loop-number-preserved c =
    one_told c.args.units.now c.args.specs.now c.loop-number.number c.index-units-number.result c.index-specs-number.result c.loop-number.first c.in-Ok.fault c.sooner-first.result
    (at_place c.args.units.now c.loop-number.number c.index-units-number.result (omega arith) c.index-units-number.is)
    (at_place c.args.specs.now c.loop-number.number c.index-specs-number.result (omega (arith, c.requires.long)) c.index-specs-number.is)
    c.loop-number.invariant c.in-Ok.ensures c.sooner-first.ensures

pub returns : goal.returns
returns c = all_told c.args.units.now c.args.specs.now c.loop-number.number c.loop-number.first (omega arith) c.loop-number.invariant
