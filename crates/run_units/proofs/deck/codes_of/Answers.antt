use Rattle.std.proofs.Common.{◌<◌, length, refl, arith}
use Rattle.std.proofs.lemmas.Option.{slice_get_read}
use Rattle.run_units.proofs.Coded.{one_more, well_at}
use Rattle.run_units.proofs.deck.codes_of.Goals as goal

pub code-requires-clause-well : goal.code-requires-clause-well
code-requires-clause-well c =
    let units = c.args.deck.now.units.now in
    let lt : c.loop-at.at < length units = omega arith in
    let there = slice_get_read units (length units) c.loop-at.at c.index-units-at.result refl lt c.index-units-at.is in
    (c.requires.well.0, well_at c.requires.well.0 units c.loop-at.at c.index-units-at.result c.requires.well.1 there)

pub code-requires-clause-shared : goal.code-requires-clause-shared
code-requires-clause-shared c =
    let units = c.args.deck.now.units.now in
    let lt : c.loop-at.at < length units = omega arith in
    let there = slice_get_read units (length units) c.loop-at.at c.index-units-at.result refl lt c.index-units-at.is in
    λ x h. c.requires.shared c.loop-at.at c.index-units-at.result x there h

pub loop-at-preserved : goal.loop-at-preserved
loop-at-preserved c =
    let units = c.args.deck.now.units.now in
    let lt : c.loop-at.at < length units = omega arith in
    let there = slice_get_read units (length units) c.loop-at.at c.index-units-at.result refl lt c.index-units-at.is in
    one_more units c.args.deck.now.commons.now.names.now c.loop-at.at c.index-units-at.result c.loop-at.codes.items c.push_unit.new.codes.items c.in_ok-code.code
    c.loop-at.invariant there c.in_ok-code.ensures c.in_ok-push_unit.ensures
