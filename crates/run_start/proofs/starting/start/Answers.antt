use Rattle.std.proofs.Common.{◌≤◌, length, sym, ◌∙◌, rules}
use Rattle.run_start.proofs.Begins.{name_started, no_place, no_unit_there}
use Rattle.run_start.proofs.starting.start.Goals as goal

pub returns-in_default : goal.returns-in_default
returns-in_default c = no_place c.args.deck.now c.args.setting.now c.args.given.now c.args.unit.now (sym (c.requires.starts.places c.args.unit.now) ∙ sym c.in_default.ensures)

pub returns-then-i-deck : goal.returns-then-i-deck
returns-then-i-deck c =
    let h : length c.args.deck.now.units.now ≤ c.in-Some.i = search rules in
    no_unit_there c.args.deck.now c.args.setting.now c.args.given.now c.args.unit.now c.in-Some.i (sym (c.requires.starts.places c.args.unit.now) ∙ sym c.in-Some.ensures) h

pub returns : goal.returns
returns c =
    name_started c.args.deck.now c.args.setting.now c.args.given.now c.args.unit.now c.in-Some.i c.start_unit.result (sym (c.requires.starts.places c.args.unit.now) ∙ sym c.in-Some.ensures) c.start_unit.ensures
