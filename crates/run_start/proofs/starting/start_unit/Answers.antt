use Rattle.std.proofs.Common.{sym, ◌∙◌}
use Rattle.std.specs.Prelude.{get_or}
use Rattle.std.proofs.lemmas.Option.{slice_get-get_or}
use Rattle.run_start.proofs.Begins.{unit_started}
use Rattle.run_start.proofs.starting.start_unit.Goals as goal

pub returns : goal.returns
returns c =
    unit_started c.args.deck.now c.args.setting.now c.args.given.now c.args.i (get_or c.args.deck.now.units.now c.args.i c.index-deck-i.result) c.shaped.result
    (slice_get-get_or c.args.deck.now.units.now c.args.i c.index-deck-i.result c.requires.there)
    (sym (c.is_unknown.ensures (get_or c.args.deck.now.units.now c.args.i c.index-deck-i.result) c.args.given.now c.in-Ok.ensures) ∙ c.if-is_unknown.false) c.shaped.ensures
