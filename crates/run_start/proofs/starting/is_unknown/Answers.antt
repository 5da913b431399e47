use Rattle.std.proofs.Common.{ap, ◌∙◌, is_some}
use Rattle.std.specs.List.{list_all}
use Rattle.unit_tables.specs.Tables.{told}
use Rattle.run_start.specs.Decks.{are_coded_sites}
use Rattle.run_start.proofs.Unknown.{unknown_is}
use Rattle.run_start.proofs.starting.is_unknown.Goals as goal

pub returns : goal.returns
returns c = λ u given t.
    c.some_unknown.ensures
    ∙ unknown_is c.args.deck.now.units.now c.args.deck.now.code.now c.requires.runnable.coded u given c.args.tables.now c.args.passing.now c.all_known-known.result c.are_sites-sites.result t
    (c.all_known-known.ensures ∙ ap (λ ws. list_all (λ x. is_some (told c.args.tables.now.places x)) ws) c.as_slice.ensures.value) (c.are_sites-sites.ensures ∙ ap (λ cs. are_coded_sites c.args.deck.now.units.now cs c.args.passing.now) c.as_slice-2.ensures)
