use Rattle.std.proofs.Common.{◌≡◌, rules, None, sym, ap, subst, ◌∙◌}
use Rattle.std.specs.Prelude.{map}
use Rattle.fort_syntax.specs.Units.{segments, unit_of}
use Rattle.fort_syntax.specs.UnitRules.{fault_of}
use Rattle.deck_entries.specs.Decks.{IsDeckOf}
use Rattle.deck_entries.proofs.EntriesRead.{deck_found}
use Rattle.unit_decl.proofs.HeadedUnits.{units_headed}
use Rattle.unit_decl.proofs.deck.deck_or_fault.Goals as goal

pub units_of-requires : goal.units_of-requires
units_of-requires c =
    let d = c.args.dialect in
    let none : c.in-Ok-first_fault.fault ≡ None = search rules in
    units_headed d c.as_slice-2.result.now
    (sym none ∙ c.in-Ok-first_fault.ensures ∙ ap (fault_of d) (c.as_slice.ensures.value ∙ sym c.as_slice-2.ensures.value))

pub returns-clause-deck : goal.returns-clause-deck
returns-clause-deck c =
    let d = c.args.dialect in
    let cards = c.args.cards.now in
    let units = c.in-Ok-units_of.units in
    let lines = c.in-Ok.reading.lines.items in
    let notes = c.in-Ok.reading.notes.items in
    let none : c.in-Ok-first_fault.fault ≡ None = search rules in
    subst (λ ns. IsDeckOf d cards (record { units = units; notes = ns })) (sym c.from_vec.ensures)
    (deck_found d cards lines notes c.in-Ok.reading.spot units c.in-Ok.ensures.read
    (sym none ∙ c.in-Ok-first_fault.ensures ∙ ap (fault_of d) c.as_slice.ensures.value)
    (c.in-Ok-units_of.ensures ∙ ap (λ ls. map unit_of (segments ls)) c.as_slice-2.ensures.value))
