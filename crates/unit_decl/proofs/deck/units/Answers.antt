use Rattle.std.proofs.lemmas.Result.{IfOk-weaker}
use Rattle.fort_syntax.specs.WellFormed.{IsWellFormed}
use Rattle.deck_entries.specs.Decks.{IsDeckOf}
use Rattle.unit_decl.proofs.WellFormedDecks.{deck_is_well_formed}
use Rattle.unit_decl.proofs.deck.units.Goals as goal

pub returns-clause-well_formed : goal.returns-clause-well_formed
returns-clause-well_formed c =
    IfOk-weaker c.deck_or_fault.result (IsDeckOf c.args.dialect c.args.cards.now) (IsWellFormed c.args.dialect)
    (λ deck made. deck_is_well_formed c.args.dialect c.args.cards.now deck made c.requires) c.deck_or_fault.ensures.deck
