-- Soundness of accepted decks.
use Rattle.std.proofs.Common.{sym, ap, subst}
use Rattle.fort_model.specs.Conditions.{conditions_of}
use Rattle.fort_model.specs.Fitting.{HasFittingNotes}
use Rattle.fort_model.specs.Program.{Program}
use Rattle.fort_laws.proofs.CorrectDecks.{decks_are_correct}
use Rattle.fort_laws.proofs.Exact.{conditions_are_exact}
use Rattle.note_laws.proofs.NotesFit.{notes_fit_units}
use Rattle.accepted_laws.specs.Laws.{AcceptedConditionsAreExact, AcceptedDecksAreCorrect}

pub accepted_conditions_are_exact : AcceptedConditionsAreExact
accepted_conditions_are_exact dialect deck r p paths a = conditions_are_exact p paths a.all_paths

pub accepted_decks_are_correct : AcceptedDecksAreCorrect
accepted_decks_are_correct dialect deck r p paths a valid =
    let is = a.is_program in
    decks_are_correct dialect deck p is.well_formed (sym (ap (λ (q : Program). q.units) is.program)) a.kept is.table.holds
    (subst HasFittingNotes (sym is.program) (notes_fit_units dialect deck r p.smashes is.well_formed is.remarks))
    (conditions_of p paths) (conditions_are_exact p paths a.all_paths) valid
