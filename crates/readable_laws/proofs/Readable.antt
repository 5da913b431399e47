-- The conditions of accepted decks can be read back.
use Rattle.std.proofs.Common.{◌≡◌, ℕ, zero, suc, ◌<◌, ◌^◌, true, List, [], length, replicate, Some, slice_get, refl, sym, ap, subst}
use Rattle.std.specs.List.{All, list_all}
use Rattle.std.proofs.lemmas.List.{length-replicate}
use Rattle.std.proofs.lemmas.List.Elements.{All-nil}
use Rattle.formula.specs.declared.definition.Heading.{Heading}
use Rattle.event_text.specs.Readable.{AreReadableAfter, headings_with, IsReadableCondition, is_mark, IsAsked}
use Rattle.fort_syntax.specs.WellFormed.{IsWellFormedUnit, AreWellFormedUnits}
use Rattle.fort_syntax.specs.declared.deck.Deck.{Deck}
use Rattle.fort_syntax.specs.declared.dialect.Dialect.{Dialect}
use Rattle.fort_syntax.specs.declared.unit.Unit.{Unit as Routine}
use Rattle.fort_notes.specs.Remarks.{Remarks}
use Rattle.fort_model.specs.Conditions.{conditions_of}
use Rattle.fort_model.specs.Fitting.{HasFittingNotes}
use Rattle.fort_model.specs.Program.{Program}
use Rattle.fort_model.specs.Programs.{program_of}
use Rattle.fort_model.specs.Rules.{KeepsRules}
use Rattle.fort_laws.proofs.DeclaredDecks.{well_at}
use Rattle.accepted_laws.specs.Accepted.{IsProgramOf}
use Rattle.note_laws.specs.Readable.{AreReadableNotes}
use Rattle.note_laws.proofs.DefinitionsRead.{definitions_are_readable}
use Rattle.note_laws.proofs.NotesFit.{notes_fit_units}
use Rattle.note_laws.proofs.Small.{all_of}
use Rattle.note_laws.proofs.SmallBounds.{bounds_are_small}
use Rattle.note_laws.proofs.TermsRead.{terms_are_readable}
use Rattle.readable_laws.specs.Laws.{UnmarkedAreMarks, SmallConditionsAreReadable}
use Rattle.readable_laws.specs.Small.{IsSmall, HasInputs}
use Rattle.readable_laws.proofs.Lines.{lines_right}
use Rattle.readable_laws.proofs.Listed.{conditions_read, conditions_few}
use Rattle.readable_laws.proofs.Notes.{notes_right}
use Rattle.readable_laws.proofs.Right.{IsProgramRight}
use Rattle.readable_laws.proofs.Units.{unit_right}

module _ (dialect : Dialect) (deck : Deck) (r : Remarks) (p : Program) (is_program : IsProgramOf dialect deck r p) (keeps : KeepsRules p) (small : IsSmall p) (inputs : HasInputs p) where
  abbrev hs : List Heading
  hs = headings_with p.functions

  well : (i : ℕ) (u : Routine) → slice_get p.units i ≡ Some u → IsWellFormedUnit dialect u
  well i u is = well_at dialect p.units i u (subst (AreWellFormedUnits dialect) (sym (ap (λ (q : Program). q.units) is_program.program)) is_program.well_formed.units) is

  fits : HasFittingNotes p
  fits = subst HasFittingNotes (sym is_program.program) (notes_fit_units dialect deck r p.smashes is_program.well_formed is_program.remarks)

  read_from : (q : Program) → q ≡ program_of dialect deck r q.smashes → All (AreReadableNotes (headings_with q.functions)) q.notes
  read_from q e =
      subst (λ (x : Program). All (AreReadableNotes (headings_with x.functions)) x.notes) (sym e) (terms_are_readable deck r is_program.remarks)

  pub program_right : IsProgramRight hs p
  program_right = record {
    bound = subst (λ (n : ℕ). n < 10 ^ 18) (sym (ap (λ (q : Program). q.bound) is_program.program)) (bounds_are_small deck r is_program.remarks).1;
    units = λ i u is. unit_right dialect u (well i u is);
    notes = λ i u is. notes_right hs p fits (read_from p is_program.program) i u is (unit_right dialect u (well i u is)) (inputs i u is) (λ k a e. small.asserts i k u a is e);
    lines = λ i u is pc line at. let l = small.lines i pc u line is at in
        record { card = l.card; stmt = lines_right dialect p i u is (well i u is) keeps (unit_right dialect u (well i u is)) pc line at l.labels };
  }

  definitions_read : AreReadableAfter [] p.functions
  definitions_read = subst (λ (q : Program). AreReadableAfter [] q.functions) (sym is_program.program) (definitions_are_readable deck r is_program.remarks)

all_marks : (n : ℕ) → list_all is_mark (replicate n 45) ≡ true
all_marks zero = refl
all_marks (suc n) = all_marks n

pub small_conditions_are_readable : SmallConditionsAreReadable
small_conditions_are_readable dialect deck r p paths a limits small inputs marks fit = record {
  definitions = definitions_read dialect deck r p a.is_program a.kept small inputs;
  conditions = all_of (IsReadableCondition (headings_with p.functions)) (conditions_of p paths)
      (conditions_read (headings_with p.functions) p (program_right dialect deck r p a.is_program a.kept small inputs) paths a.all_paths limits);
  few = conditions_few (headings_with p.functions) p (program_right dialect deck r p a.is_program a.kept small inputs) paths limits;
  count = fit.count;
  letters = fit.letters;
  asked = fit.asked;
}

pub unmarked_are_marks : UnmarkedAreMarks
unmarked_are_marks cs = record { count = length-replicate (length cs) 45; letters = all_marks (length cs); asked = All-nil IsAsked }
