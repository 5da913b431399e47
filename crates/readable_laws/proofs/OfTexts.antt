-- The conditions of bytes that are accepted can be read back.
use Rattle.std.proofs.Common.{◌≡◌, ℕ, suc, ◌<◌, ◌^◌, List, flat_map, length, Option, Some, None, slice_get, refl, sym, ap, ◌∙◌, subst, arith}
use Rattle.std.specs.List.{AllByRecursion}
use Rattle.std.proofs.lemmas.Option.{slice_get_within}
use Rattle.event_text.proofs.OneText.{one_text}
use Rattle.fort_syntax.specs.declared.deck.Deck.{Deck}
use Rattle.fort_syntax.specs.declared.deck.Placed.{Placed}
use Rattle.fort_syntax.specs.declared.dialect.Dialect.{Dialect}
use Rattle.fort_syntax.specs.declared.unit.Unit.{Unit as Routine}
use Rattle.fort_notes.specs.Assertions.{Assertion, Notes}
use Rattle.fort_notes.specs.Remarks.{Remarks, assertion_in, of_unit, notes_by}
use Rattle.fort_model.specs.Conditions.{conditions_of}
use Rattle.fort_model.specs.Fitting.{HasFittingNotes}
use Rattle.fort_model.specs.Program.{Program, notes_in, notes_of}
use Rattle.note_laws.proofs.AllJudged.{remarks_judged}
use Rattle.note_laws.proofs.NotesFit.{assert_origin, notes_at, notes_fit_units}
use Rattle.accepted_laws.specs.Accepted.{IsProgramOf}
use Rattle.judging.specs.Judgement.{IsDeckIn}
use Rattle.readable_laws.specs.Laws.{ConditionsInAreReadable, UnmarkedInAreReadable, TextTellsConditions, unmarked}
use Rattle.readable_laws.specs.Small.{IsSmallLine, IsSmall, HasInputs}
use Rattle.readable_laws.proofs.Inputs.{inputs_have_terms}
use Rattle.readable_laws.proofs.Notes.{at_place, no_gap}
use Rattle.readable_laws.proofs.Readable.{small_conditions_are_readable, unmarked_are_marks}
use Rattle.readable_laws.proofs.Texts.{texts_are_small}

module _ (d : Dialect) (bytes : List ℕ) (deck : Deck) (is_deck : IsDeckIn d bytes deck) (r : Remarks) (p : Program) (is_program : IsProgramOf d deck r p) where
  units_are : p.units ≡ deck.units
  units_are = ap (λ (q : Program). q.units) is_program.program

  notes_are : p.notes ≡ r.units
  notes_are = ap (λ (q : Program). q.notes) is_program.program

  -- the notes of a unit are those that the remarks say of it
  unit_notes : (i : ℕ) (u : Routine) → slice_get p.units i ≡ Some u → (notes : Notes) × (slice_get r.units i ≡ Some notes) × (notes_of p i ≡ notes)
  unit_notes i u is = by (slice_get p.notes i) refl
    where
      fits : HasFittingNotes p
      fits = subst HasFittingNotes (sym is_program.program) (notes_fit_units d deck r p.smashes is_program.well_formed is_program.remarks)

      by : (o : Option Notes) → slice_get p.notes i ≡ o → (notes : Notes) × (slice_get r.units i ≡ Some notes) × (notes_of p i ≡ notes)
      by (Some notes) e = (notes, ap (λ (ns : List Notes). slice_get ns i) (sym notes_are) ∙ e, ap notes_in e)
      by None e = let lt = slice_get_within p.units i u is in let same = fits.count in absurd (no_gap p.notes i (omega arith) e)

  in_deck : (i : ℕ) (u : Routine) → slice_get p.units i ≡ Some u → slice_get deck.units i ≡ Some u
  in_deck i u is = ap (λ (us : List Routine). slice_get us i) (sym units_are) ∙ is

  inputs : HasInputs p
  inputs i u is =
      let n = unit_notes i u is in
      subst (λ (x : Notes). 0 < length x.input) (sym n.2) (inputs_have_terms deck r is_program.remarks i u n.0 (in_deck i u is) n.1)

  abbrev AreSmallUnits : Deck → Type 0
  AreSmallUnits x = AllByRecursion (λ (u : Routine). AllByRecursion IsSmallLine u.lines) x.units

  abbrev AreSmallNotes : Deck → Type 0
  AreSmallNotes x = AllByRecursion (λ (n : Placed). n.card < 2 ^ 32) x.notes

  small_units : AreSmallUnits deck
  small_units = subst AreSmallUnits (sym is_deck.1.3) (texts_are_small d bytes is_deck.1.0 is_deck.0 is_deck.1.1).lines

  small_notes : AreSmallNotes deck
  small_notes = subst AreSmallNotes (sym is_deck.1.3) (texts_are_small d bytes is_deck.1.0 is_deck.0 is_deck.1.1).notes

  small_assert : (i k : ℕ) (u : Routine) (a : Assertion) → slice_get p.units i ≡ Some u → slice_get (notes_of p i).asserts k ≡ Some a → a.card < 2 ^ 32
  small_assert i k u a is at =
      let n = unit_notes i u is in
      let j = remarks_judged deck r is_program.remarks in
      let same : n.0 ≡ notes_by (of_unit (suc i) j.notes) = notes_at j.notes 1 deck.units i n.0 (ap (λ (x : Remarks). slice_get x.units i) (sym j.is) ∙ n.1) (suc i) (omega arith) in
      let among : slice_get (flat_map (λ x. assertion_in x x.form) (of_unit (suc i) j.notes)) k ≡ Some a = ap (λ (x : Notes). slice_get x.asserts k) (sym (n.2 ∙ same)) ∙ at in
      let o = assert_origin deck j.notes j.are.all i a (k, among) in
      let from = o.of_unit.origin in
      subst (λ (m : ℕ). m < 2 ^ 32) (sym (o.is.card ∙ from.judged.card)) (at_place (λ (x : Placed). x.card < 2 ^ 32) deck.notes small_notes from.among.0 from.note from.among.1)

  small : IsSmall p
  small = record {
    lines = λ i pc u line is at. at_place IsSmallLine u.lines (at_place (λ (v : Routine). AllByRecursion IsSmallLine v.lines) deck.units small_units i u (in_deck i u is)) pc line at;
    asserts = small_assert;
  }

pub conditions_in_are_readable : ConditionsInAreReadable
conditions_in_are_readable d bytes deck r p paths h marks fit =
    small_conditions_are_readable d deck r p paths h.accepted h.within (small d bytes deck h.is_deck r p h.accepted.is_program) (inputs d bytes deck h.is_deck r p h.accepted.is_program) marks fit

pub unmarked_in_are_readable : UnmarkedInAreReadable
unmarked_in_are_readable d bytes deck r p paths h = conditions_in_are_readable d bytes deck r p paths h (unmarked (conditions_of p paths)) (unmarked_are_marks (conditions_of p paths))

pub text_tells_conditions : TextTellsConditions
text_tells_conditions d bytes deck r p paths h marks fit es cs others read same =
    one_text p.functions es (conditions_of p paths) cs marks others (conditions_in_are_readable d bytes deck r p paths h marks fit) read same
