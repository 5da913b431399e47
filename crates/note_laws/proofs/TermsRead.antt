-- The terms of notes can be read back where all definitions of the deck are known.
use Rattle.std.proofs.Common.{◌≡◌, ℕ, zero, suc, Bool, true, Option, Some, None, List, [], ◌∷◌, ◌++◌, map, slice_get, refl, sym, ap, ◌∙◌, subst, append_assoc, append-nil}
use Rattle.std.specs.Prelude.{◌==◌}
use Rattle.std.specs.List.{All, AllByRecursion, flat_map}
use Rattle.event_text.specs.Readable.{headings_with}
use Rattle.formula.specs.Headings.{heading_with, heading_at, has_count, is_headed}
use Rattle.formula.specs.ReadableTerms.{IsReadableTerm}
use Rattle.formula.specs.TermTests.{uses_pass, row_uses_pass, use_passes}
use Rattle.formula.specs.Tree.{Tree, num, truth, symbol, old, apply, Row, none, more, row_count}
use Rattle.formula.specs.declared.definition.Heading.{Heading}
use Rattle.formula.specs.declared.function.Func.{Func}
use Rattle.formula.specs.declared.function.Func.TheVariants.{BuiltIn, Defined}
use Rattle.fort_syntax.specs.declared.deck.Deck.{Deck}
use Rattle.fort_syntax.specs.declared.unit.Unit.{Unit as Routine}
use Rattle.fort_notes.specs.Forms.{StepTree, ProofTree, Form, bound, definition, input, output, assertion, run, try, proof}
use Rattle.fort_notes.specs.Judging.{Word, Bound, PlainDefinition, CountingDefinition, Input, Output, Assert, Run, Try, Proof, Judged, definition_in, headings, step_terms}
use Rattle.fort_notes.specs.Remarks.{Remarks, input_in, output_in, assertion_in, of_unit, notes_by, notes_of_units, proof_in}
use Rattle.note_laws.specs.Readable.{IsReadableAssertion, AreReadableNotes, IsReadableStep, IsReadableProof}
use Rattle.note_laws.specs.Laws.{TermsAreReadable, ProofsAreReadable}
use Rattle.note_laws.proofs.Small.{both_parts, both_hold, flat_all, all_mapped, all_of, filter_passes}
use Rattle.note_laws.proofs.FormsGive.{IsForm, StepRead}
use Rattle.note_laws.proofs.AllJudged.{AreJudged, Origin, origin, remarks_judged}
use Rattle.note_laws.proofs.DefinitionsRead.{headings_more}

-- ---- more headings

heading_stays : (hs others : List Heading) (k : ℕ) (h : Heading) → heading_at hs k ≡ Some h → heading_at (hs ++ others) k ≡ Some h
heading_stays hs others zero h e = absurd (cc)
heading_stays hs others (suc k) h e = stays hs k e
  where
    stays : (xs : List Heading) (i : ℕ) → slice_get xs i ≡ Some h → slice_get (xs ++ others) i ≡ Some h
    stays [] i q = absurd (cc)
    stays (x ∷ xs) zero q = q
    stays (x ∷ xs) (suc i) q = stays xs i q

module _ (hs others : List Heading) where
  use_stays : (k : ℕ) (row : Row) → is_headed hs k row ≡ true → is_headed (hs ++ others) k row ≡ true
  use_stays k row e = go (heading_at hs k) refl e
    where
      go : (o : Option Heading) → heading_at hs k ≡ o → has_count (row_count row) o ≡ true → is_headed (hs ++ others) k row ≡ true
      go None q f = absurd (cc)
      go (Some h) q f = ap (has_count (row_count row)) (heading_stays hs others k h q) ∙ f

  function_stays : (f : Func) (row : Row) → use_passes (is_headed hs) f row ≡ true → use_passes (is_headed (hs ++ others)) f row ≡ true
  function_stays (BuiltIn f) row e = refl
  function_stays (Defined k) row e = use_stays k row e

  mutual
    uses_stay : (t : Tree) → uses_pass (is_headed hs) t ≡ true → uses_pass (is_headed (hs ++ others)) t ≡ true
    uses_stay (num z) e = refl
    uses_stay (truth b) e = refl
    uses_stay (symbol x) e = refl
    uses_stay (old x) e = refl
    uses_stay (apply f row) e =
        let p = both_parts (use_passes (is_headed hs) f row) (row_uses_pass (is_headed hs) row) e in
        both_hold (use_passes (is_headed (hs ++ others)) f row) (row_uses_pass (is_headed (hs ++ others)) row) (function_stays f row p.0) (row_uses_stay row p.1)

    row_uses_stay : (row : Row) → row_uses_pass (is_headed hs) row ≡ true → row_uses_pass (is_headed (hs ++ others)) row ≡ true
    row_uses_stay none e = refl
    row_uses_stay (more t rest) e =
        let p = both_parts (uses_pass (is_headed hs) t) (row_uses_pass (is_headed hs) rest) e in
        both_hold (uses_pass (is_headed (hs ++ others)) t) (row_uses_pass (is_headed (hs ++ others)) rest) (uses_stay t p.0) (row_uses_stay rest p.1)

  term_stays : (t : Tree) → IsReadableTerm hs t → IsReadableTerm (hs ++ others) t
  term_stays t h = record { numbers = h.numbers; names = h.names; functions = h.functions; uses = uses_stay t h.uses }

-- ---- the headings of all notes go on those of the first of them

record GoesOn (hs all : List Heading) : Type 0 where
  others : List Heading
  is : all ≡ hs ++ others

headings_all : (before behind : List Judged) → GoesOn (headings before) (headings (before ++ behind))
headings_all before [] = record { others = []; is = ap headings (append-nil before) ∙ sym (append-nil (headings before)) }
headings_all before (j ∷ behind) =
    let r = headings_all (before ++ j ∷ []) behind in
    record {
      others = map (λ d. heading_with d.name d.params) (definition_in j.form) ++ r.others;
      is = ap headings (sym (append_assoc before (j ∷ []) behind))
          ∙ (r.is ∙ (ap (λ (hs : List Heading). hs ++ r.others) (headings_more before j)
          ∙ append_assoc (headings before) (map (λ d. heading_with d.name d.params) (definition_in j.form)) r.others));
    }

-- a term that could be read when a note was judged can be read with all definitions
late : (deck : Deck) (js : List Judged) (j : Judged) (o : Origin deck deck.notes js j) (t : Tree) → IsReadableTerm (headings o.before) t → IsReadableTerm (headings js) t
late deck js j o t h =
    let g = headings_all o.before (j ∷ o.behind) in
    subst (λ (hs : List Heading). IsReadableTerm hs t) (sym (ap headings o.is ∙ g.is)) (term_stays (headings o.before) g.others t h)

-- ---- forms

module _ (hs all : List Heading) (late_term : (t : Tree) → IsReadableTerm hs t → IsReadableTerm all t) where
  terms_late : (ts : List Tree) → AllByRecursion (IsReadableTerm hs) ts → AllByRecursion (IsReadableTerm all) ts
  terms_late ts h = all_mapped (IsReadableTerm hs) (IsReadableTerm all) ts late_term h

  input_read : (w : Word) (f : Form) → IsForm hs w f → AllByRecursion (IsReadableTerm all) (input_in f)
  input_read Input (input ts) h = terms_late ts h
  input_read Bound (input ts) h = absurd h
  input_read PlainDefinition (input ts) h = absurd h
  input_read CountingDefinition (input ts) h = absurd h
  input_read Output (input ts) h = absurd h
  input_read Assert (input ts) h = absurd h
  input_read Run (input ts) h = absurd h
  input_read Try (input ts) h = absurd h
  input_read Proof (input ts) h = absurd h
  input_read w (bound b) h = tt
  input_read w (definition d) h = tt
  input_read w (output ts) h = tt
  input_read w (assertion ts stands clock) h = tt
  input_read w (run card) h = tt
  input_read w (try card) h = tt
  input_read w (proof p) h = tt

  output_read : (w : Word) (f : Form) → IsForm hs w f → AllByRecursion (IsReadableTerm all) (output_in f)
  output_read Output (output ts) h = terms_late ts h
  output_read Bound (output ts) h = absurd h
  output_read PlainDefinition (output ts) h = absurd h
  output_read CountingDefinition (output ts) h = absurd h
  output_read Input (output ts) h = absurd h
  output_read Assert (output ts) h = absurd h
  output_read Run (output ts) h = absurd h
  output_read Try (output ts) h = absurd h
  output_read Proof (output ts) h = absurd h
  output_read w (bound b) h = tt
  output_read w (definition d) h = tt
  output_read w (input ts) h = tt
  output_read w (assertion ts stands clock) h = tt
  output_read w (run card) h = tt
  output_read w (try card) h = tt
  output_read w (proof p) h = tt

  asserted : (w : Word) (ts clock : List Tree) (stands : Bool) → IsForm hs w (assertion ts stands clock) → AllByRecursion (IsReadableTerm all) ts × AllByRecursion (IsReadableTerm all) clock
  asserted Assert ts clock stands h = (terms_late ts h.0, terms_late clock h.1)
  asserted Bound ts clock stands h = absurd h
  asserted PlainDefinition ts clock stands h = absurd h
  asserted CountingDefinition ts clock stands h = absurd h
  asserted Input ts clock stands h = absurd h
  asserted Output ts clock stands h = absurd h
  asserted Run ts clock stands h = absurd h
  asserted Try ts clock stands h = absurd h
  asserted Proof ts clock stands h = absurd h

  assert_read : (w : Word) (j : Judged) (f : Form) → IsForm hs w f → AllByRecursion (IsReadableAssertion all) (assertion_in j f)
  assert_read w j (assertion ts stands clock) h =
      let a = asserted w ts clock stands h in (record { terms = all_of (IsReadableTerm all) ts a.0; clock = all_of (IsReadableTerm all) clock a.1 }, tt)
  assert_read w j (bound b) h = tt
  assert_read w j (definition d) h = tt
  assert_read w j (input ts) h = tt
  assert_read w j (output ts) h = tt
  assert_read w j (run card) h = tt
  assert_read w j (try card) h = tt
  assert_read w j (proof p) h = tt

  steps_read : (steps : List StepTree) → AllByRecursion (StepRead hs) steps → AllByRecursion (IsReadableStep all) steps
  steps_read steps h = all_mapped (StepRead hs) (IsReadableStep all) steps (λ s k. all_of (IsReadableTerm all) (step_terms s) (terms_late (step_terms s) k)) h

  proved : (w : Word) (p : ProofTree) → IsForm hs w (proof p) → AllByRecursion (IsReadableStep all) p.steps
  proved Proof p h = steps_read p.steps h
  proved Bound p h = absurd h
  proved PlainDefinition p h = absurd h
  proved CountingDefinition p h = absurd h
  proved Input p h = absurd h
  proved Output p h = absurd h
  proved Assert p h = absurd h
  proved Run p h = absurd h
  proved Try p h = absurd h

  proof_read : (w : Word) (f : Form) → IsForm hs w f → AllByRecursion (IsReadableProof all) (proof_in f)
  proof_read w (proof p) h = (all_of (IsReadableStep all) p.steps (proved w p h), tt)
  proof_read w (bound b) h = tt
  proof_read w (definition d) h = tt
  proof_read w (input ts) h = tt
  proof_read w (output ts) h = tt
  proof_read w (assertion ts stands clock) h = tt
  proof_read w (run card) h = tt
  proof_read w (try card) h = tt

-- ---- units

module _ (deck : Deck) (js : List Judged) (h : AreJudged deck [] deck.notes js) where
  unit_read : (i : ℕ) → AreReadableNotes (headings js) (notes_by (of_unit i js))
  unit_read i = record {
    input = all_of (IsReadableTerm (headings js)) (flat_map (λ j. input_in j.form) (of_unit i js)) (flat_all (IsReadableTerm (headings js)) (λ j. input_in j.form) (of_unit i js)
        (λ j m. let o = origin deck js h j (filter_passes (λ k. k.unit == i) js j m).0 in
        input_read (headings o.before) (headings js) (λ t k. late deck js j o t k) o.judged.first j.form o.judged.form));
    output = all_of (IsReadableTerm (headings js)) (flat_map (λ j. output_in j.form) (of_unit i js)) (flat_all (IsReadableTerm (headings js)) (λ j. output_in j.form) (of_unit i js)
        (λ j m. let o = origin deck js h j (filter_passes (λ k. k.unit == i) js j m).0 in
        output_read (headings o.before) (headings js) (λ t k. late deck js j o t k) o.judged.first j.form o.judged.form));
    asserts = all_of (IsReadableAssertion (headings js)) (flat_map (λ j. assertion_in j j.form) (of_unit i js)) (flat_all (IsReadableAssertion (headings js)) (λ j. assertion_in j j.form) (of_unit i js)
        (λ j m. let o = origin deck js h j (filter_passes (λ k. k.unit == i) js j m).0 in
        assert_read (headings o.before) (headings js) (λ t k. late deck js j o t k) o.judged.first j j.form o.judged.form));
  }

  units_read : (i : ℕ) (us : List Routine) → AllByRecursion (AreReadableNotes (headings js)) (notes_of_units js i us)
  units_read i [] = tt
  units_read i (u ∷ us) = (unit_read i, units_read (suc i) us)

  proofs_read : AllByRecursion (IsReadableProof (headings js)) (flat_map (λ j. proof_in j.form) js)
  proofs_read = flat_all (IsReadableProof (headings js)) (λ j. proof_in j.form) js
      (λ j m. let o = origin deck js h j m in proof_read (headings o.before) (headings js) (λ t k. late deck js j o t k) o.judged.first j.form o.judged.form)

pub terms_are_readable : TermsAreReadable
terms_are_readable deck r e =
    let j = remarks_judged deck r e in
    subst (λ (x : Remarks). All (AreReadableNotes (headings_with x.definitions)) x.units) (sym j.is)
    (all_of (AreReadableNotes (headings j.notes)) (notes_of_units j.notes 1 deck.units) (units_read deck j.notes j.are.all 1 deck.units))

pub proofs_are_readable : ProofsAreReadable
proofs_are_readable deck r e =
    let j = remarks_judged deck r e in
    subst (λ (x : Remarks). All (IsReadableProof (headings_with x.definitions)) x.proofs) (sym j.is)
    (all_of (IsReadableProof (headings j.notes)) (flat_map (λ k. proof_in k.form) j.notes) (proofs_read deck j.notes j.are.all))
