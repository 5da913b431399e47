-- A note more, by what it says.
use Rattle.std.proofs.Common.{◌≡◌, ℕ, List, [], ◌∷◌, ◌++◌, length, map, All, refl, sym, ap, ◌∙◌, subst}
use Rattle.std.proofs.lemmas.List.{map-append}
use Rattle.std.proofs.lemmas.List.Elements.{All-append}
use Rattle.formula.specs.Pool.{AllBelow}
use Rattle.formula.specs.declared.definition.Definition.{Definition}
use Rattle.formula.specs.declared.node.Node.{Node}
use Rattle.formula.specs.declared.node.TermId.{TermId}
use Rattle.fort_notes.specs.Assertions.{notes_tree}
use Rattle.fort_notes.specs.declared.cases.RunCard.{RunCard}
use Rattle.fort_notes.specs.declared.cases.TryCard.{TryCard}
use Rattle.fort_notes.specs.declared.certificates.ProofCard.{ProofCard}
use Rattle.fort_notes.specs.declared.notes.AssertSpec.{AssertSpec}
use Rattle.fort_notes.specs.declared.notes.UnitSpec.{UnitSpec}
use Rattle.note_forms.specs.FormTrees.{AreStepsIn, proof_tree}
use Rattle.note_forms.specs.declared.note_form.Asserted.{Asserted}
use Rattle.note_reading.specs.NoteTrees.{IsFormIn}
use Rattle.note_reading.specs.declared.note_form.NoteForm.{NoteForm}
use Rattle.note_reading.specs.declared.note_form.NoteForm.TheVariants as note
use Rattle.note_judging.specs.Items.{judged_tree}
use Rattle.note_judging.specs.declared.noted.Noted.{Noted}
use Rattle.path_scene.specs.Scenes.{AreNotesIn, IsAssertIn}
use Rattle.note_units.specs.Sorting.{AreIn, Puts, note_tree}
use Rattle.note_units.specs.declared.sorted.Sorted.{Sorted}
use Rattle.note_units.proofs.Units.{is_of_none, nil_right, one}

-- what is said of a form is said of a note of that form
of_form : (old new : Sorted) (n : Noted) (f : NoteForm) → n.form ≡ f → ((pool : List Node) → Puts pool old new (note_tree pool n.unit n.line n.card f))
    → (pool : List Node) → Puts pool old new (judged_tree pool n)
of_form old new n f is h pool = subst (λ (g : NoteForm). Puts pool old new (note_tree pool n.unit n.line n.card g)) (sym is) (h pool)

module _ (old new : Sorted) (n : Noted) where
  pub puts_bound : (b : ℕ) → n.form ≡ note.Bound b → new.bounds.items ≡ old.bounds.items ++ b ∷ [] → new.units.items ≡ old.units.items → new.runs.items ≡ old.runs.items
      → new.tries.items ≡ old.tries.items → new.proofs.items ≡ old.proofs.items → (pool : List Node) → Puts pool old new (judged_tree pool n)
  puts_bound b is e u r t p = of_form old new n (note.Bound b) is (λ pool. record {
    bounds = e;
    units = ap (map (notes_tree pool)) u ∙ sym (is_of_none (note_tree pool n.unit n.line n.card (note.Bound b)) 1 (map (notes_tree pool) old.units.items) refl refl refl);
    runs = r ∙ sym (nil_right old.runs.items);
    tries = t ∙ sym (nil_right old.tries.items);
    proofs = ap (map (proof_tree pool)) p ∙ sym (nil_right (map (proof_tree pool) old.proofs.items));
  })

  pub puts_definition : (d : Definition) → n.form ≡ note.Definition d → new.bounds.items ≡ old.bounds.items → new.units.items ≡ old.units.items → new.runs.items ≡ old.runs.items
      → new.tries.items ≡ old.tries.items → new.proofs.items ≡ old.proofs.items → (pool : List Node) → Puts pool old new (judged_tree pool n)
  puts_definition d is b u r t p = of_form old new n (note.Definition d) is (λ pool. record {
    bounds = b ∙ sym (nil_right old.bounds.items);
    units = ap (map (notes_tree pool)) u ∙ sym (is_of_none (note_tree pool n.unit n.line n.card (note.Definition d)) 1 (map (notes_tree pool) old.units.items) refl refl refl);
    runs = r ∙ sym (nil_right old.runs.items);
    tries = t ∙ sym (nil_right old.tries.items);
    proofs = ap (map (proof_tree pool)) p ∙ sym (nil_right (map (proof_tree pool) old.proofs.items));
  })

  pub puts_run : (card : RunCard) → n.form ≡ note.Run card → new.bounds.items ≡ old.bounds.items → new.units.items ≡ old.units.items → new.runs.items ≡ old.runs.items ++ card ∷ []
      → new.tries.items ≡ old.tries.items → new.proofs.items ≡ old.proofs.items → (pool : List Node) → Puts pool old new (judged_tree pool n)
  puts_run card is b u r t p = of_form old new n (note.Run card) is (λ pool. record {
    bounds = b ∙ sym (nil_right old.bounds.items);
    units = ap (map (notes_tree pool)) u ∙ sym (is_of_none (note_tree pool n.unit n.line n.card (note.Run card)) 1 (map (notes_tree pool) old.units.items) refl refl refl);
    runs = r;
    tries = t ∙ sym (nil_right old.tries.items);
    proofs = ap (map (proof_tree pool)) p ∙ sym (nil_right (map (proof_tree pool) old.proofs.items));
  })

  pub puts_try : (card : TryCard) → n.form ≡ note.Try card → new.bounds.items ≡ old.bounds.items → new.units.items ≡ old.units.items → new.runs.items ≡ old.runs.items
      → new.tries.items ≡ old.tries.items ++ card ∷ [] → new.proofs.items ≡ old.proofs.items → (pool : List Node) → Puts pool old new (judged_tree pool n)
  puts_try card is b u r t p = of_form old new n (note.Try card) is (λ pool. record {
    bounds = b ∙ sym (nil_right old.bounds.items);
    units = ap (map (notes_tree pool)) u ∙ sym (is_of_none (note_tree pool n.unit n.line n.card (note.Try card)) 1 (map (notes_tree pool) old.units.items) refl refl refl);
    runs = r ∙ sym (nil_right old.runs.items);
    tries = t;
    proofs = ap (map (proof_tree pool)) p ∙ sym (nil_right (map (proof_tree pool) old.proofs.items));
  })

  pub puts_proof : (card : ProofCard) → n.form ≡ note.Proof card → new.bounds.items ≡ old.bounds.items → new.units.items ≡ old.units.items → new.runs.items ≡ old.runs.items
      → new.tries.items ≡ old.tries.items → new.proofs.items ≡ old.proofs.items ++ card ∷ [] → (pool : List Node) → Puts pool old new (judged_tree pool n)
  puts_proof card is b u r t p = of_form old new n (note.Proof card) is (λ pool. record {
    bounds = b ∙ sym (nil_right old.bounds.items);
    units = ap (map (notes_tree pool)) u ∙ sym (is_of_none (note_tree pool n.unit n.line n.card (note.Proof card)) 1 (map (notes_tree pool) old.units.items) refl refl refl);
    runs = r ∙ sym (nil_right old.runs.items);
    tries = t ∙ sym (nil_right old.tries.items);
    proofs = ap (map (proof_tree pool)) p ∙ map-append (proof_tree pool) old.proofs.items (card ∷ []);
  })

-- ---- terms stay in the pool

abbrev pub StayIn : NoteForm → List UnitSpec → List ProofCard → List UnitSpec → List ProofCard → Type 0
StayIn f us ps vs qs = (pool : List Node) → IsFormIn pool f → AreIn pool us ps → AreIn pool vs qs

pub stay_proof : (f : NoteForm) (us : List UnitSpec) (ps : List ProofCard) (vs : List UnitSpec) (qs : List ProofCard) (card : ProofCard) → f ≡ note.Proof card → vs ≡ us → qs ≡ ps ++ card ∷ []
    → StayIn f us ps vs qs
stay_proof f us ps vs qs card is u p pool h a =
    let inside : AreStepsIn pool card.steps = subst (IsFormIn pool) is h in
    record {
      units = subst (All (AreNotesIn (length pool))) (sym u) a.units;
      proofs = subst (All (λ p. AreStepsIn pool p.steps)) (sym p) (All-append (λ p. AreStepsIn pool p.steps) ps (card ∷ []) a.proofs (one (λ p. AreStepsIn pool p.steps) card inside));
    }

module _ (f : NoteForm) (us : List UnitSpec) (ps : List ProofCard) (vs : List UnitSpec) (qs : List ProofCard) (same : qs ≡ ps) where
  pub stay_input : (ts : List TermId) → f ≡ note.Input ts → ((n : ℕ) → AllBelow n ts → All (AreNotesIn n) us → All (AreNotesIn n) vs) → StayIn f us ps vs qs
  stay_input ts is on pool h a = record {
    units = on (length pool) (subst (IsFormIn pool) is h) a.units;
    proofs = subst (All (λ p. AreStepsIn pool p.steps)) (sym same) a.proofs;
  }

  pub stay_output : (ts : List TermId) → f ≡ note.Output ts → ((n : ℕ) → AllBelow n ts → All (AreNotesIn n) us → All (AreNotesIn n) vs) → StayIn f us ps vs qs
  stay_output ts is on pool h a = record {
    units = on (length pool) (subst (IsFormIn pool) is h) a.units;
    proofs = subst (All (λ p. AreStepsIn pool p.steps)) (sym same) a.proofs;
  }

  pub stay_assertion : (a : Asserted) (s : AssertSpec) → f ≡ note.Assertion a → s.terms ≡ a.terms → s.clock ≡ a.clock → ((n : ℕ) → IsAssertIn n s → All (AreNotesIn n) us → All (AreNotesIn n) vs)
      → StayIn f us ps vs qs
  stay_assertion a s is terms clock on pool h all =
      let inside : IsFormIn pool (note.Assertion a) = subst (IsFormIn pool) is h in
      record {
        units = on (length pool) (record { terms = subst (AllBelow (length pool)) (sym terms) inside.0; clock = subst (AllBelow (length pool)) (sym clock) inside.1 }) all.units;
        proofs = subst (All (λ p. AreStepsIn pool p.steps)) (sym same) all.proofs;
      }
