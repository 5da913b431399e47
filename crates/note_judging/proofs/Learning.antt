-- What is known after a note more.
use Rattle.std.proofs.Common.{◌≡◌, ℕ, Bool, true, false, List, [], ◌∷◌, ◌++◌, map, refl, sym, ap, ◌∙◌, subst}
use Rattle.std.specs.Prelude.{Result, Ok, Err, OnOk, ◌&&◌, ◌||◌, ◌==◌, nat_eq, if◌then◌else◌}
use Rattle.std.specs.Cmp.Lexicographic.{same_text}
use Rattle.std.proofs.lemmas.List.{map-append}
use Rattle.std.specs.List.{list_any}
use Rattle.std.proofs.lemmas.Bool.{eqb-true, eq-eqb}
use Rattle.std.proofs.lemmas.Grind.{flat_map-append}
use Rattle.std.proofs.lemmas.List.Folds.{list_any-append}
use Rattle.formula.specs.Atoms.{is_among, same_bytes}
use Rattle.formula.specs.Headings.{headings_of, heading_with}
use Rattle.formula.specs.declared.definition.Definition.{Definition}
use Rattle.formula.specs.declared.node.Node.{Node}
use Rattle.formula.specs.declared.node.TermId.{TermId}
use Rattle.fort_notes.specs.Forms.{Form}
use Rattle.fort_notes.specs.Judging.{Judged, is_bound_form, is_input_form, is_output_form, definition_in, definitions_of, headings, lemma_in, lemmas}
use Rattle.fort_notes.specs.declared.cases.RunCard.{RunCard}
use Rattle.fort_notes.specs.declared.cases.TryCard.{TryCard}
use Rattle.fort_notes.specs.declared.certificates.ProofCard.{ProofCard}
use Rattle.note_forms.specs.declared.note_form.Asserted.{Asserted}
use Rattle.note_places.specs.Places.{is_known}
use Rattle.note_reading.specs.NoteTrees.{form_tree}
use Rattle.note_reading.specs.declared.note_form.NoteForm.{NoteForm}
use Rattle.note_reading.specs.declared.note_form.NoteForm.TheVariants as note
use Rattle.note_steps.specs.Steps.{definitions_in}
use Rattle.note_steps.specs.declared.taken.Taken.{Taken}
use Rattle.note_judging.specs.Items.{Learns}

or_false : (a : Bool) → (a || false) ≡ a
or_false true = refl
or_false false = refl

or_swap : (a b : Bool) → (a || b) ≡ (b || a)
or_swap true true = refl
or_swap true false = refl
or_swap false true = refl
or_swap false false = refl

any_more : {X : Type 0} (p : X → Bool) (xs : List X) (x : X) → list_any p (xs ++ x ∷ []) ≡ (list_any p xs || p x)
any_more p xs x = list_any-append p xs (x ∷ []) ∙ ap (λ b. list_any p xs || b) (or_false (p x))

-- what is known with a form more
record Adds (old new : Taken) (unit : ℕ) (form : Form) : Type 0 where
  bounded : (old.bounded || is_bound_form form) ≡ new.bounded
  inputs : (i : ℕ) → (is_known i old.inputs || ((unit == i) && is_input_form form)) ≡ is_known i new.inputs
  outputs : (i : ℕ) → (is_known i old.outputs || ((unit == i) && is_output_form form)) ≡ is_known i new.outputs
  lemmas : (x : List ℕ) → (is_among x old.lemmas || is_among x (lemma_in form)) ≡ is_among x new.lemmas

headings_of_form : (pool : List Node) (form : NoteForm)
    → map (λ d. heading_with d.name d.params) (definition_in (form_tree pool form)) ≡ headings_of (definitions_in form)
headings_of_form pool (note.Bound b) = refl
headings_of_form pool (note.Definition d) = refl
headings_of_form pool (note.Input ts) = refl
headings_of_form pool (note.Output ts) = refl
headings_of_form pool (note.Assertion a) = refl
headings_of_form pool (note.Run card) = refl
headings_of_form pool (note.Try card) = refl
headings_of_form pool (note.Proof p) = refl

nil_right : {X : Type 0} (xs : List X) → xs ++ [] ≡ xs
nil_right [] = refl
nil_right (x ∷ xs) = ap (λ l. x ∷ l) (nil_right xs)

headings_more : (done : List Judged) (j : Judged) → headings (done ++ j ∷ []) ≡ headings done ++ map (λ d. heading_with d.name d.params) (definition_in j.form)
headings_more done j =
    ap (map (λ d. heading_with d.name d.params)) (flat_map-append (λ k. definition_in k.form) done (j ∷ []) ∙ ap (λ l. definitions_of done ++ l) (nil_right (definition_in j.form)))
    ∙ map-append (λ d. heading_with d.name d.params) (definitions_of done) (definition_in j.form)

lemmas_more : (done : List Judged) (j : Judged) (x : List ℕ) → is_among x (lemmas (done ++ j ∷ [])) ≡ (is_among x (lemmas done) || is_among x (lemma_in j.form))
lemmas_more done j x =
    ap (is_among x) (flat_map-append (λ k. lemma_in k.form) done (j ∷ []) ∙ ap (λ l. lemmas done ++ l) (nil_right (lemma_in j.form)))
    ∙ list_any-append (same_bytes x) (lemmas done) (lemma_in j.form)

learned : (old new : Taken) (unit : ℕ) (form : NoteForm) → ((pool : List Node) → Adds old new unit (form_tree pool form)) → Learns old new unit form
learned old new unit form adds pool ds done line card k =
    let a = adds pool in
    let j : Judged = record { unit = unit; line = line; card = card; form = form_tree pool form } in
    record {
      bounded = any_more (λ j. is_bound_form j.form) done j ∙ ap (λ b. b || is_bound_form j.form) k.bounded ∙ a.bounded;
      inputs = λ i. any_more (λ j. (j.unit == i) && is_input_form j.form) done j ∙ ap (λ b. b || ((unit == i) && is_input_form j.form)) (k.inputs i) ∙ a.inputs i;
      outputs = λ i. any_more (λ j. (j.unit == i) && is_output_form j.form) done j ∙ ap (λ b. b || ((unit == i) && is_output_form j.form)) (k.outputs i) ∙ a.outputs i;
      lemmas = λ x. lemmas_more done j x ∙ ap (λ b. b || is_among x (lemma_in j.form)) (k.lemmas x) ∙ a.lemmas x;
      headings = headings_more done j ∙ (λ i. k.headings i ++ headings_of_form pool form i) ∙ sym (map-append (λ d. heading_with d.name d.params) ds (definitions_in form));
    }

-- ---- the forms

and_false : (a : Bool) → (a && false) ≡ false
and_false true = refl
and_false false = refl

nowhere : (unit i : ℕ) (b : Bool) → (b || ((unit == i) && false)) ≡ b
nowhere unit i b = ap (λ c. b || c) (and_false (unit == i)) ∙ or_false b

nothing : (t : Taken) (unit : ℕ) (f : Form) → is_bound_form f ≡ false → is_input_form f ≡ false → is_output_form f ≡ false → lemma_in f ≡ [] → Adds t t unit f
nothing t unit f b p q l = record {
  bounded = ap (λ c. t.bounded || c) b ∙ or_false t.bounded;
  inputs = λ i. ap (λ c. is_known i t.inputs || ((unit == i) && c)) p ∙ nowhere unit i (is_known i t.inputs);
  outputs = λ i. ap (λ c. is_known i t.outputs || ((unit == i) && c)) q ∙ nowhere unit i (is_known i t.outputs);
  lemmas = λ x. ap (λ c. is_among x t.lemmas || is_among x c) l ∙ or_false (is_among x t.lemmas);
}

pub learns_definition : (t : Taken) (unit : ℕ) (form : NoteForm) (d : Definition) → form ≡ note.Definition d → Learns t t unit form
learns_definition t unit form d is =
    subst (Learns t t unit) (sym is) (learned t t unit (note.Definition d) (λ pool. nothing t unit (form_tree pool (note.Definition d)) refl refl refl refl))

pub learns_assertion : (t : Taken) (unit : ℕ) (form : NoteForm) (a : Asserted) → form ≡ note.Assertion a → Learns t t unit form
learns_assertion t unit form a is =
    subst (Learns t t unit) (sym is) (learned t t unit (note.Assertion a) (λ pool. nothing t unit (form_tree pool (note.Assertion a)) refl refl refl refl))

pub learns_run : (t : Taken) (unit : ℕ) (form : NoteForm) (card : RunCard) → form ≡ note.Run card → Learns t t unit form
learns_run t unit form card is =
    subst (Learns t t unit) (sym is) (learned t t unit (note.Run card) (λ pool. nothing t unit (form_tree pool (note.Run card)) refl refl refl refl))

pub learns_try : (t : Taken) (unit : ℕ) (form : NoteForm) (card : TryCard) → form ≡ note.Try card → Learns t t unit form
learns_try t unit form card is =
    subst (Learns t t unit) (sym is) (learned t t unit (note.Try card) (λ pool. nothing t unit (form_tree pool (note.Try card)) refl refl refl refl))

or_true : (a : Bool) → (a || true) ≡ true
or_true true = refl
or_true false = refl

decided : (b c : Bool) → (b ≡ true → c ≡ true) → (c ≡ true → b ≡ true) → b ≡ c
decided true c there back = sym (there refl)
decided false true there back = back refl
decided false false there back = refl

same_sides : (a b : ℕ) → (a == b) ≡ nat_eq b a
same_sides a b = decided (a == b) (nat_eq b a) (λ e. eq-eqb b a (sym (eqb-true a b e))) (λ e. eq-eqb a b (sym (eqb-true b a e)))

and_true : (a : Bool) → (a && true) ≡ a
and_true true = refl
and_true false = refl

here : (unit i : ℕ) (known : Bool) → (known || ((unit == i) && true)) ≡ (nat_eq i unit || known)
here unit i known = ap (λ c. known || c) (and_true (unit == i) ∙ same_sides unit i) ∙ or_swap known (nat_eq i unit)

pub learns_bound : (old new : Taken) (unit b : ℕ) (form : NoteForm) → form ≡ note.Bound b → new.bounded ≡ true → new.inputs ≡ old.inputs → new.outputs ≡ old.outputs → new.lemmas ≡ old.lemmas
    → Learns old new unit form
learns_bound old new unit b form is e p q l = subst (Learns old new unit) (sym is) (learned old new unit (note.Bound b) (λ pool. record {
  bounded = or_true old.bounded ∙ sym e;
  inputs = λ i. nowhere unit i (is_known i old.inputs) ∙ ap (is_known i) (sym p);
  outputs = λ i. nowhere unit i (is_known i old.outputs) ∙ ap (is_known i) (sym q);
  lemmas = λ x. or_false (is_among x old.lemmas) ∙ ap (is_among x) (sym l);
}))

pub learns_input : (old new : Taken) (unit : ℕ) (ts : List TermId) (form : NoteForm) → form ≡ note.Input ts → new.bounded ≡ old.bounded → ((i : ℕ) → is_known i new.inputs ≡ (nat_eq i unit || is_known i old.inputs))
    → new.outputs ≡ old.outputs → new.lemmas ≡ old.lemmas → Learns old new unit form
learns_input old new unit ts form is e p q l = subst (Learns old new unit) (sym is) (learned old new unit (note.Input ts) (λ pool. record {
  bounded = or_false old.bounded ∙ sym e;
  inputs = λ i. here unit i (is_known i old.inputs) ∙ sym (p i);
  outputs = λ i. nowhere unit i (is_known i old.outputs) ∙ ap (is_known i) (sym q);
  lemmas = λ x. or_false (is_among x old.lemmas) ∙ ap (is_among x) (sym l);
}))

pub learns_output : (old new : Taken) (unit : ℕ) (ts : List TermId) (form : NoteForm) → form ≡ note.Output ts → new.bounded ≡ old.bounded → new.inputs ≡ old.inputs
    → ((i : ℕ) → is_known i new.outputs ≡ (nat_eq i unit || is_known i old.outputs)) → new.lemmas ≡ old.lemmas → Learns old new unit form
learns_output old new unit ts form is e p q l = subst (Learns old new unit) (sym is) (learned old new unit (note.Output ts) (λ pool. record {
  bounded = or_false old.bounded ∙ sym e;
  inputs = λ i. nowhere unit i (is_known i old.inputs) ∙ ap (is_known i) (sym p);
  outputs = λ i. here unit i (is_known i old.outputs) ∙ sym (q i);
  lemmas = λ x. or_false (is_among x old.lemmas) ∙ ap (is_among x) (sym l);
}))

-- ---- certificates

same_among : (x l : List ℕ) (ls : List (List ℕ)) (same : Bool) → same_bytes x l ≡ same → is_among l ls ≡ true → (is_among x ls || same) ≡ is_among x ls
same_among x l ls true e h = or_true (is_among x ls) ∙ sym (ap (λ k. is_among k ls) (same_text x l (sym e)) ∙ h)
same_among x l ls false e h = or_false (is_among x ls)

among_after : (x l : List ℕ) (ls : List (List ℕ)) (there : Bool) → is_among l ls ≡ there
    → (is_among x ls || same_bytes x l) ≡ is_among x (if there then ls else ls ++ l ∷ [])
among_after x l ls true h = same_among x l ls (same_bytes x l) refl h
among_after x l ls false h = sym (any_more (same_bytes x) ls l)

pub learns_proof : (old new : Taken) (unit : ℕ) (p : ProofCard) (form : NoteForm) → form ≡ note.Proof p → new.bounded ≡ old.bounded → new.inputs ≡ old.inputs → new.outputs ≡ old.outputs
    → new.lemmas ≡ (if is_among p.lemma old.lemmas then old.lemmas else old.lemmas ++ p.lemma ∷ []) → Learns old new unit form
learns_proof old new unit p form is e i o l = subst (Learns old new unit) (sym is) (learned old new unit (note.Proof p) (λ pool. record {
  bounded = or_false old.bounded ∙ sym e;
  inputs = λ k. nowhere unit k (is_known k old.inputs) ∙ ap (is_known k) (sym i);
  outputs = λ k. nowhere unit k (is_known k old.outputs) ∙ ap (is_known k) (sym o);
  lemmas = λ x. ap (λ b. is_among x old.lemmas || b) (or_false (same_bytes x p.lemma)) ∙ among_after x p.lemma old.lemmas (is_among p.lemma old.lemmas) refl ∙ ap (is_among x) (sym l);
}))

-- ---- answers

pub on_ok : {A E P Q : Type 0} (r : Result A E) → (P → Q) → OnOk r P → OnOk r Q
on_ok (Ok x) f p = f p
on_ok (Err e) f p = tt
