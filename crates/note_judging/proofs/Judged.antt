-- A note more that was judged.
use Rattle.std.proofs.Common.{◌≡◌, ℕ, ◌+◌, ◌<◌, ◌≤◌, List, [], ◌∷◌, ◌++◌, length, drop, get_or, Result, Ok, Err, refl, sym, ap, ◌∙◌, subst}
use Rattle.std.proofs.lemmas.List.{map-append}
use Rattle.std.proofs.lemmas.Grind.{flat_map-append}
use Rattle.std.proofs.lemmas.List.{at_drop_all, at_drop_more}
use Rattle.formula.specs.Adding.{AreAdded}
use Rattle.formula.specs.Headings.{headings_of}
use Rattle.formula.specs.Pool.{Grows}
use Rattle.formula.specs.declared.definition.Definition.{Definition}
use Rattle.formula.specs.declared.node.Node.{Node}
use Rattle.formula.proofs.Added.{IsBodyIn-Grows, body_of-Grows, added-Grows}
use Rattle.formula.proofs.Grown.{AllBelow-Grows}
use Rattle.fort_syntax.specs.declared.deck.Deck.{Deck}
use Rattle.fort_syntax.specs.declared.deck.Placed.{Placed}
use Rattle.fort_syntax.specs.declared.refusal.Fault.{Fault}
use Rattle.fort_syntax.specs.declared.refusal.Refusal.{Refusal}
use Rattle.fort_notes.specs.Forms.{assertion, definition, input, output, proof}
use Rattle.fort_notes.specs.Judging.{Judged, judged_from, judged_then}
use Rattle.note_parts.proofs.Rounds.{trees_of-Grows}
use Rattle.note_forms.proofs.GrownSteps.{steps_of-Grows, AreStepsIn-Grows}
use Rattle.note_reading.specs.NoteTrees.{form_tree, IsFormIn}
use Rattle.note_reading.specs.declared.note_form.NoteForm.{NoteForm}
use Rattle.note_reading.specs.declared.note_form.NoteForm.TheVariants as note
use Rattle.note_steps.specs.Steps.{Knows, Says, judged_note, told, definitions_in}
use Rattle.note_steps.proofs.Judges.{judge_is}
use Rattle.note_steps.specs.declared.refused.Refused.{Refused}
use Rattle.note_steps.specs.declared.refused.Refused.TheVariants as refused
use Rattle.note_steps.specs.declared.taken.Taken.{Taken}
use Rattle.note_judging.specs.Items.{judged_tree, judged_trees, noted_as, AreNotedIn, definitions_among, Holds, Learns, IsSeated, Steps, Tells, refusal_by}
use Rattle.note_judging.specs.declared.noted.Noted.{Noted}
use Rattle.note_judging.specs.declared.seating.Seat.{Seat}

-- ---- while the pool grows

pub form_stays : (old new : List Node) (f : NoteForm) → Grows old new → IsFormIn old f → form_tree new f ≡ form_tree old f
form_stays old new (note.Bound b) g h = refl
form_stays old new (note.Definition d) g h = ap (λ b. definition (record { name = d.name; params = d.params; body = b })) (body_of-Grows old new d.body g h)
form_stays old new (note.Input ts) g h = ap input (trees_of-Grows old new ts g h)
form_stays old new (note.Output ts) g h = ap output (trees_of-Grows old new ts g h)
form_stays old new (note.Assertion a) g h = λ i. assertion (trees_of-Grows old new a.terms g h.0 i) a.has_clock (trees_of-Grows old new a.clock g h.1 i)
form_stays old new (note.Run card) g h = refl
form_stays old new (note.Try card) g h = refl
form_stays old new (note.Proof p) g h = ap (λ s. proof (record { lemma = p.lemma; steps = s })) (steps_of-Grows old new p.steps g h)

form_stays_in : (old new : List Node) (f : NoteForm) → Grows old new → IsFormIn old f → IsFormIn new f
form_stays_in old new (note.Bound b) g h = tt
form_stays_in old new (note.Definition d) g h = IsBodyIn-Grows old new d.body g h
form_stays_in old new (note.Input ts) g h = AllBelow-Grows old new ts g h
form_stays_in old new (note.Output ts) g h = AllBelow-Grows old new ts g h
form_stays_in old new (note.Assertion a) g h = (AllBelow-Grows old new a.terms g h.0, AllBelow-Grows old new a.clock g h.1)
form_stays_in old new (note.Run card) g h = tt
form_stays_in old new (note.Try card) g h = tt
form_stays_in old new (note.Proof p) g h = AreStepsIn-Grows old new p.steps g h

trees_stay : (old new : List Node) (ns : List Noted) → Grows old new → AreNotedIn old ns → judged_trees new ns ≡ judged_trees old ns
trees_stay old new [] g h = refl
trees_stay old new (n ∷ ns) g h =
    λ i. record { unit = n.unit; line = n.line; card = n.card; form = form_stays old new n.form g h.0 i } ∷ trees_stay old new ns g h.1 i

noted_stay : (old new : List Node) (ns : List Noted) (n : Noted) → Grows old new → AreNotedIn old ns → IsFormIn new n.form → AreNotedIn new (ns ++ n ∷ [])
noted_stay old new [] n g h e = (e, tt)
noted_stay old new (x ∷ ns) n g h e = (form_stays_in old new x.form g h.0, noted_stay old new ns n g h.1 e)

-- ---- a note more

nil_right : {X : Type 0} (xs : List X) → xs ++ [] ≡ xs
nil_right [] = refl
nil_right (x ∷ xs) = ap (λ l. x ∷ l) (nil_right xs)

-- what a note stands for behind others
trees_pushed : (old new : List Node) (items more : List Noted) (m : Noted) → Grows old new → AreNotedIn old items → more ≡ items ++ m ∷ []
    → judged_trees new more ≡ judged_trees old items ++ judged_tree new m ∷ []
trees_pushed old new items more m g h pushed =
    ap (judged_trees new) pushed ∙ map-append (judged_tree new) items (m ∷ []) ∙ ap (λ l. l ++ judged_tree new m ∷ []) (trees_stay old new items g h)

module _ (old new : List Node) (ds after : List Definition) (t u : Taken) (items more : List Noted) (n : Placed) (f : NoteForm) (g : Grows old new) (pushed : more ≡ items ++ noted_as n f ∷ []) where
  -- what is held behind a note that is not at fault
  pub held : IsFormIn new f → after ≡ ds ++ definitions_in f → (AreAdded new ds → AreAdded new after) → Learns t u n.unit f
      → Holds old ds t items → Holds new after u more
  held inside defined added learns h = record {
    knows =
        let whole : judged_trees new more ≡ judged_trees old items ++ judged_tree new (noted_as n f) ∷ [] = trees_pushed old new items more (noted_as n f) g h.inside pushed in
        let known : Knows u (ds ++ definitions_in f) (judged_trees old items ++ judged_tree new (noted_as n f) ∷ []) = learns new ds (judged_trees old items) n.line n.card h.knows in
        subst (Knows u after) (sym whole) (subst (λ l. Knows u l (judged_trees old items ++ judged_tree new (noted_as n f) ∷ [])) (sym defined) known);
    inside = subst (AreNotedIn new) (sym pushed) (noted_stay old new items (noted_as n f) g h.inside inside);
    definitions =
        defined ∙ ap (λ l. l ++ definitions_in f) h.definitions ∙ ap (λ l. definitions_among items ++ l) (sym (nil_right (definitions_in f)))
        ∙ sym (flat_map-append (λ k. definitions_in k.form) items (noted_as n f ∷ [])) ∙ ap definitions_among (sym pushed);
    added = added (added-Grows old new ds g h.added);
  }

  -- the rest decides
  pub goes_on : (deck d : Deck) → d ≡ deck → told d t (headings_of ds) n ≡ Ok (judged_note n (form_tree new f)) → Holds old ds t items
      → Steps deck (judged_trees old items) n (judged_trees new more) (Ok tt)
  goes_on deck d same said h rest =
      ap (λ r. judged_then r n.card (λ j. judged_from deck (judged_trees old items ++ j ∷ []) rest)) (judge_is deck t ds n (judged_trees old items) h.knows ∙ ap (λ x. told x t (headings_of ds) n) (sym same) ∙ said)
      ∙ ap (λ l. judged_from deck l rest) (sym (trees_pushed old new items more (noted_as n f) g h.inside pushed))

-- the note is at fault
pub fails : (view : NoteForm → Judged) (deck d : Deck) (old : List Node) (ds : List Definition) (t : Taken) (items : List Noted) (n : Placed) (new : List Judged) (why : Refused)
    → d ≡ deck → Says view (Err why) (told d t (headings_of ds) n) → Holds old ds t items → Steps deck (judged_trees old items) n new (Err why)
fails view deck d old ds t items n new (refused.Broken rule) same said h = λ rest.
    ap (λ r. judged_then r n.card (λ j. judged_from deck (judged_trees old items ++ j ∷ []) rest)) (judge_is deck t ds n (judged_trees old items) h.knows ∙ ap (λ x. told x t (headings_of ds) n) (sym same) ∙ said)
fails view deck d old ds t items n new refused.Memory same said h = tt

-- ---- all notes

-- before the first note
pub holds_none : (pool : List Node) (ds : List Definition) (t : Taken) (items : List Noted) → ds ≡ [] → items ≡ [] → Knows t [] [] → Holds pool ds t items
holds_none pool ds t items d e k = record {
  knows = subst (λ l. Knows t ds (judged_trees pool l)) (sym e) (subst (λ l. Knows t l []) (sym d) k);
  inside = subst (AreNotedIn pool) (sym e) tt;
  definitions = d ∙ ap definitions_among (sym e);
  added = subst (AreAdded pool) (sym d) tt;
}

-- the note at an index, and those behind it
at_note : (deck : Deck) (old : List Judged) (notes : List Placed) (i : ℕ) (n : Placed) (told_all : Result (List Judged) Fault) → i < length notes → n ≡ get_or notes i n
    → judged_from deck old (drop i notes) ≡ told_all → judged_from deck old (n ∷ drop (i + 1) notes) ≡ told_all
at_note deck old notes i n told_all lt is e =
    ap (λ (x : Placed). judged_from deck old (x ∷ drop (i + 1) notes)) is ∙ sym (at_drop_more (λ (rest : List Placed). judged_from deck old rest) notes i n lt) ∙ e

fault_of : {X : Type 0} (view : X → List Judged) (deck : Deck) (old new : List Judged) (n : Placed) (rest : List Placed) (why : Refused) (told_all : Result (List Judged) Fault)
    → Steps deck old n new (Err why) → judged_from deck old (n ∷ rest) ≡ told_all → Tells view (Err (refusal_by n.card why)) told_all
fault_of view deck old new n rest (refused.Broken rule) told_all steps is = sym is ∙ steps rest
fault_of view deck old new n rest refused.Memory told_all steps is = tt

module _ (deck d : Deck) (same : d ≡ deck) (old new : List Judged) (notes : List Placed) (i : ℕ) (n : Placed) (told_all : Result (List Judged) Fault) (lt : i < length notes) (is : n ≡ get_or notes i n) where
  -- what is told of a note at fault is told of all
  pub told_fault : {X : Type 0} (view : X → List Judged) (why : Refused) (r : Refusal) → r ≡ refusal_by n.card why → Steps d old n new (Err why)
      → judged_from deck old (drop i notes) ≡ told_all → Tells view (Err r) told_all
  told_fault view why r by steps told =
      subst (λ x. Tells view (Err x) told_all) (sym by)
      (fault_of view deck old new n (drop (i + 1) notes) why told_all (subst (λ x. Steps x old n new (Err why)) same steps) (at_note deck old notes i n told_all lt is told))

  -- the notes behind one that is not at fault decide
  pub goes_to : Steps d old n new (Ok tt) → judged_from deck old (drop i notes) ≡ told_all → judged_from deck new (drop (i + 1) notes) ≡ told_all
  goes_to steps told = sym (subst (λ x. Steps x old n new (Ok tt)) same steps (drop (i + 1) notes)) ∙ at_note deck old notes i n told_all lt is told

-- behind the last note
pub all_told : (deck : Deck) (old : List Judged) (notes : List Placed) (i : ℕ) (told_all : Result (List Judged) Fault) → length notes ≤ i
    → judged_from deck old (drop i notes) ≡ told_all → told_all ≡ Ok old
all_told deck old notes i told_all le e = sym e ∙ at_drop_all (λ (rest : List Placed). judged_from deck old rest) notes i le

-- a seat of a deck is one of the same deck
pub reseated : (deck d : Deck) (s : Seat) → d ≡ deck → IsSeated d s → IsSeated deck s
reseated deck d s e h = subst (λ x. IsSeated x s) e h
