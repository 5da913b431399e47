-- One card more.
use Rattle.std.proofs.Common.{◌≡◌, ℕ, ◌+◌, ◌-◌, length, take, drop, length-drop, arith, List, ◌∷◌, ◌++◌, Bool, true, false, None, ap, ◌∙◌, sym, append_assoc, refl, subst, rules}
use Rattle.std.specs.Prelude.{Option, Some, if◌then◌else◌, not, ◌&&◌, ◌==◌}
use Rattle.std.proofs.lemmas.List.{take_all}
use Rattle.fort_syntax.specs.Cards.{Card, kind_of, statement_text, continuing, continued, begun_by, entries_from, is_label, label_field, is_plus, column}
use Rattle.fort_syntax.specs.CardRules.{Before, broken_by, has_bad_byte, has_bad_label, lacks_initial, is_twentieth, is_bad_note, is_mislabelled, is_continuation, is_note, no_statement, is_full, no_note}
use Rattle.fort_syntax.specs.declared.cards.CardKind.TheVariants.{InitialCard, ContinuationCard, NoteCard}
use Rattle.fort_syntax.specs.declared.cards.Entry.{Entry}
use Rattle.fort_syntax.specs.declared.rule.Rule.TheVariants.{BadByte, BadLabel, NoInitial, ManyCards, BadNoteCard}

-- what is behind a card's first columns is taken to its end
pub whole : (k : ℕ) (card : Card) → take (length card - k) (drop k card) ≡ drop k card
whole k card = take_all (length card - k) (drop k card) (simp length-drop (omega arith))

-- a continuation card's text comes behind the statement's
pub continues : (text got : List ℕ) (card : Card) (rest : List Card) → kind_of card ≡ ContinuationCard
    → got ≡ text ++ statement_text card → got ++ continued rest ≡ text ++ continued (card ∷ rest)
continues text got card rest kind e =
    ap (λ g. g ++ continued rest) e ∙ append_assoc text (statement_text card) (continued rest)
    ∙ ap (λ k. text ++ continuing k card (continued rest)) (sym kind)

-- what is done, held and to come, before and behind a card
pub advanced : (done held done' held' : List Entry) (number : ℕ) (card : Card) (rest : List Card)
    → done' ++ held' ≡ done ++ held ++ begun_by (kind_of card) number card rest
    → done' ++ held' ++ entries_from (number + 1) rest ≡ done ++ held ++ entries_from number (card ∷ rest)
advanced done held done' held' number card rest e =
    ap (λ a. a ++ entries_from (number + 1) rest) e ∙ append_assoc (done ++ held) (begun_by (kind_of card) number card rest) (entries_from (number + 1) rest)

chosen : {X : Type 0} (b : Bool) (x : X) (o : Option X) → (if b then Some x else o) ≡ None → (b ≡ false) × (o ≡ None)
chosen true x o h = search rules
chosen false x o h = (refl, h)

not_false : (b : Bool) → not b ≡ false → b ≡ true
not_false true h = refl
not_false false h = search rules

-- what a card that breaks no rule is
clean_card : (before : Before) (card : Card) → broken_by before card ≡ None
    → (has_bad_label card ≡ false) × (lacks_initial before card ≡ false) × (is_twentieth before card ≡ false) × (is_bad_note before card ≡ false)
clean_card before card h =
    let a = chosen (has_bad_byte card) BadByte _ h in
    let b = chosen (has_bad_label card) BadLabel _ a.1 in
    let c = chosen (lacks_initial before card) NoInitial _ b.1 in
    let d = chosen (is_twentieth before card) ManyCards _ c.1 in
    let e = chosen (is_bad_note before card) BadNoteCard None d.1 in
    (b.0, c.0, d.0, e.0)

pub has_label : (before : Before) (card : Card) → kind_of card ≡ InitialCard → broken_by before card ≡ None
    → is_label (label_field card) ≡ true
has_label before card kind clean =
    not_false _ (subst (λ k. is_mislabelled k card ≡ false) kind (clean_card before card clean).0)

pub has_initial : (before : Before) (card : Card) → kind_of card ≡ ContinuationCard → broken_by before card ≡ None
    → no_statement before ≡ false
has_initial before card kind clean =
    subst (λ k. (is_continuation k && no_statement before) ≡ false) kind (clean_card before card clean).1

pub has_room : (before : Before) (card : Card) → kind_of card ≡ ContinuationCard → broken_by before card ≡ None
    → is_full before ≡ false
has_room before card kind clean =
    subst (λ k. (is_continuation k && is_full before) ≡ false) kind (clean_card before card clean).2

pub has_note : (before : Before) (card : Card) → kind_of card ≡ NoteCard → is_plus card ≡ true → broken_by before card ≡ None
    → no_note before ≡ false
has_note before card kind plus clean =
    subst (λ b. (if b then no_note before else not (column 3 card == 32)) ≡ false) plus
    (subst (λ k. (is_note k && (if is_plus card then no_note before else not (column 3 card == 32))) ≡ false) kind (clean_card before card clean).3)
