-- The ASSERTs of a unit stand on cards that increase.
use Rattle.std.proofs.Common.{◌≡◌, ℕ, suc, ◌+◌, ◌<◌, Bool, true, false, cond, List, [], ◌∷◌, ◌++◌, map, slice_get, sym, ap, ◌∙◌, subst, arith}
use Rattle.std.specs.Prelude.{nat_lt, ◌==◌}
use Rattle.std.specs.List.{filter, flat_map}
use Rattle.fort_syntax.specs.DeckOrder.{notes_ascend_above}
use Rattle.fort_syntax.specs.declared.deck.Deck.{Deck}
use Rattle.fort_syntax.specs.declared.deck.Placed.{Placed}
use Rattle.fort_notes.specs.Assertions.{Assertion, Notes}
use Rattle.fort_notes.specs.Forms.{Form, bound, definition, input, output, assertion, run, try, proof}
use Rattle.fort_notes.specs.Judging.{Judged}
use Rattle.fort_notes.specs.Remarks.{Remarks, assertion_in}
use Rattle.note_laws.specs.Increase.{increase_from, Increase}
use Rattle.note_laws.specs.Laws.{AssertCardsIncrease}
use Rattle.note_laws.proofs.Small.{both_parts}
use Rattle.note_laws.proofs.AllJudged.{AreJudged, remarks_judged}
use Rattle.note_laws.proofs.NotesFit.{above, notes_at}

pub from_less : (m n : ℕ) (xs : List ℕ) → m < n → increase_from n xs → increase_from m xs
from_less m n [] lt h = tt
from_less m n (x ∷ xs) lt h = let k = h.0 in (omega arith, h.1)

pub increasing : (n : ℕ) (xs : List ℕ) → increase_from n xs → Increase xs
increasing n [] h = tt
increasing n (x ∷ xs) h = h.1

-- ASSERTs of judged notes that pass a test
abbrev pub asserts_of : (Judged → Bool) → List Judged → List Assertion
asserts_of test js = flat_map (λ j. assertion_in j j.form) (filter test js)

abbrev pub cards_of : List Assertion → List ℕ
cards_of xs = map (λ a. a.card) xs

-- what follows the ASSERT of a form, if it is one
after_form : (j : Judged) (f : Form) (card : ℕ) (rest : List Assertion) → card < j.card → increase_from j.card (cards_of rest) → increase_from card (cards_of (assertion_in j f ++ rest))
after_form j (assertion ts stands clock) card rest lt h = (lt, h)
after_form j (bound b) card rest lt h = from_less card j.card (cards_of rest) lt h
after_form j (definition d) card rest lt h = from_less card j.card (cards_of rest) lt h
after_form j (input ts) card rest lt h = from_less card j.card (cards_of rest) lt h
after_form j (output ts) card rest lt h = from_less card j.card (cards_of rest) lt h
after_form j (run r) card rest lt h = from_less card j.card (cards_of rest) lt h
after_form j (try t) card rest lt h = from_less card j.card (cards_of rest) lt h
after_form j (proof p) card rest lt h = from_less card j.card (cards_of rest) lt h

cards_from : (deck : Deck) (test : Judged → Bool) (done : List Judged) (card : ℕ) (ns : List Placed) (js : List Judged) → AreJudged deck done ns js → notes_ascend_above card ns ≡ true
    → increase_from card (cards_of (asserts_of test js))
cards_from deck test done card [] [] h up = tt
cards_from deck test done card [] (j ∷ js) h up = absurd h
cards_from deck test done card (n ∷ ns) [] h up = absurd h
cards_from deck test done card (n ∷ ns) (j ∷ js) h up =
    let parts = both_parts (nat_lt card n.card) (notes_ascend_above n.card ns) up in
    let lt : card < j.card = subst (λ (c : ℕ). card < c) (sym h.0.card) (above card n.card parts.0) in
    let rest : increase_from j.card (cards_of (asserts_of test js)) =
    subst (λ (c : ℕ). increase_from c (cards_of (asserts_of test js))) (sym h.0.card) (cards_from deck test (done ++ j ∷ []) n.card ns js h.1 parts.1) in
    passes (test j) lt rest
  where
    passes : (b : Bool) → card < j.card → increase_from j.card (cards_of (asserts_of test js))
        → increase_from card (cards_of (flat_map (λ j. assertion_in j j.form) (cond b (j ∷ filter test js) (filter test js))))
    passes true lt h = after_form j j.form card (asserts_of test js) lt h
    passes false lt h = from_less card j.card (cards_of (asserts_of test js)) lt h

pub assert_cards_increase : AssertCardsIncrease
assert_cards_increase dialect deck r well e i notes at =
    let j = remarks_judged deck r e in
    let units = ap (λ (x : Remarks). x.units) j.is in
    let k : suc i ≡ 1 + i = omega arith in
    let same = notes_at j.notes 1 deck.units i notes (ap (λ (ns : List Notes). slice_get ns i) (sym units) ∙ at) (suc i) k in
    subst (λ (x : Notes). Increase (map (λ a. a.card) x.asserts)) (sym same)
    (increasing 0 (cards_of (asserts_of (λ j. j.unit == suc i) j.notes)) (cards_from deck (λ j. j.unit == suc i) [] 0 deck.notes j.notes j.are.all well.notes))
