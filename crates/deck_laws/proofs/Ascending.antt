-- Statements, notes and units on ascending cards.
use Rattle.std.proofs.Common.{◌≡◌, ◌<◌, ℕ, Bool, true, false, cond, List, [], ◌∷◌, ◌++◌, map, refl, ap, ◌∙◌, arith, rules}
use Rattle.std.specs.Prelude.{◌&&◌, nat_lt}
use Rattle.std.proofs.lemmas.Bool.Decides.{nat_tests}
use Rattle.fort_syntax.specs.DeckOrder.{units_ascend_above, notes_ascend_above}
use Rattle.fort_syntax.specs.Units.{Piece, stated, remarked, statements, Segment, segments, begun_with, put_before, class_of, card_of_first, card_of_last, unit_of, is_inside, placed, notes_behind}
use Rattle.fort_syntax.specs.declared.class.Class.{Class}
use Rattle.fort_syntax.specs.declared.class.Class.TheVariants.{Heading, Declaring, Performing, Ending}
use Rattle.fort_syntax.specs.declared.deck.Placed.{Placed}
use Rattle.fort_syntax.specs.declared.unit.Line.{Line}
use Rattle.deck_laws.specs.Ascent.{card_of_piece, pieces_ascend_above}
use Rattle.deck_laws.proofs.Tests.{case, first_true, second_true, both_true}

-- the cards of statements ascend from above one
abbrev pub ascend_above : ℕ → List Line → Bool
ascend_above card [] = true
ascend_above card (line ∷ lines) = nat_lt card line.card && ascend_above line.card lines

pub lower : (low card other : ℕ) → low < card → nat_lt card other ≡ true → nat_lt low other ≡ true
lower low card other less h = grind (arith, nat_tests)

pub ascend_lower : (low card : ℕ) (lines : List Line) → low < card → ascend_above card lines ≡ true
    → ascend_above low lines ≡ true
ascend_lower low card [] less h = refl
ascend_lower low card (line ∷ lines) less h =
    both_true (lower low card line.card less (first_true (nat_lt card line.card) (ascend_above line.card lines) h))
    (second_true (nat_lt card line.card) (ascend_above line.card lines) h)

-- a card below the least one is below all
pub pieces_lower : (low card : ℕ) (pieces : List Piece) → low < card → pieces_ascend_above card pieces ≡ true
    → pieces_ascend_above low pieces ≡ true
pieces_lower low card [] less h = refl
pieces_lower low card (piece ∷ pieces) less h =
    both_true (lower low card (card_of_piece piece) less (first_true (nat_lt card (card_of_piece piece)) (pieces_ascend_above (card_of_piece piece) pieces) h))
    (second_true (nat_lt card (card_of_piece piece)) (pieces_ascend_above (card_of_piece piece) pieces) h)

-- the statements among statements and notes ascend
pub statements_ascend : (card : ℕ) (pieces : List Piece) → pieces_ascend_above card pieces ≡ true
    → ascend_above card (statements pieces) ≡ true
statements_ascend card [] h = refl
statements_ascend card (stated line ∷ pieces) h =
    both_true (first_true (nat_lt card line.card) (pieces_ascend_above line.card pieces) h)
    (statements_ascend line.card pieces (second_true (nat_lt card line.card) (pieces_ascend_above line.card pieces) h))
statements_ascend card (remarked number text ∷ pieces) h =
    let less = first_true (nat_lt card number) (pieces_ascend_above number pieces) h in
    statements_ascend card pieces
    (pieces_lower card number pieces (grind (arith, nat_tests)) (second_true (nat_lt card number) (pieces_ascend_above number pieces) h))

-- ---- units

-- the cards of some statements' units ascend
abbrev Ascend : ℕ → List Segment → Type 0
Ascend card units = units_ascend_above card (map unit_of units) ≡ true

put_ascends : (card : ℕ) (line : Line) (units : List Segment) → nat_lt card line.card ≡ true → Ascend line.card units
    → Ascend card (put_before line units)
put_ascends card line [] less h = both_true less refl
put_ascends card line ([] ∷ units) less h =
    absurd (below (first_true (nat_lt line.card 0) (units_ascend_above 0 (map unit_of units)) h))
  where
    below : nat_lt line.card 0 ≡ true → ⊥
    below k = grind (arith, nat_tests)
put_ascends card line ((first ∷ rest) ∷ units) less h =
    both_true less
    (second_true (nat_lt line.card first.card) (units_ascend_above (card_of_last first.card rest) (map unit_of units)) h)

begun_ascends : (card : ℕ) (class : Class) (line : Line) (units : List Segment) → nat_lt card line.card ≡ true
    → Ascend line.card units → Ascend card (begun_with class line units)
begun_ascends card Ending line units less h = both_true less h
begun_ascends card Heading line units less h = put_ascends card line units less h
begun_ascends card Declaring line units less h = put_ascends card line units less h
begun_ascends card Performing line units less h = put_ascends card line units less h

-- the units of statements on ascending cards
pub units_ascend : (card : ℕ) (lines : List Line) → ascend_above card lines ≡ true
    → units_ascend_above card (map unit_of (segments lines)) ≡ true
units_ascend card [] h = refl
units_ascend card (line ∷ lines) h =
    begun_ascends card (class_of line.stmt) line (segments lines) (first_true (nat_lt card line.card) (ascend_above line.card lines) h)
    (units_ascend line.card lines (second_true (nat_lt card line.card) (ascend_above line.card lines) h))

-- ---- notes

notes_lower : (low card : ℕ) (notes : List Placed) → low < card → notes_ascend_above card notes ≡ true
    → notes_ascend_above low notes ≡ true
notes_lower low card [] less h = refl
notes_lower low card (note ∷ notes) less h =
    both_true (lower low card note.card less (first_true (nat_lt card note.card) (notes_ascend_above note.card notes) h))
    (second_true (nat_lt card note.card) (notes_ascend_above note.card notes) h)

-- a note has its card, wherever it stands
card_of_placed : (before : List Line) (card : ℕ) (text : List ℕ) → (placed before card text).card ≡ card
card_of_placed before card text = by (is_inside false before) _ _ refl refl
  where
    by : (b : Bool) (inside outside : Placed) → inside.card ≡ card → outside.card ≡ card → (cond b inside outside).card ≡ card
    by true inside outside e f = e
    by false inside outside e f = f

pub notes_ascend : (card : ℕ) (before : List Line) (pieces : List Piece) → pieces_ascend_above card pieces ≡ true
    → notes_ascend_above card (notes_behind before pieces) ≡ true
notes_ascend card before [] h = refl
notes_ascend card before (stated line ∷ pieces) h =
    let less = first_true (nat_lt card line.card) (pieces_ascend_above line.card pieces) h in
    notes_lower card line.card (notes_behind (before ++ line ∷ []) pieces) (grind (arith, nat_tests))
    (notes_ascend line.card (before ++ line ∷ []) pieces (second_true (nat_lt card line.card) (pieces_ascend_above line.card pieces) h))
notes_ascend card before (remarked number text ∷ pieces) h =
    let same = card_of_placed before number text in
    both_true (ap (nat_lt card) same ∙ first_true (nat_lt card number) (pieces_ascend_above number pieces) h)
    (ap (λ n. notes_ascend_above n (notes_behind before pieces)) same
    ∙ notes_ascend number before pieces (second_true (nat_lt card number) (pieces_ascend_above number pieces) h))
