-- The ASSERTs of a unit stand at points that increase, where the deck is made of statements and notes.
use Rattle.std.proofs.Common.{◌≡◌, ◌≢◌, ℕ, zero, suc, ◌+◌, ◌<◌, ◌≤◌, Bool, true, false, cond, Option, Some, List, [], ◌∷◌, ◌++◌, map, length, slice_get, refl, sym, ap, ◌∙◌, subst, arith, append_assoc, append-nil}
use Rattle.std.specs.Prelude.{nat_le, nat_lt}
use Rattle.std.specs.List.{flat_map, list_all}
use Rattle.std.proofs.lemmas.Bool.Decides.{nat_tests}
use Rattle.deck_laws.proofs.NotesPlaced.{notes_placed}
use Rattle.fort_syntax.specs.DeckOrder.{has_so_many, is_place, has_place, notes_ascend_above}
use Rattle.fort_syntax.specs.Units.{Piece, stated, remarked, statements, Segment, segments, executables, unit_of, is_inside, last_segment, line_outside, placed, notes_behind, deck_of}
use Rattle.fort_syntax.specs.declared.deck.Deck.{Deck}
use Rattle.fort_syntax.specs.declared.deck.Placed.{Placed}
use Rattle.fort_syntax.specs.declared.unit.Line.{Line}
use Rattle.fort_syntax.specs.declared.unit.Unit.{Unit as Routine}
use Rattle.fort_notes.specs.Assertions.{Assertion, Notes}
use Rattle.fort_notes.specs.Judging.{Judged}
use Rattle.fort_notes.specs.Remarks.{Remarks, assertion_in, of_unit}
use Rattle.fort_model.specs.Lists.{IsAmong}
use Rattle.note_laws.specs.Increase.{increase_from, Increase}
use Rattle.note_laws.specs.Laws.{AssertPointsIncrease}
use Rattle.note_laws.proofs.Small.{both_parts, none_among}
use Rattle.note_laws.proofs.AllJudged.{AreJudged, remarks_judged}
use Rattle.note_laws.proofs.NotesFit.{above, notes_at, assert_origin, one_at_point}
use Rattle.note_laws.proofs.CardsIncrease.{assert_cards_increase}

-- ---- notes of a unit go forward

-- the last of some units
last_at : (first : Segment) (units : List Segment) (i : ℕ) → length units ≡ suc i → slice_get (map unit_of units) i ≡ Some (unit_of (last_segment first units))
last_at first [] i e = absurd (omega arith)
last_at first (unit ∷ []) zero e = refl
last_at first (unit ∷ []) (suc i) e = absurd (omega arith)
last_at first (unit ∷ next ∷ units) zero e = absurd (omega arith)
last_at first (unit ∷ next ∷ units) (suc i) e = let k : length (next ∷ units) ≡ suc i = omega arith in last_at unit (next ∷ units) i k

at_most : (m n : ℕ) → nat_le m n ≡ true → m ≤ n
at_most m n e = grind (arith, nat_tests)

all_stated : List Line → List Piece
all_stated lines = map stated lines

statements_stated : (lines : List Line) → statements (map stated lines) ≡ lines
statements_stated [] = refl
statements_stated (line ∷ lines) = ap (λ ls. line ∷ ls) (statements_stated lines)

-- a note behind some statements is placed in each deck that begins with them
placed_in : (before more : List Line) (card : ℕ) (text : List ℕ) → has_place (map unit_of (segments (before ++ more))) (placed before card text) ≡ true
placed_in before more card text =
    let all = notes_placed before (remarked card text ∷ map stated more) in
    let lines : before ++ statements (map stated more) ≡ before ++ more = ap (λ ls. before ++ ls) (statements_stated more) in
    let here = subst (λ (ls : List Line). list_all (has_place (map unit_of (segments ls))) (notes_behind before (remarked card text ∷ map stated more)) ≡ true) lines all in
    (both_parts (has_place (map unit_of (segments (before ++ more))) (placed before card text))
    (list_all (has_place (map unit_of (segments (before ++ more)))) (notes_behind before (map stated more))) here).0

one_behind : (before more : List Line) (card other : ℕ) (text words : List ℕ) (i : ℕ) → (placed before card text).unit ≡ suc i → (placed (before ++ more) other words).unit ≡ suc i
    → (placed before card text).line ≤ (placed (before ++ more) other words).line
one_behind before more card other text words i e f = by (is_inside false (before ++ more)) f
  where
    n : Placed
    n = placed before card text

    place : has_so_many (slice_get (map unit_of (segments (before ++ more))) i) n.line ≡ true
    place = subst (λ (k : ℕ). is_place (map unit_of (segments (before ++ more))) k n.line ≡ true) e (placed_in before more card text)

    by : (b : Bool)
        → (cond {A = Placed} b (record { card = other; text = words; unit = length (segments (before ++ more)); line = length (executables (last_segment [] (segments (before ++ more)))) })
        (record { card = other; text = words; unit = 0; line = line_outside (before ++ more) })).unit ≡ suc i
        → n.line ≤ (cond {A = Placed} b (record { card = other; text = words; unit = length (segments (before ++ more)); line = length (executables (last_segment [] (segments (before ++ more)))) })
        (record { card = other; text = words; unit = 0; line = line_outside (before ++ more) })).line
    by true g =
        at_most n.line (length (executables (last_segment [] (segments (before ++ more)))))
        (subst (λ (o : Option Routine). has_so_many o n.line ≡ true) (last_at [] (segments (before ++ more)) i g) place)
    by false g = absurd (omega arith)

-- no note behind another one in the same unit stands before an earlier statement
abbrev GoForward : List Placed → Type 0
GoForward [] = Unit {0}
GoForward (n ∷ ns) = ((m : Placed) → IsAmong m ns → (i : ℕ) → n.unit ≡ suc i → m.unit ≡ suc i → n.line ≤ m.line) × GoForward ns

later_lines : (before more : List Line) (card : ℕ) (text : List ℕ) (pieces : List Piece) (m : Placed) → IsAmong m (notes_behind (before ++ more) pieces)
    → (i : ℕ) → (placed before card text).unit ≡ suc i → m.unit ≡ suc i → (placed before card text).line ≤ m.line
later_lines before more card text [] m among i e f = none_among among
later_lines before more card text (stated line ∷ pieces) m among i e f =
    later_lines before (more ++ line ∷ []) card text pieces m
    (subst (λ (ls : List Line). IsAmong m (notes_behind ls pieces)) (append_assoc before more (line ∷ [])) among) i e f
later_lines before more card text (remarked other words ∷ pieces) m (zero, g) i e f =
    let same : placed (before ++ more) other words ≡ m = cc in
    subst (λ (x : Placed). (placed before card text).line ≤ x.line) same
    (one_behind before more card other text words i e (ap (λ (x : Placed). x.unit) same ∙ f))
later_lines before more card text (remarked other words ∷ pieces) m (suc k, g) i e f = later_lines before more card text pieces m (k, g) i e f

go_forward : (before : List Line) (pieces : List Piece) → GoForward (notes_behind before pieces)
go_forward before [] = tt
go_forward before (stated line ∷ pieces) = go_forward (before ++ line ∷ []) pieces
go_forward before (remarked card text ∷ pieces) =
    (λ m among i e f. later_lines before [] card text pieces m (subst (λ (ls : List Line). IsAmong m (notes_behind ls pieces)) (sym (append-nil before)) among) i e f, go_forward before pieces)

-- ---- cards and points

note_later : (card : ℕ) (ns : List Placed) → notes_ascend_above card ns ≡ true → (m : Placed) → IsAmong m ns → card < m.card
note_later card [] up m among = none_among among
note_later card (n ∷ ns) up m (zero, e) =
    let parts = both_parts (nat_lt card n.card) (notes_ascend_above n.card ns) up in
    let same : n ≡ m = cc in
    subst (λ (x : Placed). card < x.card) same (above card n.card parts.0)
note_later card (n ∷ ns) up m (suc k, e) =
    let parts = both_parts (nat_lt card n.card) (notes_ascend_above n.card ns) up in
    let first = above card n.card parts.0 in
    let rest = note_later n.card ns parts.1 m (k, e) in
    omega arith

-- of two notes in one unit the one on the lesser card does not stand before a later statement
forward_by_cards : (card : ℕ) (ns : List Placed) → notes_ascend_above card ns ≡ true → GoForward ns → (n m : Placed) → IsAmong n ns → IsAmong m ns → n.card < m.card
    → (i : ℕ) → n.unit ≡ suc i → m.unit ≡ suc i → n.line ≤ m.line
forward_by_cards card [] up go n m a b lt i e f = none_among a
forward_by_cards card (x ∷ ns) up go n m (zero, p) (zero, q) lt i e f =
    let same : n ≡ m = cc in
    let cards = ap (λ (y : Placed). y.card) same in absurd (omega arith)
forward_by_cards card (x ∷ ns) up go n m (zero, p) (suc l, q) lt i e f =
    let same : x ≡ n = cc in
    subst (λ (y : Placed). y.line ≤ m.line) same (go.0 m (l, q) i (ap (λ (y : Placed). y.unit) same ∙ e) f)
forward_by_cards card (x ∷ ns) up go n m (suc k, p) (zero, q) lt i e f =
    let parts = both_parts (nat_lt card x.card) (notes_ascend_above x.card ns) up in
    let same : x ≡ m = cc in
    let cards = ap (λ (y : Placed). y.card) same in
    let later = note_later x.card ns parts.1 n (k, p) in absurd (omega arith)
forward_by_cards card (x ∷ ns) up go n m (suc k, p) (suc l, q) lt i e f =
    let parts = both_parts (nat_lt card x.card) (notes_ascend_above x.card ns) up in
    forward_by_cards x.card ns parts.1 go.1 n m (k, p) (l, q) lt i e f

assert_later : (deck : Deck) (js : List Judged) → AreJudged deck [] deck.notes js → notes_ascend_above 0 deck.notes ≡ true → GoForward deck.notes → (i : ℕ) (a b : Assertion)
    → IsAmong a (flat_map (λ j. assertion_in j j.form) (of_unit (suc i) js)) → IsAmong b (flat_map (λ j. assertion_in j j.form) (of_unit (suc i) js))
    → a.card < b.card → a.point < b.point
assert_later deck js h up go i a b m l lt =
    let p = assert_origin deck js h i a m in
    let q = assert_origin deck js h i b l in
    let n = p.of_unit.origin in
    let o = q.of_unit.origin in
    let cards : a.card ≡ n.note.card = p.is.card ∙ n.judged.card in
    let others : b.card ≡ o.note.card = q.is.card ∙ o.judged.card in
    let le : n.note.line ≤ o.note.line =
    forward_by_cards 0 deck.notes up go n.note o.note n.among o.among (let k : n.note.card < o.note.card = omega arith in k) i
    (sym n.judged.unit ∙ p.of_unit.unit) (sym o.judged.unit ∙ q.of_unit.unit) in
    let point : a.point ≡ n.note.line = p.is.point ∙ n.judged.line in
    let other : b.point ≡ o.note.line = q.is.point ∙ o.judged.line in
    let apart : b.point ≢ a.point = λ e. not_less (ap (λ (x : Assertion). x.card) (one_at_point deck js h up i a b m l e)) in
    less a.point b.point n.note.line o.note.line point other le apart
  where
    not_less : b.card ≡ a.card → ⊥
    not_less e = omega arith

    less : (x y s t : ℕ) → x ≡ s → y ≡ t → s ≤ t → y ≢ x → x < y
    less x y s t e f le apart = omega arith

increase_with : (xs : List Assertion) → ((a b : Assertion) → IsAmong a xs → IsAmong b xs → a.card < b.card → a.point < b.point)
    → Increase (map (λ a. a.card) xs) → Increase (map (λ a. a.point) xs)
increase_with [] h up = tt
increase_with (a ∷ xs) h up = from a xs h up
  where
    from : (a : Assertion) (xs : List Assertion) → ((b c : Assertion) → IsAmong b (a ∷ xs) → IsAmong c (a ∷ xs) → b.card < c.card → b.point < c.point)
        → increase_from a.card (map (λ b. b.card) xs) → increase_from a.point (map (λ b. b.point) xs)
    from a [] h up = tt
    from a (b ∷ xs) h up = (h a b (0, refl) (1, refl) up.0, from b xs (λ c d p q. h c d (suc p.0, p.1) (suc q.0, q.1)) up.1)

pub assert_points_increase : AssertPointsIncrease
assert_points_increase dialect pieces r well e i notes at =
    let deck = deck_of pieces in
    let j = remarks_judged deck r e in
    let units = ap (λ (x : Remarks). x.units) j.is in
    let k : suc i ≡ 1 + i = omega arith in
    let same = notes_at j.notes 1 deck.units i notes (ap (λ (ns : List Notes). slice_get ns i) (sym units) ∙ at) (suc i) k in
    let asserts : notes.asserts ≡ flat_map (λ j. assertion_in j j.form) (of_unit (suc i) j.notes) = ap (λ (x : Notes). x.asserts) same in
    let forward : GoForward deck.notes = go_forward [] pieces in
    increase_with notes.asserts
    (λ a b m l lt. assert_later deck j.notes j.are.all well.notes forward i a b (subst (IsAmong a) asserts m) (subst (IsAmong b) asserts l) lt)
    (assert_cards_increase dialect deck r well e i notes at)
