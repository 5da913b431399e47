-- Bytes, cards, statements and notes, statements, and those of one unit: of each no more than of those before.
use Rattle.std.proofs.Common.{◌≡◌, ℕ, zero, suc, ◌+◌, ◌≤◌, Bool, true, false, cond, List, [], ◌∷◌, ◌++◌, map, length, Option, Some, None, slice_get, nat_lt, refl, ap, subst, arith}
use Rattle.std.specs.Prelude.{if◌then◌else◌, ◌==◌}
use Rattle.std.proofs.lemmas.Bool.Decides.{nat_tests}
use Rattle.std.proofs.lemmas.List.{length-append}
use Rattle.fort_syntax.specs.CardRules.{nothing, fault_from, card_fault}
use Rattle.fort_syntax.specs.Cards.{Card, columns, without_return, last_card, cards_from, cards_of, kind_of, is_plus, note_text, noted, begun_by, entries_from, entries_of}
use Rattle.fort_syntax.specs.Readings.{AreReadAs}
use Rattle.fort_syntax.specs.Scopes.{kept}
use Rattle.fort_syntax.specs.Units.{Piece, stated, remarked, statements, class_of, is_performing, Segment, put_before, begun_with, segments, unit_of}
use Rattle.fort_syntax.specs.declared.cards.CardKind.{CardKind}
use Rattle.fort_syntax.specs.declared.cards.CardKind.TheVariants.{NoteCard, CommentCard, ContinuationCard, InitialCard}
use Rattle.fort_syntax.specs.declared.cards.Entry.{Entry}
use Rattle.fort_syntax.specs.declared.cards.Entry.TheVariants.{Note}
use Rattle.fort_syntax.specs.declared.class.Class.{Class}
use Rattle.fort_syntax.specs.declared.class.Class.TheVariants.{Heading, Declaring, Performing, Ending}
use Rattle.fort_syntax.specs.declared.dialect.Dialect.{Dialect}
use Rattle.fort_syntax.specs.declared.refusal.Fault.{Fault}
use Rattle.fort_syntax.specs.declared.rule.Rule.TheVariants.{TooLong}
use Rattle.fort_syntax.specs.declared.unit.Line.{Line}
use Rattle.fort_syntax.specs.declared.unit.Unit.{Unit as Routine}
use Rattle.deck_sizes.specs.Laws.{DecksAreShort}

none_some : {X : Type 0} (a : X) → ◌≡◌ {A = Option X} None (Some a) → ⊥
none_some a e = cc

some_is : {X : Type 0} (a b : X) → ◌≡◌ {A = Option X} (Some a) (Some b) → a ≡ b
some_is a b e = cc

-- ---- cards

either : {X : Type 0} (b : Bool) (x y : List X) (n : ℕ) → length x ≤ n → length y ≤ n → length (if b then x else y) ≤ n
either true x y n hx hy = hx
either false x y n hx hy = hy

few_last : (begun : List ℕ) → length (last_card begun) ≤ length begun
few_last [] = omega arith
few_last (b ∷ rest) = omega arith

few_cards : (bytes begun : List ℕ) → length (cards_from bytes begun) ≤ length bytes + length begun
few_cards [] begun = (let l = few_last begun in omega (arith, l))
few_cards (b ∷ rest) begun =
    either (b == 10) (columns (without_return begun) ∷ cards_from rest []) (cards_from rest (begun ++ b ∷ [])) (suc (length rest) + length begun)
    (let f = few_cards rest [] in omega (arith, f))
    (let f = few_cards rest (begun ++ b ∷ []) in let l = length-append begun (b ∷ []) in omega (arith, f, l))

-- ---- statements and notes

one_or_none : (b : Bool) (e : Entry) → length (if b then [] else e ∷ []) ≤ 1
one_or_none true e = omega arith
one_or_none false e = omega arith

one_begun : (k : CardKind) (number : ℕ) (card : Card) (rest : List Card) → length (begun_by k number card rest) ≤ 1
one_begun InitialCard number card rest = omega arith
one_begun NoteCard number card rest = one_or_none (is_plus card) (Note number (note_text card ++ noted rest))
one_begun CommentCard number card rest = omega arith
one_begun ContinuationCard number card rest = omega arith

few_entries : (number : ℕ) (cards : List Card) → length (entries_from number cards) ≤ length cards
few_entries number [] = omega arith
few_entries number (card ∷ rest) =
    let f = few_entries (number + 1) rest in
    let o = one_begun (kind_of card) number card rest in
    let l = length-append (begun_by (kind_of card) number card rest) (entries_from (number + 1) rest) in
    omega (arith, f, o, l)

same_count : (d : Dialect) (entries : List Entry) (pieces : List Piece) → AreReadAs d entries pieces → length pieces ≡ length entries
same_count d [] [] h = refl
same_count d [] (piece ∷ pieces) h = absurd h
same_count d (entry ∷ entries) [] h = absurd h
same_count d (entry ∷ entries) (piece ∷ pieces) h = ap suc (same_count d entries pieces h.1)

few_statements : (pieces : List Piece) → length (statements pieces) ≤ length pieces
few_statements [] = omega arith
few_statements (stated line ∷ rest) = (let f = few_statements rest in omega (arith, f))
few_statements (remarked card text ∷ rest) = (let f = few_statements rest in omega (arith, f))

-- ---- units

-- each of some segments has so many statements at most
abbrev AreFew : ℕ → List Segment → Type 0
AreFew n segs = (i : ℕ) (s : Segment) → slice_get segs i ≡ Some s → length s ≤ n

few_one : (n : ℕ) (line : Line) (rest : List Segment) → AreFew n rest → AreFew (suc n) ((line ∷ []) ∷ rest)
few_one n line rest few zero s e = subst (λ (x : Segment). length x ≤ suc n) (some_is (line ∷ []) s e) (omega arith)
few_one n line rest few (suc i) s e = (let f = few i s e in omega (arith, f))

few_put : (n : ℕ) (line : Line) (rest : List Segment) → AreFew n rest → AreFew (suc n) (put_before line rest)
few_put n line [] few i s e = few_one n line [] few i s e
few_put n line (segment ∷ rest) few zero s e =
    subst (λ (x : Segment). length x ≤ suc n) (some_is (line ∷ segment) s e) (let f = few zero segment refl in omega (arith, f))
few_put n line (segment ∷ rest) few (suc i) s e = (let f = few (suc i) s e in omega (arith, f))

few_begun : (n : ℕ) (c : Class) (line : Line) (rest : List Segment) → AreFew n rest → AreFew (suc n) (begun_with c line rest)
few_begun n Ending line rest few = few_one n line rest few
few_begun n Heading line rest few = few_put n line rest few
few_begun n Declaring line rest few = few_put n line rest few
few_begun n Performing line rest few = few_put n line rest few

few_segments : (lines : List Line) → AreFew (length lines) (segments lines)
few_segments [] i s e = absurd (none_some s e)
few_segments (line ∷ lines) i s e = few_begun (length lines) (class_of line.stmt) line (segments lines) (few_segments lines) i s e

few_kept : {X : Type 0} (test : X → Bool) (xs : List X) → length (kept test xs) ≤ length xs
few_kept test [] = omega arith
few_kept test (x ∷ xs) = by (test x) (few_kept test xs)
  where
    by : (b : Bool) → length (kept test xs) ≤ length xs → length (cond b (x ∷ []) [] ++ kept test xs) ≤ suc (length xs)
    by true h = omega (arith, h)
    by false h = omega (arith, h)

of_segment : (segs : List Segment) (i : ℕ) (u : Routine) → slice_get (map unit_of segs) i ≡ Some u → (s : Segment) × (slice_get segs i ≡ Some s) × (unit_of s ≡ u)
of_segment [] i u e = absurd (none_some u e)
of_segment (s ∷ segs) zero u e = (s, refl, some_is (unit_of s) u e)
of_segment (s ∷ segs) (suc i) u e = of_segment segs i u e

-- ---- all of them

no_some : (f : Fault) → ◌≡◌ {A = Option Fault} (Some f) None → ⊥
no_some f e = cc

few_if : (n : ℕ) (b : Bool) (f : Fault) (o : Option Fault) → nat_lt 1048576 n ≡ b → (if b then Some f else o) ≡ None → n ≤ 1048576
few_if n true f o e h = absurd (no_some f h)
few_if n false f o e h = grind (arith, nat_tests, e)

few_bytes : (bytes : List ℕ) → card_fault bytes ≡ None → length bytes ≤ 1048576
few_bytes bytes h =
    few_if (length bytes) (nat_lt 1048576 (length bytes)) (record { rule = TooLong; card = 1 }) (fault_from nothing 1 (cards_of bytes)) refl h

pub decks_are_short : DecksAreShort
decks_are_short d bytes pieces kept read i u e =
    let found = of_segment (segments (statements pieces)) i u e in
    let lines = few_kept (λ (line : Line). is_performing (class_of line.stmt)) found.0 in
    let segment = few_segments (statements pieces) i found.0 found.1 in
    let stated = few_statements pieces in
    let pieces_are = same_count d (entries_of bytes) pieces read in
    let entries = few_entries 1 (cards_of bytes) in
    let cards = few_cards bytes [] in
    let few = few_bytes bytes kept in
    subst (λ (v : Routine). length v.lines ≤ 1048576) found.2 (omega (arith, lines, segment, stated, pieces_are, entries, cards, few))
