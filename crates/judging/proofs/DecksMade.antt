-- The deck of a text is well formed.
use Rattle.std.proofs.Common.{◌≡◌, ℕ, List, [], ◌∷◌, refl, sym, ap, ◌∙◌, subst}
use Rattle.std.specs.Prelude.{◌&&◌, nat_lt}
use Rattle.fort_syntax.specs.Cards.{entries_of}
use Rattle.fort_syntax.specs.Readings.{IsReadAs, AreReadAs}
use Rattle.fort_syntax.specs.Units.{Piece, stated, remarked, statements, deck_of}
use Rattle.fort_syntax.specs.WellFormed.{IsWellFormed}
use Rattle.fort_syntax.specs.declared.cards.Entry.{Entry}
use Rattle.fort_syntax.specs.declared.cards.Entry.TheVariants.{Statement, Note}
use Rattle.fort_syntax.specs.declared.deck.Deck.{Deck}
use Rattle.fort_syntax.specs.declared.dialect.Dialect.{Dialect}
use Rattle.deck_laws.specs.Ascent.{card_of_piece, card_of_entry, pieces_ascend_above, entries_ascend_above}
use Rattle.deck_laws.specs.Spelling.{AreSpelled}
use Rattle.deck_laws.proofs.AscendingEntries.{entries_ascend}
use Rattle.deck_laws.proofs.WellFormedDecks.{decks_without_fault_are_well_formed}
use Rattle.deck_entries.specs.Decks.{IsDeckOf}
use Rattle.fort_notes.specs.Remarks.{remarks_of}
use Rattle.note_laws.proofs.PointsIncrease.{assert_points_increase}
use Rattle.judging.specs.Laws.{DecksInAreWellFormed, AssertPointsIncreaseIn}

-- statements and notes have the cards of their entries
same_card : (d : Dialect) (entry : Entry) (piece : Piece) → IsReadAs d entry piece → card_of_piece piece ≡ card_of_entry entry
same_card d (Statement number label text) (stated line) k = k.0
same_card d (Statement number label text) (remarked n t) k = absurd k
same_card d (Note number text) (stated line) k = absurd k
same_card d (Note number text) (remarked n t) k = k.0

cards_kept : (d : Dialect) (card : ℕ) (entries : List Entry) (pieces : List Piece) → AreReadAs d entries pieces
    → pieces_ascend_above card pieces ≡ entries_ascend_above card entries
cards_kept d card [] [] h = refl
cards_kept d card [] (piece ∷ pieces) h = absurd h
cards_kept d card (entry ∷ entries) [] h = absurd h
cards_kept d card (entry ∷ entries) (piece ∷ pieces) h =
    ap (λ n. nat_lt card n && pieces_ascend_above n pieces) (same_card d entry piece h.0)
    ∙ ap (λ b. nat_lt card (card_of_entry entry) && b) (cards_kept d (card_of_entry entry) entries pieces h.1)

are_spelled : (d : Dialect) (entries : List Entry) (pieces : List Piece) → AreReadAs d entries pieces → AreSpelled d (statements pieces)
are_spelled d [] [] h = tt
are_spelled d [] (piece ∷ pieces) h = absurd h
are_spelled d (entry ∷ entries) [] h = absurd h
are_spelled d (Statement number label text ∷ entries) (stated line ∷ pieces) h = ((text, h.0.2), are_spelled d entries pieces h.1)
are_spelled d (Statement number label text ∷ entries) (remarked n t ∷ pieces) h = absurd h.0
are_spelled d (Note number text ∷ entries) (stated line ∷ pieces) h = absurd h.0
are_spelled d (Note number text ∷ entries) (remarked n t ∷ pieces) h = are_spelled d entries pieces h.1

pieces_well_formed : (d : Dialect) (bytes : List ℕ) (deck : Deck) (h : IsDeckOf d (entries_of bytes) deck) → IsWellFormed d (deck_of h.0)
pieces_well_formed d bytes deck h =
    decks_without_fault_are_well_formed d h.0 (are_spelled d (entries_of bytes) h.0 h.1) (cards_kept d 0 (entries_of bytes) h.0 h.1 ∙ entries_ascend bytes) h.2

pub decks_in_are_well_formed : DecksInAreWellFormed
decks_in_are_well_formed d bytes deck h = subst (IsWellFormed d) (sym h.1.3) (pieces_well_formed d bytes deck h.1)

pub assert_points_increase_in : AssertPointsIncreaseIn
assert_points_increase_in d bytes deck r h e i notes at =
    assert_points_increase d h.1.0 r (pieces_well_formed d bytes deck h.1) (ap remarks_of (sym h.1.3) ∙ e) i notes at
