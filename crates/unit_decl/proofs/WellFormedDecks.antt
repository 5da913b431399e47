-- Decks that are made are well formed.
use Rattle.std.proofs.Common.{◌≡◌, ℕ, true, List, [], ◌∷◌, refl, sym, ap, ◌∙◌, subst}
use Rattle.std.specs.Prelude.{◌&&◌, nat_lt}
use Rattle.fort_syntax.specs.Readings.{IsReadAs, AreReadAs}
use Rattle.fort_syntax.specs.declared.cards.Entry.{Entry}
use Rattle.fort_syntax.specs.declared.cards.Entry.TheVariants.{Statement, Note}
use Rattle.fort_syntax.specs.declared.deck.Deck.{Deck}
use Rattle.fort_syntax.specs.declared.dialect.Dialect.{Dialect}
use Rattle.fort_syntax.specs.Units.{Piece, stated, remarked, statements}
use Rattle.fort_syntax.specs.WellFormed.{IsWellFormed}
use Rattle.deck_laws.specs.Ascent.{card_of_piece, card_of_entry, pieces_ascend_above, entries_ascend_above}
use Rattle.deck_laws.specs.Spelling.{AreSpelled}
use Rattle.deck_laws.proofs.WellFormedDecks.{decks_without_fault_are_well_formed}
use Rattle.deck_entries.specs.Decks.{IsDeckOf}

-- statements and notes have the cards of their entries
cards_kept : (d : Dialect) (card : ℕ) (entries : List Entry) (pieces : List Piece) → AreReadAs d entries pieces
    → pieces_ascend_above card pieces ≡ entries_ascend_above card entries
cards_kept d card [] [] h = refl
cards_kept d card [] (piece ∷ pieces) h = absurd h
cards_kept d card (entry ∷ entries) [] h = absurd h
cards_kept d card (entry ∷ entries) (piece ∷ pieces) h =
    ap (λ n. nat_lt card n && pieces_ascend_above n pieces) (same_card entry piece h.0)
    ∙ ap (λ b. nat_lt card (card_of_entry entry) && b) (cards_kept d (card_of_entry entry) entries pieces h.1)
  where
    same_card : (entry : Entry) (piece : Piece) → IsReadAs d entry piece → card_of_piece piece ≡ card_of_entry entry
    same_card (Statement number label text) (stated line) k = k.0
    same_card (Statement number label text) (remarked n t) k = absurd k
    same_card (Note number text) (stated line) k = absurd k
    same_card (Note number text) (remarked n t) k = k.0

are_spelled : (d : Dialect) (entries : List Entry) (pieces : List Piece) → AreReadAs d entries pieces → AreSpelled d (statements pieces)
are_spelled d [] [] h = tt
are_spelled d [] (piece ∷ pieces) h = absurd h
are_spelled d (entry ∷ entries) [] h = absurd h
are_spelled d (Statement number label text ∷ entries) (stated line ∷ pieces) h = ((text, h.0.2), are_spelled d entries pieces h.1)
are_spelled d (Statement number label text ∷ entries) (remarked n t ∷ pieces) h = absurd h.0
are_spelled d (Note number text ∷ entries) (stated line ∷ pieces) h = absurd h.0
are_spelled d (Note number text ∷ entries) (remarked n t ∷ pieces) h = are_spelled d entries pieces h.1

pub deck_is_well_formed : (d : Dialect) (entries : List Entry) (deck : Deck) → IsDeckOf d entries deck → entries_ascend_above 0 entries ≡ true → IsWellFormed d deck
deck_is_well_formed d entries deck made ascend =
    subst (IsWellFormed d) (sym made.3)
    (decks_without_fault_are_well_formed d made.0 (are_spelled d entries made.0 made.1) (cards_kept d 0 entries made.0 made.1 ∙ ascend) made.2)
