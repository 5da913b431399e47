-- Cards that ascend.
use Rattle.std.specs.Prelude.{ℕ, ◌&&◌, nat_lt, Bool, true, List, [], ◌∷◌}
use Rattle.fort_syntax.specs.Units.{Piece, stated, remarked}
use Rattle.fort_syntax.specs.declared.cards.Entry.{Entry}
use Rattle.fort_syntax.specs.declared.cards.Entry.TheVariants.{Statement, Note}

-- the first card of a statement or note
abbrev pub card_of_piece : Piece → ℕ
card_of_piece (stated line) = line.card
card_of_piece (remarked card text) = card

abbrev pub card_of_entry : Entry → ℕ
card_of_entry (Statement number label text) = number
card_of_entry (Note number text) = number

-- the cards of statements and notes ascend from above one
abbrev pub pieces_ascend_above : ℕ → List Piece → Bool
pieces_ascend_above card [] = true
pieces_ascend_above card (piece ∷ pieces) = nat_lt card (card_of_piece piece) && pieces_ascend_above (card_of_piece piece) pieces

-- the cards of statements and notes ascend from above 0
abbrev pub do_ascend : List Piece → Bool
do_ascend pieces = pieces_ascend_above 0 pieces

-- the cards of entries ascend from above one
abbrev pub entries_ascend_above : ℕ → List Entry → Bool
entries_ascend_above card [] = true
entries_ascend_above card (entry ∷ entries) = nat_lt card (card_of_entry entry) && entries_ascend_above
    (card_of_entry entry) entries
