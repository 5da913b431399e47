-- The rules of cards: on the length of a deck, bytes, labels, continuation cards and note cards.
use Rattle.std.specs.Prelude.{ℕ, ◌+◌, ◌==◌, ◌&&◌, not, nat_le, nat_lt, Bool, true, false, if◌then◌else◌, List, [], ◌∷◌, length, take, Option, Some, None}
use Rattle.std.specs.List.{list_all}
use Rattle.fort_syntax.specs.Cards.{Card, cards_of, column, kind_of, is_blank, label_field, is_label, is_plus}
use Rattle.fort_syntax.specs.declared.cards.CardKind.{CardKind}
use Rattle.fort_syntax.specs.declared.cards.CardKind.TheVariants.{NoteCard, CommentCard, ContinuationCard, InitialCard}
use Rattle.fort_syntax.specs.declared.refusal.Fault.{Fault}
use Rattle.fort_syntax.specs.declared.rule.Rule.{Rule}
use Rattle.fort_syntax.specs.declared.rule.Rule.TheVariants.{TooLong, BadByte, BadLabel, NoInitial, ManyCards, BadNoteCard}

-- what the next card may continue: nothing, a statement that has so many continuation cards, or a note
pub data Before : Type 0 where
  nothing : Before
  statement : ℕ → Before
  note : Before

abbrev pub continued_on : Before → Before
continued_on (statement n) = statement (n + 1)
continued_on nothing = nothing
continued_on note = nothing

-- a comment card parts a note from its continuation, and no statement
abbrev pub commented : Before → Before
commented (statement n) = statement n
commented nothing = nothing
commented note = nothing

-- what the card behind a card of this kind may continue
abbrev pub behind : CardKind → Before → Before
behind NoteCard before = note
behind CommentCard before = commented before
behind ContinuationCard before = continued_on before
behind InitialCard before = statement 0

abbrev pub is_printable : ℕ → Bool
is_printable b = nat_le 32 b && nat_le b 126

abbrev pub is_comment : CardKind → Bool
is_comment CommentCard = true
is_comment NoteCard = false
is_comment ContinuationCard = false
is_comment InitialCard = false

-- a card that counts has a byte that is not printable
abbrev pub has_bad_byte : Card → Bool
has_bad_byte card = not (is_comment (kind_of card)) && not (list_all is_printable card)

-- an initial card's label is none; or a continuation card has one
abbrev pub is_mislabelled : CardKind → Card → Bool
is_mislabelled InitialCard card = not (is_label (label_field card))
is_mislabelled ContinuationCard card = not (list_all is_blank (take 5 card))
is_mislabelled NoteCard card = false
is_mislabelled CommentCard card = false

abbrev pub has_bad_label : Card → Bool
has_bad_label card = is_mislabelled (kind_of card) card

abbrev pub no_statement : Before → Bool
no_statement (statement n) = false
no_statement nothing = true
no_statement note = true

abbrev pub is_full : Before → Bool
is_full (statement n) = n == 19
is_full nothing = false
is_full note = false

abbrev pub no_note : Before → Bool
no_note note = false
no_note nothing = true
no_note (statement n) = true

abbrev pub is_continuation : CardKind → Bool
is_continuation ContinuationCard = true
is_continuation NoteCard = false
is_continuation CommentCard = false
is_continuation InitialCard = false

abbrev pub is_note : CardKind → Bool
is_note NoteCard = true
is_note CommentCard = false
is_note ContinuationCard = false
is_note InitialCard = false

-- a continuation card has no statement to continue
abbrev pub lacks_initial : Before → Card → Bool
lacks_initial before card = is_continuation (kind_of card) && no_statement before

-- a continuation card is the twentieth of its statement
abbrev pub is_twentieth : Before → Card → Bool
is_twentieth before card = is_continuation (kind_of card) && is_full before

-- column 3 of a note card is neither blank nor a plus, or it is a plus and no note card stands just before
abbrev pub is_bad_note : Before → Card → Bool
is_bad_note before card = is_note (kind_of card) && (if is_plus card then no_note before else not (column 3 card == 32))

-- the rule of the least number that a card breaks
abbrev pub broken_by : Before → Card → Option Rule
broken_by before card =
    if has_bad_byte card then Some BadByte
    else if has_bad_label card then Some BadLabel
    else if lacks_initial before card then Some NoInitial
    else if is_twentieth before card then Some ManyCards
    else if is_bad_note before card then Some BadNoteCard
    else None

-- the fault of a card, or else a later one
abbrev pub fault_or : Option Rule → ℕ → Option Fault → Option Fault
fault_or (Some rule) number later = Some (record { rule = rule; card = number })
fault_or None number later = later

-- the first fault of cards, the first of which has a number
abbrev pub fault_from : Before → ℕ → List Card → Option Fault
fault_from before number [] = None
fault_from before number (card ∷ rest) =
    fault_or (broken_by before card) number (fault_from (behind (kind_of card) before) (number + 1) rest)

-- the first fault of a deck's cards: the one on the least card, and there of the rule of the least number
abbrev pub card_fault : List ℕ → Option Fault
card_fault bytes =
    if nat_lt 1048576 (length bytes) then Some (record { rule = TooLong; card = 1 })
    else fault_from nothing 1 (cards_of bytes)
