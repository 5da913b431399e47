-- Which rules of cards a deck breaks, and at which cards, in no order.
use Rattle.std.specs.Prelude.{ℕ, ◌+◌, ◌<◌, ◌≡◌, ◌⊎◌, true, List, [], ◌∷◌, length}
use Rattle.fort_syntax.specs.Cards.{Card, cards_of, kind_of}
use Rattle.fort_syntax.specs.CardRules.{Before, nothing, behind, has_bad_byte, has_bad_label, lacks_initial, is_twentieth, is_bad_note, card_fault}
use Rattle.fort_syntax.specs.declared.rule.Rule.{Rule}
use Rattle.fort_syntax.specs.declared.rule.Rule.TheVariants.{TooLong, BadByte, BadLabel, NoInitial, ManyCards, BadNoteCard}
use Rattle.fort_syntax.specs.FirstFaults.{TellsLeast}

-- a card breaks a rule, by what it may continue
pub data IsBrokenBy (before : Before) (card : Card) : Rule → Type 0 where
  bad_byte : has_bad_byte card ≡ true → IsBrokenBy before card BadByte
  bad_label : has_bad_label card ≡ true → IsBrokenBy before card BadLabel
  no_initial : lacks_initial before card ≡ true → IsBrokenBy before card NoInitial
  many_cards : is_twentieth before card ≡ true → IsBrokenBy before card ManyCards
  bad_note_card : is_bad_note before card ≡ true → IsBrokenBy before card BadNoteCard

-- a rule is broken at the card of a number, where the first of these cards has the number n
abbrev pub IsBrokenFrom : Before → ℕ → List Card → Rule → ℕ → Type 0
IsBrokenFrom before n [] rule number = ⊥
IsBrokenFrom before n (card ∷ rest) rule number =
    ((number ≡ n) × IsBrokenBy before card rule) ⊎ IsBrokenFrom (behind (kind_of card) before) (n + 1) rest rule number

-- a deck breaks a rule of cards at a card: it is too long, or the card breaks the rule
abbrev pub IsCardRuleBroken : List ℕ → Rule → ℕ → Type 0
IsCardRuleBroken bytes rule number =
    ((rule ≡ TooLong) × (number ≡ 1) × (1048576 < length bytes)) ⊎ IsBrokenFrom nothing 1 (cards_of bytes) rule number

-- the first fault is a broken rule at its card, no broken rule stands before it, and without one none is broken
abbrev pub FirstCardFaultIsLeast : Type 0
FirstCardFaultIsLeast = (bytes : List ℕ) → TellsLeast (IsCardRuleBroken bytes) (card_fault bytes)
