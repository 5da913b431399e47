-- The statements and notes of a deck stand on ascending cards.
use Rattle.std.proofs.Common.{◌≡◌, ◌<◌, ℕ, ◌+◌, Bool, true, false, if◌then◌else◌, List, [], ◌∷◌, ◌++◌, refl, ap, ◌∙◌, arith}
use Rattle.std.specs.Prelude.{◌&&◌, nat_lt}
use Rattle.fort_syntax.specs.Cards.{Card, kind_of, is_plus, begun_by, note_text, noted, entries_from, cards_of}
use Rattle.fort_syntax.specs.declared.cards.CardKind.{CardKind}
use Rattle.fort_syntax.specs.declared.cards.CardKind.TheVariants.{NoteCard, CommentCard, ContinuationCard, InitialCard}
use Rattle.fort_syntax.specs.declared.cards.Entry.{Entry}
use Rattle.fort_syntax.specs.declared.cards.Entry.TheVariants.{Note}
use Rattle.deck_laws.specs.Ascent.{entries_ascend_above}
use Rattle.deck_laws.specs.Laws.{EntriesAscend}

above : (card number : ℕ) → card < number → nat_lt card number ≡ true
above card number h = grind arith

abbrev Above : ℕ → List Entry → Type 0
Above number entries = (card : ℕ) → card < number → entries_ascend_above card entries ≡ true

noted_first : (b : Bool) (card number : ℕ) (text : List ℕ) (more : List Entry) → card < number → Above (number + 1) more
    → entries_ascend_above card ((if b then [] else Note number text ∷ []) ++ more) ≡ true
noted_first true card number text more below h = h card (omega arith)
noted_first false card number text more below h =
    ap (λ b. b && entries_ascend_above number more) (above card number below) ∙ h number (omega arith)

first : (kind : CardKind) (number : ℕ) (c : Card) (rest : List Card) (more : List Entry) → Above (number + 1) more
    → Above number (begun_by kind number c rest ++ more)
first InitialCard number c rest more h card below =
    ap (λ b. b && entries_ascend_above number more) (above card number below) ∙ h number (omega arith)
first NoteCard number c rest more h card below =
    noted_first (is_plus c) card number (note_text c ++ noted rest) more below h
first CommentCard number c rest more h card below = h card (omega arith)
first ContinuationCard number c rest more h card below = h card (omega arith)

all_above : (number : ℕ) (cards : List Card) → Above number (entries_from number cards)
all_above number [] card below = refl
all_above number (c ∷ rest) card below =
    first (kind_of c) number c rest (entries_from (number + 1) rest) (all_above (number + 1) rest) card below

pub entries_ascend : EntriesAscend
entries_ascend bytes = all_above 1 (cards_of bytes) 0 (omega arith)
