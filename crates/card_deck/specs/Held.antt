-- What is held while cards are read.
use Rattle.std.specs.Prelude.{ℕ, List, [], ◌∷◌, ◌++◌}
use Rattle.fort_syntax.specs.Cards.{Card, continued, noted}
use Rattle.fort_syntax.specs.CardRules.{Before, nothing, statement, note}
use Rattle.fort_syntax.specs.declared.cards.Entry.{Entry}
use Rattle.fort_syntax.specs.declared.cards.Entry.TheVariants.{Statement as StatementEntry, Note as NoteEntry}
use Rattle.card_deck.specs.declared.held.Held.{Held}
use Rattle.card_deck.specs.declared.held.Held.TheVariants.{Nothing, Statement, Note}

-- the entry that is held, as the cards to come finish it
abbrev pub finished : Held → List Card → List Entry
finished Nothing rest = []
finished (Statement begun count) rest = StatementEntry begun.card begun.label (begun.text.items ++ continued rest) ∷ []
finished (Note begun) rest = NoteEntry begun.card (begun.text.items ++ noted rest) ∷ []

-- what the next card may continue
abbrev pub before_of : Held → Before
before_of Nothing = nothing
before_of (Statement begun count) = statement count
before_of (Note begun) = note

-- how many continuation cards a held statement has
abbrev pub count_of : Held → ℕ
count_of Nothing = 0
count_of (Statement begun count) = count
count_of (Note begun) = 0
