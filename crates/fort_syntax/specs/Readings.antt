-- What the statements and notes on cards are read as.
use Rattle.std.specs.Prelude.{ℕ, ◌≡◌, List, [], ◌∷◌, ⊤}
use Rattle.fort_syntax.specs.Grammar.{Spells}
use Rattle.fort_syntax.specs.Misspelled.{refusal_of}
use Rattle.fort_syntax.specs.Units.{Piece, stated, remarked}
use Rattle.fort_syntax.specs.declared.cards.Entry.{Entry}
use Rattle.fort_syntax.specs.declared.cards.Entry.TheVariants.{Statement, Note}
use Rattle.fort_syntax.specs.declared.dialect.Dialect.{Dialect}
use Rattle.fort_syntax.specs.declared.rule.Rule.{Rule}
use Rattle.fort_syntax.specs.declared.stmt.Stmt.{Stmt}

-- an entry is read: its text spells the statement, or is the note's
abbrev pub IsReadAs : Dialect → Entry → Piece → Type 0
IsReadAs d (Statement card label text) (stated line) = (line.card ≡ card) × (line.label ≡ label) × Spells d text line.stmt
IsReadAs d (Statement card label text) (remarked n t) = ⊥
IsReadAs d (Note card text) (stated line) = ⊥
IsReadAs d (Note card text) (remarked n t) = (n ≡ card) × (t ≡ text)

abbrev pub AreReadAs : Dialect → List Entry → List Piece → Type 0
AreReadAs d [] [] = ⊤
AreReadAs d [] (piece ∷ pieces) = ⊥
AreReadAs d (entry ∷ entries) [] = ⊥
AreReadAs d (entry ∷ entries) (piece ∷ pieces) = IsReadAs d entry piece × AreReadAs d entries pieces

-- the text of a statement spells none, which breaks a rule
abbrev pub IsUnspelled : Dialect → Entry → Rule → ℕ → Type 0
IsUnspelled d (Statement card label text) rule at = ((s : Stmt) → ¬ Spells d text s) × (rule ≡ refusal_of d text) × (card ≡ at)
IsUnspelled d (Note card text) rule at = ⊥
