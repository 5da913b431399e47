-- What code that writes answers.
use Rattle.std.specs.Prelude.{◌≡◌, ℕ, Some, Option, Result, Ok, Err, List}
use Rattle.fort_syntax.specs.declared.dialect.Dialect.{Dialect}
use Rattle.fort_syntax.specs.declared.stmt.Stmt.{Stmt}
use Rattle.fort_syntax.specs.Grammar.{Spells}
use Rattle.stmt_parse.specs.declared.lack.Lack.{Lack}
use Rattle.stmt_parse.specs.declared.lack.Lack.TheVariants.{Spelling, Memory}
use Rattle.stmt_parse.specs.Parsing.{Fails}

-- the text is what is written, or nothing is, unless memory ran out
abbrev pub Wrote : {A : Type 0} → Result A Lack → List ℕ → Option (List ℕ) → Type 0
Wrote (Ok x) text written = written ≡ Some text
Wrote (Err e) text written = Fails e written

-- why a statement has no text: none spells it, or memory ran out
abbrev pub Unwritten : Dialect → Stmt → Lack → Type 0
Unwritten d s Memory = Unit {0}
Unwritten d s Spelling = (t : List ℕ) → ¬ Spells d t s

-- a text that spells the statement, or why there is none
abbrev pub Writes : Dialect → Stmt → Result (List ℕ) Lack → Type 0
Writes d s (Ok text) = Spells d text s
Writes d s (Err e) = Unwritten d s e
