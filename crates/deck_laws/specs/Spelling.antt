-- Statements that texts spell.
use Rattle.std.specs.Prelude.{ℕ, List, [], ◌∷◌, ⊤}
use Rattle.fort_syntax.specs.Grammar.{Spells}
use Rattle.fort_syntax.specs.declared.dialect.Dialect.{Dialect}
use Rattle.fort_syntax.specs.declared.stmt.Stmt.{Stmt}
use Rattle.fort_syntax.specs.declared.unit.Line.{Line}

-- some text spells the statement
abbrev pub IsSpelled : Dialect → Stmt → Type 0
IsSpelled d s = (t : List ℕ) × Spells d t s

-- some text spells each statement
abbrev pub AreSpelled : Dialect → List Line → Type 0
AreSpelled d [] = ⊤
AreSpelled d (line ∷ lines) = IsSpelled d line.stmt × AreSpelled d lines
