-- What the parser answers.
use Rattle.std.specs.Prelude.{ℕ, ◌≡◌, Result, Ok, Err, List}
use Rattle.fort_syntax.specs.declared.dialect.Dialect.{Dialect}
use Rattle.fort_syntax.specs.declared.stmt.Stmt.{Stmt}
use Rattle.fort_syntax.specs.Grammar.{Spells}
use Rattle.fort_syntax.specs.Misspelled.{refusal_of}
use Rattle.stmt_parse.specs.declared.answer.StmtRefusal.{StmtRefusal}
use Rattle.stmt_parse.specs.declared.answer.StmtRefusal.TheVariants.{Breaks, NoMemory}

-- a text breaks a rule where it spells no statement; memory may run out at any text
abbrev pub Refuses : Dialect → List ℕ → StmtRefusal → Type 0
Refuses d t NoMemory = Unit {0}
Refuses d t (Breaks r) = ((s : Stmt) → ¬ Spells d t s) × (r ≡ refusal_of d t)

-- the statement that the text spells, or the rule that a text breaks which spells none
abbrev pub Answers : Dialect → List ℕ → Result Stmt StmtRefusal → Type 0
Answers d t (Ok s) = Spells d t s
Answers d t (Err e) = Refuses d t e

-- a text spells at most one statement
abbrev pub TextSpellsOneStatement : Type 0
TextSpellsOneStatement = (d : Dialect) (t : List ℕ) (s u : Stmt) → Spells d t s → Spells d t u → s ≡ u
