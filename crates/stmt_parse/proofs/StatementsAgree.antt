-- The statement that is found and the statements that the grammar gives a text agree.
use Rattle.std.proofs.Common.{◌≡◌, None, List, ℕ, sym, ◌∙◌}
use Rattle.std.proofs.lemmas.Option.{none-some, same_Some}
use Rattle.fort_syntax.specs.declared.dialect.Dialect.{Dialect}
use Rattle.fort_syntax.specs.declared.stmt.Stmt.{Stmt}
use Rattle.fort_syntax.specs.Grammar.{Spells}
use Rattle.stmt_parse.specs.Statements.{statement_of}
use Rattle.stmt_parse.specs.Answers.{TextSpellsOneStatement}
use Rattle.stmt_parse.proofs.SpelledFound.{spelled_is_found}
pub use Rattle.stmt_parse.proofs.FoundSpelled.{found_is_spelled}

-- a text for which nothing is found spells no statement
pub none_is_spelled : (d : Dialect) (t : List ℕ) → statement_of d t ≡ None → (s : Stmt) → ¬ Spells d t s
none_is_spelled d t h s p = none-some s (sym h ∙ spelled_is_found d t s p)

-- a text spells one statement, the one that is found
pub text_spells_one_statement : TextSpellsOneStatement
text_spells_one_statement d t s u p q = same_Some s u (sym (spelled_is_found d t s p) ∙ spelled_is_found d t u q)
