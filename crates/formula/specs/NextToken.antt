-- The first token of the rest of a text.
use Rattle.std.specs.Prelude.{ℕ, ◌<◌, ◌≤◌, ◌≡◌, List, [], ◌∷◌, length, drop}
use Rattle.formula.specs.declared.tokens.Token.{Token as Lent}
use Rattle.formula.specs.declared.tokens.Token.TheVariants.{Opening, Closing, Atom}
use Rattle.formula.specs.declared.tokens.Lexeme.{Lexeme as LentLexeme}
use Rattle.formula.specs.Tokens.{Token, opening, closing, atom, lexeme, tokens_from}

-- a token that is lent, as the token it is
abbrev pub token_of : Lent → Token
token_of Opening = opening
token_of Closing = closing
token_of (Atom a) = atom a.now

-- p is the first token behind the first `at` bytes
abbrev pub IsNext : List ℕ → ℕ → LentLexeme → Type 0
IsNext text at p = (at < p.after) × (p.after ≤ length text) × (tokens_from at [] (drop at text)
    ≡ lexeme (token_of p.token) p.after ∷ tokens_from p.after [] (drop p.after text))
