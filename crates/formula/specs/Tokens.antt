-- A text as tokens: brackets, and atoms, which end at a blank or a bracket.
use Rattle.std.specs.Prelude.{ℕ, ◌+◌, ◌==◌, ◌&&◌, not, if◌then◌else◌, Bool, List, [], ◌∷◌, ◌++◌}

pub data Token : Type 0 where
  opening : Token
  closing : Token
  atom : List ℕ → Token

-- a token, and the number of bytes of the text up to its end
pub record Lexeme : Type 0 where
  pub token : Token
  pub after : ℕ

abbrev pub lexeme : Token → ℕ → Lexeme
lexeme t n = record { token = t; after = n }

-- an atom of these bytes that ends here, if there are any, and what follows
abbrev pub ended : List ℕ → ℕ → List Lexeme → List Lexeme
ended [] at rest = rest
ended (b ∷ more) at rest = lexeme (atom (b ∷ more)) at ∷ rest

-- the tokens of the bytes left, where so many bytes were passed, the last of them an atom's
abbrev pub tokens_from : ℕ → List ℕ → List ℕ → List Lexeme
tokens_from at passed [] = ended passed at []
tokens_from at passed (b ∷ rest) =
    if b == 32 then ended passed at (tokens_from (at + 1) [] rest)
    else if b == 40 then ended passed at (lexeme opening (at + 1) ∷ tokens_from (at + 1) [] rest)
    else if b == 41 then ended passed at (lexeme closing (at + 1) ∷ tokens_from (at + 1) [] rest)
    else tokens_from (at + 1) (passed ++ b ∷ []) rest

-- the tokens of a text
abbrev pub tokens : List ℕ → List Lexeme
tokens = tokens_from 0 []

-- a byte of an atom
abbrev pub is_atom_byte : ℕ → Bool
is_atom_byte b = not (b == 32) && not (b == 40) && not (b == 41)
