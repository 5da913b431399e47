-- How often CLOCK stands among tokens.
use Rattle.std.proofs.Common.{◌≡◌, ℕ, ◌+◌, Bool, true, false, List, [], ◌∷◌, length, filter, refl, ap, arith}
use Rattle.std.proofs.lemmas.Grind.{common_steps}
use Rattle.formula.specs.Tokens.{Lexeme, Token, lexeme}
use Rattle.fort_notes.specs.Judging.{is_clock}

abbrev pub clocks_among : List Lexeme → ℕ
clocks_among ls = length (filter (λ l. is_clock l.token) ls)

pub one_more : (t : Token) (n : ℕ) (ls : List Lexeme) → is_clock t ≡ true → clocks_among (lexeme t n ∷ ls) ≡ clocks_among ls + 1
one_more t n ls e = rw e (grind (arith, common_steps))

pub one_other : (t : Token) (n : ℕ) (ls : List Lexeme) → is_clock t ≡ false → clocks_among (lexeme t n ∷ ls) ≡ clocks_among ls
one_other t n ls e = rw e refl

pub no_more : clocks_among [] ≡ 0
no_more = refl
