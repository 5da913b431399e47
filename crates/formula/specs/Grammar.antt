-- The grammar of terms: which tokens spell a term.
use Rattle.std.specs.Prelude.{ℕ, ℤ, ◌+◌, ◌≡◌, ◌≤◌, ◌↔◌, max, map, true, false, Option, Some, None, List, [], ◌∷◌, ◌++◌, codes}
use Rattle.formula.specs.declared.function.Arity.{Arity}
use Rattle.formula.specs.declared.head.Head.{Head}
use Rattle.formula.specs.declared.head.Head.TheVariants.{EntryValue, Function}
use Rattle.formula.specs.Functions.{fits_count}
use Rattle.formula.specs.Tree.{Tree, num, truth, symbol, old, apply, Row, none, more, row_count, takes}
use Rattle.formula.specs.Atoms.{is_number, is_long, digits_of, number_of, is_symbol, is_function_name}
use Rattle.formula.specs.Tokens.{Token, opening, closing, atom, Lexeme, tokens}
use Rattle.formula.specs.Reading.{got, reads}

-- a number: digits, with or without a `-`, at most 18 of them after leading zeros
abbrev pub SpellsNumber : List ℕ → ℤ → Type 0
SpellsNumber a z = (is_number a ≡ true) × (is_long (digits_of a) ≡ false) × (z ≡ number_of a)

-- `(`, the name of a head, the arguments and `)`
pub record IsCall (named : List ℕ → Option Head) (head : Head) (args ts : List Token) : Type 0 where
  pub name : List ℕ
  pub is : ts ≡ opening ∷ atom name ∷ (args ++ closing ∷ [])
  pub is_name : is_function_name name ≡ true
  pub names : named name ≡ Some head

abbrev mutual
  -- the tokens spell the term
  pub Spells : (List ℕ → Option Head) → Tree → List Token → Type 0
  Spells named (num z) ts = (a : List ℕ) × (ts ≡ atom a ∷ []) × SpellsNumber a z
  Spells named (truth true) ts = ts ≡ atom (codes "T") ∷ []
  Spells named (truth false) ts = ts ≡ atom (codes "F") ∷ []
  Spells named (symbol s) ts = (ts ≡ atom s ∷ []) × (is_symbol s ≡ true)
  Spells named (old s) ts = IsCall named EntryValue (atom s ∷ []) ts × (is_symbol s ≡ true)
  Spells named (apply f row) ts =
      (arity : Arity) × (args : List Token) × IsCall named (Function f arity) args ts
      × (fits_count arity (row_count row) ≡ true) × (takes f row ≡ true) × SpellsRow named row args

  -- the tokens spell the arguments, one behind the other
  pub SpellsRow : (List ℕ → Option Head) → Row → List Token → Type 0
  SpellsRow named none ts = ts ≡ []
  SpellsRow named (more t rest) ts = (first : List Token) × (others : List Token) × (ts ≡ first ++ others)
      × Spells named t first × SpellsRow named rest others

abbrev mutual
  -- how many brackets are open at most
  pub depth : Tree → ℕ
  depth (num z) = 0
  depth (truth b) = 0
  depth (symbol s) = 0
  depth (old s) = 1
  depth (apply f row) = depth_row row + 1

  pub depth_row : Row → ℕ
  depth_row none = 0
  depth_row (more t rest) = max (depth t) (depth_row rest)

-- where the last of these tokens ends, or n
abbrev pub end_from : ℕ → List Lexeme → ℕ
end_from n [] = n
end_from n (p ∷ rest) = end_from p.after rest

-- the tokens of these places
abbrev pub tokens_of : List Lexeme → List Token
tokens_of = map (λ p. p.token)

-- so many open brackets are at most as many as may be
abbrev pub IsWithin : Option ℕ → ℕ → Type 0
IsWithin None n = Unit {0}
IsWithin (Some most) n = n ≤ most

-- the first of these tokens, up to the place n, spell the term
pub record BeginsWith (named : List ℕ → Option Head) (limit : Option ℕ) (all : List Lexeme) (t : Tree) (n : ℕ) : Type 0 where
  pub front : List Lexeme
  pub back : List Lexeme
  pub is : all ≡ front ++ back
  pub spells : Spells named t (tokens_of front)
  pub ends : end_from 0 front ≡ n
  pub small : IsWithin limit (depth t)

-- a term is read just where its spelling begins the text, in at most as many brackets as may be open
abbrev pub ReadingIsTheGrammar : Type 0
ReadingIsTheGrammar = (named : List ℕ → Option Head) (limit : Option ℕ) (text : List ℕ) (t : Tree) (n : ℕ)
    → (reads named limit text ≡ got t n) ↔ BeginsWith named limit (tokens text) t n
