-- Terms as trees.
use Rattle.std.specs.Prelude.{ℕ, ℤ, pos, ◌+◌, Bool, true, false, nat_le, List, [], ◌∷◌}
use Rattle.formula.specs.declared.function.BuiltIn.TheVariants.{Blank}
use Rattle.formula.specs.declared.function.Func.{Func}
use Rattle.formula.specs.declared.function.Func.TheVariants.{BuiltIn, Defined}
use Rattle.formula.specs.Functions.{arity_of, fits_count}

mutual
  -- a number, a truth value, a symbol, the entry value of a symbol, or a function with its arguments
  pub data Tree : Type 0 where
    num : ℤ → Tree
    truth : Bool → Tree
    symbol : List ℕ → Tree
    old : List ℕ → Tree
    apply : Func → Row → Tree

  -- the arguments of a function, in order
  pub data Row : Type 0 where
    none : Row
    more : Tree → Row → Row

-- a row of some trees
abbrev pub tree_row : List Tree → Row
tree_row [] = none
tree_row (t ∷ rest) = more t (tree_row rest)

-- the number of arguments
abbrev pub row_count : Row → ℕ
row_count none = 0
row_count (more t rest) = row_count rest + 1

-- BLANK takes a number from 0 to 1,000,000
abbrev pub is_blank_size : Tree → Bool
is_blank_size (num (pos n)) = nat_le n 1000000
is_blank_size _ = false

abbrev pub is_blank_row : Row → Bool
is_blank_row (more t none) = is_blank_size t
is_blank_row _ = false

-- a built-in function has its number of arguments; nothing is said here of a definition
abbrev pub takes : Func → Row → Bool
takes (BuiltIn Blank) row = is_blank_row row
takes (BuiltIn f) row = fits_count (arity_of f) (row_count row)
takes (Defined k) row = true
