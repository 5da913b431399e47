-- Terms that a text can spell: what a term that was read is, and what one must be for its text to be read back.
use Rattle.std.specs.Prelude.{ℕ, ℤ, pos, negsuc, suc, ◌^◌, ◌≡◌, nat_lt, Bool, true, Option, List}
use Rattle.formula.specs.declared.definition.Heading.{Heading}
use Rattle.formula.specs.Atoms.{is_symbol}
use Rattle.formula.specs.Headings.{is_headed, with_next}
use Rattle.formula.specs.Reading.{head_named, got, reads}
use Rattle.formula.specs.TermTests.{names_pass, numbers_pass, functions_pass, uses_pass}
use Rattle.formula.specs.Tree.{Tree, takes}

-- a number of at most 18 digits
abbrev pub is_short : ℤ → Bool
is_short (pos n) = nat_lt n (10 ^ 18)
is_short (negsuc n) = nat_lt (suc n) (10 ^ 18)

-- each number has at most 18 digits, each name is a symbol, functions take their arguments, and each use is of a
-- definition of these headings, with its number of arguments
pub record IsReadableTerm (headings : List Heading) (t : Tree) : Type 0 where
  pub numbers : numbers_pass is_short t ≡ true
  pub names : names_pass is_symbol is_symbol t ≡ true
  pub functions : functions_pass takes t ≡ true
  pub uses : uses_pass (is_headed headings) t ≡ true

-- a term that was read is readable, by the headings that it was read with
abbrev pub ReadTermsAreReadable : Type 0
ReadTermsAreReadable =
    (headings : List Heading) (next : Option Heading) (limit : Option ℕ) (text : List ℕ) (t : Tree) (n : ℕ)
    → reads (head_named headings next) limit text ≡ got t n → IsReadableTerm (with_next headings next) t
