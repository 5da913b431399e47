-- Tests of all numbers, of all names, of all functions or of all uses of definitions in a term.
use Rattle.std.specs.Prelude.{ℕ, ℤ, ◌&&◌, Bool, true, List}
use Rattle.formula.specs.declared.function.Func.{Func}
use Rattle.formula.specs.declared.function.Func.TheVariants.{BuiltIn, Defined}
use Rattle.formula.specs.Tree.{Tree, num, truth, symbol, old, apply, Row, none, more}

abbrev mutual
  -- each symbol passes one test, and the name of each entry value another
  pub names_pass : (List ℕ → Bool) → (List ℕ → Bool) → Tree → Bool
  names_pass now entry (num z) = true
  names_pass now entry (truth b) = true
  names_pass now entry (symbol x) = now x
  names_pass now entry (old x) = entry x
  names_pass now entry (apply f row) = row_names_pass now entry row

  pub row_names_pass : (List ℕ → Bool) → (List ℕ → Bool) → Row → Bool
  row_names_pass now entry none = true
  row_names_pass now entry (more t rest) = names_pass now entry t && row_names_pass now entry rest

abbrev mutual
  -- each number passes a test
  pub numbers_pass : (ℤ → Bool) → Tree → Bool
  numbers_pass test (num z) = test z
  numbers_pass test (truth b) = true
  numbers_pass test (symbol x) = true
  numbers_pass test (old x) = true
  numbers_pass test (apply f row) = row_numbers_pass test row

  pub row_numbers_pass : (ℤ → Bool) → Row → Bool
  row_numbers_pass test none = true
  row_numbers_pass test (more t rest) = numbers_pass test t && row_numbers_pass test rest

abbrev mutual
  -- each function passes a test with its arguments
  pub functions_pass : (Func → Row → Bool) → Tree → Bool
  functions_pass test (num z) = true
  functions_pass test (truth b) = true
  functions_pass test (symbol x) = true
  functions_pass test (old x) = true
  functions_pass test (apply f row) = test f row && row_functions_pass test row

  pub row_functions_pass : (Func → Row → Bool) → Row → Bool
  row_functions_pass test none = true
  row_functions_pass test (more t rest) = functions_pass test t && row_functions_pass test rest

abbrev pub use_passes : (ℕ → Row → Bool) → Func → Row → Bool
use_passes test (BuiltIn f) row = true
use_passes test (Defined k) row = test k row

abbrev mutual
  -- each use of a definition passes a test of its number and its arguments
  pub uses_pass : (ℕ → Row → Bool) → Tree → Bool
  uses_pass test (num z) = true
  uses_pass test (truth b) = true
  uses_pass test (symbol x) = true
  uses_pass test (old x) = true
  uses_pass test (apply f row) = use_passes test f row && row_uses_pass test row

  pub row_uses_pass : (ℕ → Row → Bool) → Row → Bool
  row_uses_pass test none = true
  row_uses_pass test (more t rest) = uses_pass test t && row_uses_pass test rest
