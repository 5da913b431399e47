-- Names are short.
use Rattle.std.proofs.Common.{◌≡◌, ℕ, Bool, true, false, List, length, refl, arith}
use Rattle.std.proofs.lemmas.Grind.{common_steps}
use Rattle.std.specs.List.{list_all}
use Rattle.std.specs.Prelude.{◌&&◌, nat_le}
use Rattle.formula.specs.Atoms.{is_function_name, is_letter, is_name, is_name_byte, starts}

-- names of FORTRAN are short names of functions
pub short_name : (a : List ℕ) → (is_function_name a && nat_le (length a) 6) ≡ is_name a
short_name a = step (starts is_letter a && list_all is_name_byte a) (length a)
  where
    step : (b : Bool) (n : ℕ) → (b && nat_le n 12 && nat_le n 6) ≡ (b && nat_le n 6)
    step false n = refl
    step true n = grind (arith, common_steps)
