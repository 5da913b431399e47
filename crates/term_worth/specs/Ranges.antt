-- Numbers of which an evaluation may go on.
use Rattle.std.specs.Prelude.{ℤ, [], ◌∷◌, if◌then◌else◌, Option, Some, None}
use Rattle.formula.specs.declared.function.BuiltIn.{BuiltIn}
use Rattle.formula.specs.declared.value.Value.TheVariants.{Int}
use Rattle.formula.specs.Values.{num, applied}
use Rattle.formula.specs.Bounded.{is_in_range}

-- a number from -2^120 to 2^120, and no other
abbrev pub in_range : ℤ → Option ℤ
in_range z = if is_in_range (Int z) then Some z else None

-- the number that a built-in function makes of one number, or of two; 0 where it makes none of them
abbrev pub of_number : BuiltIn → ℤ → ℤ
of_number f a = num (applied f (Int a ∷ []))

abbrev pub of_numbers : BuiltIn → ℤ → ℤ → ℤ
of_numbers f a b = num (applied f (Int a ∷ Int b ∷ []))
