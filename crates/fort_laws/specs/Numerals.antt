-- The numerals of symbols.
use Rattle.std.specs.Prelude.{◌≡◌, ℕ, ◌<◌, ◌^◌, decimal}
use Rattle.fort_model.specs.Symbols.{numeral}

-- the numeral of a number is its decimal digits, of which std's have at most 64
abbrev pub NumeralsAreDecimal : Type 0
NumeralsAreDecimal = (n : ℕ) → n < 10 ^ 64 → numeral n ≡ decimal n
