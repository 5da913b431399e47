-- Clocks: lists of numbers that fall.
use Rattle.std.specs.Prelude.{ℕ, ◌≡◌, Bool, true, false, ◌&&◌, ◌||◌, ℤ, pos, int_lt, int_le, List, [], ◌∷◌, length}

-- the parts of a clock are lexicographically below those of another: its first part that differs is less
abbrev pub are_below : List ℤ → List ℤ → Bool
are_below (n ∷ ns) (o ∷ os) = int_lt n o || (int_le n o && are_below ns os)
are_below _ _ = false

-- no part is negative
abbrev pub AreNotNegative : List ℤ → Type 0
AreNotNegative [] = Unit {0}
AreNotNegative (z ∷ zs) = (int_le (pos 0) z ≡ true) × AreNotNegative zs

-- a clock of so many parts
abbrev pub IsClock : ℕ → List ℤ → Type 0
IsClock parts zs = (length zs ≡ parts) × AreNotNegative zs

-- from a clock one can fall only so often
pub data FallsOnlySoOften (parts : ℕ) : List ℤ → Type 0 where
  so_often : {os : List ℤ} → ((ns : List ℤ) → IsClock parts ns → are_below ns os ≡ true → FallsOnlySoOften parts ns)
      → FallsOnlySoOften parts os

abbrev pub ClocksFallOnlySoOften : Type 0
ClocksFallOnlySoOften = (parts : ℕ) (os : List ℤ) → IsClock parts os → FallsOnlySoOften parts os
