-- Numbers that a machine has, or none where there is none.
use Rattle.std.specs.Prelude.{ℕ, zero, suc, ◌+◌, ◌*◌, ◌^◌, ◌==◌, nat_lt, max, cond, Option, Some, None, ℤ, pos, negsuc}

-- a number, where a machine has it
abbrev pub number : ℕ → Option ℕ
number n = cond (nat_lt n (2 ^ 64)) (Some n) None

-- a sum
abbrev pub plus_to : Option ℕ → Option ℕ → Option ℕ
plus_to None b = None
plus_to (Some a) None = None
plus_to (Some a) (Some b) = number (a + b)

-- nothing times 0 is 0
abbrev pub times_to : Option ℕ → Option ℕ → Option ℕ
times_to None None = None
times_to None (Some b) = cond (b == 0) (Some 0) None
times_to (Some a) None = cond (a == 0) (Some 0) None
times_to (Some a) (Some b) = number (a * b)

-- the greater of two
abbrev pub greater_to : Option ℕ → Option ℕ → Option ℕ
greater_to None b = None
greater_to (Some a) None = None
greater_to (Some a) (Some b) = Some (max a b)

-- a number that is 1 at least
abbrev pub above_zero : ℤ → Option (Option ℕ)
above_zero (pos zero) = None
above_zero (pos (suc n)) = Some (number (suc n))
above_zero (negsuc n) = None
