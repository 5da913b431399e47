-- Weights as far as a cap.
use Rattle.std.specs.Prelude.{ℕ, nat_lt, cond}

-- a number, and 2,000,001 for each that is greater
abbrev pub capped : ℕ → ℕ
capped n = cond (nat_lt n 2000001) n 2000001
