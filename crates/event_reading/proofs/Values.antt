-- What digits spell, digit by digit.
use Rattle.std.proofs.Common.{◌≡◌, ℕ, ◌+◌, ◌-◌, ◌*◌, ◌≤◌, ◌<◌, List, [], ◌∷◌, drop, length, arith}
use Rattle.std.specs.Prelude.{slice_index_or}
use Rattle.formula.specs.Atoms.{spelled_from}

-- it is no less than what the first of them spell
pub no_less : (n : ℕ) (ds : List ℕ) → n ≤ spelled_from n ds
no_less n [] = omega arith
no_less n (b ∷ ds) = let h = no_less (n * 10 + (b - 48)) ds in omega arith

pub next_digit : (n total : ℕ) (ds : List ℕ) → 0 < length ds → spelled_from n ds ≡ total → spelled_from (n * 10 + (slice_index_or ds 0 0 - 48)) (drop 1 ds) ≡ total
next_digit n total [] lt h = absurd (omega arith)
next_digit n total (b ∷ ds) lt h = h
