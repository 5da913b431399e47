-- Lists of numbers that increase.
use Rattle.std.specs.Prelude.{ℕ, ◌<◌, List, [], ◌∷◌}

-- numbers increase, the first of them from above one
abbrev pub increase_from : ℕ → List ℕ → Type 0
increase_from n [] = Unit {0}
increase_from n (m ∷ rest) = (n < m) × increase_from m rest

-- each number but the first is greater than the one before it
abbrev pub Increase : List ℕ → Type 0
Increase [] = Unit {0}
Increase (n ∷ rest) = increase_from n rest
