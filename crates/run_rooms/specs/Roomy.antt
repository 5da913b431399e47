-- Items with room for so many.
use Rattle.std.specs.Prelude.{ℕ, ◌-◌, List, [], ◌∷◌, length, drop, refl}
use Rattle.std.specs.Coded.{Coded, code_by, coded×, coded_ℕ, coded_list}

-- items, and how many there is room for
pub record Roomy (X : Type 0) : Type 0 where
  pub items : List X
  pub room : ℕ

-- such items as a pair
abbrev pub coded_roomy : {X : Type 0} → Coded X → Coded (Roomy X)
coded_roomy {X} x = code_by (List X × ℕ) (coded× (coded_list x) coded_ℕ) (λ e. (e.items, e.room))
    (λ p. record { items = p.0; room = p.1 }) (λ _. refl)

-- the first item, or another one
abbrev pub first_or : {X : Type 0} → X → List X → X
first_or other [] = other
first_or other (x ∷ xs) = x

-- the items behind the first
abbrev pub behind : {X : Type 0} → List X → List X
behind [] = []
behind (x ∷ xs) = xs

-- the oldest so many, where the newest stands first
abbrev pub oldest : {X : Type 0} → ℕ → List X → List X
oldest n xs = drop (length xs - n) xs
