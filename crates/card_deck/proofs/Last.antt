-- The last card.
use Rattle.std.proofs.Common.{◌≡◌, ◌<◌, ℕ, List, [], ◌∷◌, length, refl, rules}
use Rattle.fort_syntax.specs.Cards.{columns, without_return, last_card}

pub one_card : (bytes : List ℕ) → 0 < length bytes → last_card bytes ≡ columns (without_return bytes) ∷ []
one_card [] some = search rules
one_card (b ∷ rest) some = refl
