-- Membership.
use Rattle.std.specs.Prelude.{◌≡◌, ℕ, List, Some, slice_get}

-- something stands in a list
abbrev pub IsAmong : {A : Type 0} → A → List A → Type 0
IsAmong {A} a xs = (k : ℕ) × (slice_get xs k ≡ Some a)
