-- The unit of a setting.
use Rattle.std.proofs.Common.{◌≡◌, ℕ, zero, suc, List, [], ◌∷◌, drop, Option, Some, None, slice_get, ap}
use Rattle.walk_setting.specs.declared.setting.Setting.{Setting}

none_some : {X : Type 0} (a : X) → ◌≡◌ {A = Option X} None (Some a) → ⊥
none_some a e = cc

nothing_more : {X : Type 0} (a : X) (xs : List X) → ◌≡◌ {A = List X} [] (a ∷ xs) → ⊥
nothing_more a xs e = cc

same_some : {X : Type 0} (a b : X) → ◌≡◌ {A = Option X} (Some a) (Some b) → a ≡ b
same_some a b e = cc

same_first : {X : Type 0} (a b : X) (xs ys : List X) → ◌≡◌ {A = List X} (a ∷ xs) (b ∷ ys) → ◌≡◌ {A = Option X} (Some a) (Some b)
same_first a b xs ys e = cc

pub drop_there : {X : Type 0} (xs : List X) (k : ℕ) (x : X) → slice_get xs k ≡ Some x → drop k xs ≡ x ∷ drop (suc k) xs
drop_there [] k x e = absurd (none_some x e)
drop_there (y ∷ xs) zero x e = ap (λ (z : _). z ∷ xs) (same_some y x e)
drop_there (y ∷ xs) (suc k) x e = drop_there xs k x e

there_dropped : {X : Type 0} (xs : List X) (k : ℕ) (x : X) → drop k xs ≡ x ∷ drop (suc k) xs → slice_get xs k ≡ Some x
there_dropped [] zero x e = absurd (nothing_more x [] e)
there_dropped [] (suc k) x e = absurd (nothing_more x [] e)
there_dropped (y ∷ xs) zero x e = same_first y x xs (drop 1 (y ∷ xs)) e
there_dropped (y ∷ xs) (suc k) x e = there_dropped xs k x e

-- the unit of a setting is that of its number
pub unit_there : (s : Setting) → slice_get s.scene.now.books.now.units.now s.number ≡ Some s.book.now.unit.now
unit_there s = there_dropped s.scene.now.books.now.units.now s.number s.book.now.unit.now s.unit_is
