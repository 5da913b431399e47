-- Rows of numbers, unit after unit.
use Rattle.std.proofs.Common.{◌≡◌, ℕ, zero, suc, ◌+◌, List, [], ◌∷◌, drop, append_assoc, sym, ap, ◌∙◌, add-one}
use Rattle.std.specs.Prelude.{Some, slice_get, map, ◌++◌}

-- what stands at a place comes first behind those before it
pub drop_at : {A : Type 0} (xs : List A) (i : ℕ) (x : A) → slice_get xs i ≡ Some x → drop i xs ≡ x ∷ drop (i + 1) xs
drop_at [] i x e = absurd cc
drop_at (y ∷ xs) zero x e = let same : y ≡ x = cc in ap (λ z. z ∷ xs) same
drop_at (y ∷ xs) (suc i) x e = drop_at xs i x e ∙ ap (λ n. x ∷ drop n xs) (add-one i) ∙ ap (λ n. x ∷ drop n (y ∷ xs)) (sym (add-one (suc i)))

-- a row more
pub pushed : {A B : Type 0} (f : A → B) (xs : List A) (i : ℕ) (x : A) (rows more : List B) (row : B) → slice_get xs i ≡ Some x
    → more ≡ rows ++ row ∷ [] → row ≡ f x → rows ++ map f (drop i xs) ≡ map f xs → more ++ map f (drop (i + 1) xs) ≡ map f xs
pushed f xs i x rows more row e p r h =
    ap (λ ys. ys ++ map f (drop (i + 1) xs)) p
    ∙ append_assoc rows (row ∷ []) (map f (drop (i + 1) xs))
    ∙ ap (λ y. rows ++ y ∷ map f (drop (i + 1) xs)) r
    ∙ ap (λ ys. rows ++ map f ys) (sym (drop_at xs i x e))
    ∙ h
