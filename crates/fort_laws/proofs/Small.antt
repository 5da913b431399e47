-- Small laws of truth values and lists.
use Rattle.std.proofs.Common.{◌≡◌, ℕ, zero, suc, Bool, true, false, cond, ◌&&◌, ◌||◌, List, [], ◌∷◌, map, Some, slice_get, refl, ap, ◌∙◌, subst, sym}
use Rattle.std.specs.List.{filter, list_any}
use Rattle.fort_model.specs.Lists.{IsAmong}
use Rattle.fort_laws.proofs.Near.{known}

pub both_parts : (a b : Bool) → (a && b) ≡ true → (a ≡ true) × (b ≡ true)
both_parts true b e = (refl, e)
both_parts false b e = absurd (cc)

pub both_hold : (a b : Bool) → a ≡ true → b ≡ true → (a && b) ≡ true
both_hold a b x y = ap (λ (z : Bool). z && b) x ∙ y

-- what passes a filter stands in the list and passes the test
pub filter_passes : {A : Type 0} (test : A → Bool) (xs : List A) (x : A) → IsAmong x (filter test xs) → IsAmong x xs × (test x ≡ true)
filter_passes test [] x m = absurd (cc)
filter_passes {A = A} test (y ∷ ys) x m = known (test y)
    (λ t. kept (λ k. filter_passes test ys x k) t (subst (λ (b : Bool). IsAmong x (cond b (y ∷ filter test ys) (filter test ys))) t m))
    (λ f. later (λ k. filter_passes test ys x k) (subst (λ (b : Bool). IsAmong x (cond b (y ∷ filter test ys) (filter test ys))) f m))
  where
    later : (IsAmong x (filter test ys) → IsAmong x ys × (test x ≡ true)) → IsAmong x (filter test ys) → IsAmong x (y ∷ ys) × (test x ≡ true)
    later rec k = let r = rec k in ((suc r.0.0, r.0.1), r.1)

    kept : (IsAmong x (filter test ys) → IsAmong x ys × (test x ≡ true)) → test y ≡ true → IsAmong x (y ∷ filter test ys) → IsAmong x (y ∷ ys) × (test x ≡ true)
    kept rec t (zero, e) = let f : y ≡ x = cc in ((0, ap Some f), ap test (sym f) ∙ t)
    kept rec t (suc k, e) = later rec (k, e)

-- something in a list passes a test that some of it passes
pub some_passes : {A : Type 0} (test : A → Bool) (xs : List A) → list_any test xs ≡ true → (x : A) × IsAmong x xs × (test x ≡ true)
some_passes test [] h = absurd (cc)
some_passes {A = A} test (y ∷ ys) h = known (test y)
    (λ t. (y, (0, refl), t))
    (λ f. let r = some_passes test ys (sym (ap (λ (b : Bool). b || list_any test ys) f) ∙ h) in (r.0, (suc r.1.0, r.1.1), r.2))

-- what a function makes of an item
pub map_at : {A B : Type 0} (f : A → B) (xs : List A) (n : ℕ) (x : A) → slice_get xs n ≡ Some x → slice_get (map f xs) n ≡ Some (f x)
map_at f [] n x e = absurd (cc)
map_at f (y ∷ xs) zero x e = let q : y ≡ x = cc in ap (λ z. Some (f z)) q
map_at f (y ∷ xs) (suc n) x e = map_at f xs n x e
