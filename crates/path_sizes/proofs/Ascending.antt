-- An ascending list of things that stand in another is no longer than that.
use Rattle.std.proofs.Common.{◌≡◌, ℕ, zero, suc, ◌≤◌, List, [], ◌∷◌, Some, length, slice_get, refl, sym, subst, arith}
use Rattle.std.specs.List.{concat}
use Rattle.std.proofs.lemmas.Cmp.{nat_list_cmp_total}
use Rattle.fort_model.specs.Lists.{IsAmong}
use Rattle.fort_model.specs.Paths.{Path, comes_before, ascend_from, Ascend}

abbrev key : Path → List ℕ
key a = a.start ∷ concat a.choices

before_through : (a b c : Path) → comes_before a b → comes_before b c → comes_before a c
before_through a b c h k = nat_list_cmp_total.trans (key a) (key b) (key c) h k

not_before_itself : (a : Path) → comes_before a a → ⊥
not_before_itself a h = let back = nat_list_cmp_total.antisymm (key a) (key a) in absurd cc

before_all : (a : Path) (ps : List Path) → ascend_from a ps → (k : ℕ) (x : Path) → slice_get ps k ≡ Some x → comes_before a x
before_all a [] h k x e = absurd cc
before_all a (b ∷ ps) h zero x e = let f : b ≡ x = cc in subst (comes_before a) f h.0
before_all a (b ∷ ps) h (suc k) x e = before_through a b x h.0 (before_all b ps h.1 k x e)

behind_ascends : (a : Path) (ps : List Path) → ascend_from a ps → Ascend ps
behind_ascends a [] h = tt
behind_ascends a (b ∷ ps) h = h.1

-- what stands behind the first of an ascending list and in another stands behind the first of that, where the firsts are in order
behind_first : (b : Path) (qs : List Path) (x : Path) → comes_before b x → IsAmong x (b ∷ qs) → IsAmong x qs
behind_first b qs x lt (zero, e) = let f : b ≡ x = cc in absurd (not_before_itself b (subst (comes_before b) (sym f) lt))
behind_first b qs x lt (suc k, e) = (k, e)

one_more : (n m : ℕ) → n ≤ m → suc n ≤ suc m
one_more n m le = omega arith

no_less : (n m : ℕ) → n ≤ m → n ≤ suc m
no_less n m le = omega arith

nothing_in : {C : Type 0} (a : Path) → IsAmong a [] → C
nothing_in a (k, e) = absurd cc

pub no_longer : (qs ps : List Path) → Ascend ps → Ascend qs → ((x : Path) → IsAmong x ps → IsAmong x qs) → length ps ≤ length qs
no_longer [] [] h k s = omega arith
no_longer [] (a ∷ ps) h k s = nothing_in a (s a (0, refl))
no_longer (b ∷ qs) [] h k s = omega arith
no_longer (b ∷ qs) (a ∷ ps) h k s = by (s a (0, refl)) (λ rs v t. no_longer qs rs v (behind_ascends b qs k) t)
  where
    by : IsAmong a (b ∷ qs) → ((rs : List Path) → Ascend rs → ((x : Path) → IsAmong x rs → IsAmong x qs) → length rs ≤ length qs) → length (a ∷ ps) ≤ length (b ∷ qs)
    by (zero, e) rec =
        let f : b ≡ a = cc in
        one_more (length ps) (length qs)
        (rec ps (behind_ascends a ps h) (λ x m. behind_first b qs x (subst (λ z. comes_before z x) (sym f) (before_all a ps h m.0 x m.1)) (s x (suc m.0, m.1))))
    by (suc j, e) rec =
        let first = before_all b qs k j a e in
        no_less (length (a ∷ ps)) (length qs) (rec (a ∷ ps) h (λ x m. behind_first b qs x (after x m first) (s x m)))
      where
        after : (x : Path) → IsAmong x (a ∷ ps) → comes_before b a → comes_before b x
        after x (zero, e) lt = let f : a ≡ x = cc in subst (comes_before b) f lt
        after x (suc i, e) lt = before_through b a x lt (before_all a ps h i x e)
