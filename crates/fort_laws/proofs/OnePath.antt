-- The paths of a unit in order are one list.
use Rattle.std.proofs.Common.{◌≡◌, ℕ, zero, suc, List, [], ◌∷◌, Some, slice_get, refl, sym, ap, ◌∙◌, subst}
use Rattle.std.specs.List.{concat}
use Rattle.std.proofs.lemmas.Cmp.{nat_list_cmp_total}
use Rattle.fort_syntax.specs.declared.unit.Unit.{Unit as Routine}
use Rattle.fort_model.specs.Conditions.{are_all_paths}
use Rattle.fort_model.specs.Lists.{IsAmong}
use Rattle.fort_model.specs.OnePath.{PathsAreOne, AllPathsAreOne}
use Rattle.fort_model.specs.Paths.{Path, comes_before, ascend_from, Ascend}
use Rattle.fort_model.specs.Program.{Program, notes_of}

-- ---- the order of paths

abbrev key : Path → List ℕ
key a = a.start ∷ concat a.choices

before_through : (a b c : Path) → comes_before a b → comes_before b c → comes_before a c
before_through a b c h k = nat_list_cmp_total.trans (key a) (key b) (key c) h k

not_before_itself : (a : Path) → comes_before a a → ⊥
not_before_itself a h = let back = nat_list_cmp_total.antisymm (key a) (key a) in absurd cc

-- what stands in a list that ascends behind a path comes behind it
before_all : (a : Path) (ps : List Path) → ascend_from a ps → (k : ℕ) (x : Path) → slice_get ps k ≡ Some x → comes_before a x
before_all a [] h k x e = absurd cc
before_all a (b ∷ ps) h zero x e = let f : b ≡ x = cc in subst (comes_before a) f h.0
before_all a (b ∷ ps) h (suc k) x e = before_through a b x h.0 (before_all b ps h.1 k x e)

behind_ascends : (a : Path) (ps : List Path) → ascend_from a ps → Ascend ps
behind_ascends a [] h = tt
behind_ascends a (b ∷ ps) h = h.1

-- ---- lists with the same paths

abbrev AreSame : List Path → List Path → Type 0
AreSame ps qs = (x : Path) → (IsAmong x ps → IsAmong x qs) × (IsAmong x qs → IsAmong x ps)

same_head : (a b : Path) (ps qs : List Path) → ascend_from a ps → ascend_from b qs → IsAmong a (b ∷ qs) → IsAmong b (a ∷ ps) → a ≡ b
same_head a b ps qs h k (zero, e) m = cc
same_head a b ps qs h k (suc i, e) (zero, f) = cc
same_head a b ps qs h k (suc i, e) (suc j, f) =
    absurd (not_before_itself a (before_through a b a (before_all a ps h j b f) (before_all b qs k i a e)))

same_tail : (a : Path) (ps qs : List Path) → ascend_from a ps → AreSame (a ∷ ps) (a ∷ qs) → (x : Path) → IsAmong x ps → IsAmong x qs
same_tail a ps qs h s x (k, e) = go ((s x).0 (suc k, e))
  where
    go : IsAmong x (a ∷ qs) → IsAmong x qs
    go (zero, f) = let i : a ≡ x = cc in absurd (not_before_itself a (subst (comes_before a) (sym i) (before_all a ps h k x e)))
    go (suc j, f) = (j, f)

one_list : (ps qs : List Path) → Ascend ps → Ascend qs → AreSame ps qs → ps ≡ qs
one_list [] [] h k s = refl
one_list [] (b ∷ qs) h k s = let m = (s b).1 (0, refl) in absurd (nothing m)
  where
    nothing : IsAmong b [] → ⊥
    nothing (i, e) = absurd cc
one_list (a ∷ ps) [] h k s = let m = (s a).0 (0, refl) in absurd (nothing m)
  where
    nothing : IsAmong a [] → ⊥
    nothing (i, e) = absurd cc
one_list (a ∷ ps) (b ∷ qs) h k s =
    go (same_head a b ps qs h k ((s a).0 (0, refl)) ((s b).1 (0, refl))) (λ rs v t. one_list ps rs (behind_ascends a ps h) v t)
  where
    go : a ≡ b → ((rs : List Path) → Ascend rs → AreSame ps rs → ps ≡ rs) → (a ∷ ps) ≡ (b ∷ qs)
    go e rec =
        let k' : ascend_from a qs = subst (λ (z : Path). ascend_from z qs) (sym e) k in
        let s' : AreSame (a ∷ ps) (a ∷ qs) = subst (λ (z : Path). AreSame (a ∷ ps) (z ∷ qs)) (sym e) s in
        let rest = rec qs (behind_ascends a qs k') (λ x. (same_tail a ps qs h s' x, same_tail a qs ps k' (λ y. ((s' y).1, (s' y).0)) x)) in
        ap (λ (z : Path). z ∷ ps) e ∙ ap (λ (l : List Path). b ∷ l) rest

pub paths_are_one : PathsAreOne
paths_are_one dialect u notes ps qs h k =
    one_list ps qs h.ascending k.ascending (λ x. (λ m. (k.whole x).0 ((h.whole x).1 m), λ m. (h.whole x).0 ((k.whole x).1 m)))

all_are_one : (p : Program) (i : ℕ) (us : List Routine) (pss qss : List (List Path)) → are_all_paths p i us pss → are_all_paths p i us qss → pss ≡ qss
all_are_one p i [] [] [] h k = refl
all_are_one p i [] [] (qs ∷ qss) h k = absurd k
all_are_one p i [] (ps ∷ pss) qss h k = absurd h
all_are_one p i (u ∷ us) [] qss h k = absurd h
all_are_one p i (u ∷ us) (ps ∷ pss) [] h k = absurd k
all_are_one p i (u ∷ us) (ps ∷ pss) (qs ∷ qss) h k =
    ap (λ (x : List Path). x ∷ pss) (paths_are_one p.dialect u (notes_of p i) ps qs h.0 k.0)
    ∙ ap (λ (xs : List (List Path)). qs ∷ xs) (all_are_one p (suc i) us pss qss h.1 k.1)

pub all_paths_are_one : AllPathsAreOne
all_paths_are_one p pss qss h k = all_are_one p 0 p.units pss qss h k
