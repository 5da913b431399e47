-- Tests that are true, of parts and of what stands in lists.
use Rattle.std.proofs.Common.{◌≡◌, zero, suc, ◌⊎◌, inl, inr, Bool, true, false, not, ◌||◌, List, [], ◌∷◌, flat_map, Some, refl, sym, ap, ◌∙◌}
use Rattle.std.specs.List.{list_all}
use Rattle.fort_model.specs.Lists.{IsAmong}
use Rattle.fort_laws.proofs.References.{among_either}
use Rattle.fort_laws.proofs.RulesKept.{split}

pub one_holds : (a b : Bool) → (a || b) ≡ true → a ≡ false → b ≡ true
one_holds true b h e = absurd (cc)
one_holds false b h e = h

pub not_so : (b : Bool) → not b ≡ true → b ≡ false
not_so true h = absurd (cc)
not_so false h = refl

pub all_among : {A : Type 0} (test : A → Bool) (xs : List A) (x : A) → list_all test xs ≡ true → IsAmong x xs → test x ≡ true
all_among test [] x h m = absurd (cc)
all_among test (y ∷ ys) x h (zero, e) = let f : y ≡ x = cc in ap test (sym f) ∙ (split (test y) (list_all test ys) h).0
all_among test (y ∷ ys) x h (suc k, e) = all_among test ys x (split (test y) (list_all test ys) h).1 (k, e)

pub one_item : {A : Type 0} {a b : A} → Some a ≡ Some b → a ≡ b
one_item h = cc

-- what stands in what some things give together is given by one of them
pub among_given : {A B : Type 0} (give : A → List B) (xs : List A) (y : B) → IsAmong y (flat_map give xs) → (x : A) × IsAmong x xs × IsAmong y (give x)
among_given give [] y m = absurd (cc)
among_given {A = A} give (x ∷ xs) y m = pick (among_either y (give x) (flat_map give xs) m) (among_given give xs y)
  where
    pick : IsAmong y (give x) ⊎ IsAmong y (flat_map give xs) → (IsAmong y (flat_map give xs) → (z : A) × IsAmong z xs × IsAmong y (give z)) → (z : A) × IsAmong z (x ∷ xs) × IsAmong y (give z)
    pick (inl a) rec = (x, (0, refl), a)
    pick (inr b) rec = let r = rec b in (r.0, (suc r.1.0, r.1.1), r.2)
