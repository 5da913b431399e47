-- Names among names.
use Rattle.std.proofs.Common.{◌≡◌, ℕ, Bool, true, false, cond, List, [], ◌∷◌, ◌++◌, refl, sym, ap, ◌∙◌, subst, rules, arith}
use Rattle.std.specs.Prelude.{◌&&◌, not, nat_eq}
use Rattle.formula.specs.Atoms.{same_bytes, is_among, has_twin}
use Rattle.fort_syntax.specs.Scopes.{do_meet, kept, once}
use Rattle.fort_syntax.specs.declared.name.Name.{Name}
use Rattle.deck_laws.proofs.Tests.{clash, is_false, case, first_false, second_false, both_false, not_false, of_not_true}
use Rattle.deck_laws.proofs.Members.{IsIn, here, there, in_either, either, in_kept, kept_in, none_of, none_are, some_in, in_some}

more_letters : (b : Bool) (c d : ℕ) (cs ds : Name) → nat_eq c d ≡ b → (same_bytes cs ds ≡ true → cs ≡ ds)
    → (b && same_bytes cs ds) ≡ true → c ∷ cs ≡ d ∷ ds
more_letters true c d cs ds e rest h =
    let heads : c ≡ d = grind (arith, e) in let tails = rest h in λ i. heads i ∷ tails i
more_letters false c d cs ds e rest h = search rules

-- two names with the same letters are one name
pub same_names : (x y : Name) → same_bytes x y ≡ true → x ≡ y
same_names [] [] h = refl
same_names [] (d ∷ ds) h = search rules
same_names (c ∷ cs) [] h = search rules
same_names (c ∷ cs) (d ∷ ds) h = more_letters (nat_eq c d) c d cs ds refl (same_names cs ds) h

same_letter : (c : ℕ) → nat_eq c c ≡ true
same_letter c = grind arith

pub same_self : (x : Name) → same_bytes x x ≡ true
same_self [] = refl
same_self (c ∷ cs) = ap (λ b. b && same_bytes cs cs) (same_letter c) ∙ same_self cs

pub are_same : (x y : Name) → x ≡ y → same_bytes x y ≡ true
are_same x y e = ap (same_bytes x) (sym e) ∙ same_self x

pub are_others : (x y : Name) → (x ≡ y → ⊥) → same_bytes x y ≡ false
are_others x y h = is_false (same_bytes x y) (λ t. h (same_names x y t))

-- ---- members

pub among_in : (x : Name) (xs : List Name) → is_among x xs ≡ true → IsIn x xs
among_in x xs h = let m = some_in (same_bytes x) xs h in subst (λ y. IsIn y xs) (sym (same_names x m.0 m.2)) m.1

pub in_among : (x : Name) (xs : List Name) → IsIn x xs → is_among x xs ≡ true
in_among x xs m = in_some (same_bytes x) xs m (same_self x)

pub not_in : (x : Name) (xs : List Name) → is_among x xs ≡ false → ¬ IsIn x xs
not_in x xs h m = clash (in_among x xs m) h

pub not_among : (x : Name) (xs : List Name) → ¬ IsIn x xs → is_among x xs ≡ false
not_among x xs h = is_false (is_among x xs) (λ t. h (among_in x xs t))

pub do_not_meet : (xs ys : List Name) → ((x : Name) → IsIn x xs → ¬ IsIn x ys) → do_meet xs ys ≡ false
do_not_meet xs ys h = none_are (λ x. is_among x ys) xs (λ x m. not_among x ys (h x m))

pub meet_not : (xs ys : List Name) → do_meet xs ys ≡ false → (x : Name) → IsIn x xs → ¬ IsIn x ys
meet_not xs ys h x m = not_in x ys (none_of (λ y. is_among y ys) xs h m)

-- ---- once

pub once_in : (x : Name) (xs : List Name) → IsIn x (once xs) → IsIn x xs
once_in x [] h = elim h [ ]
once_in x (y ∷ xs) (here e) = here e
once_in x (y ∷ xs) (there h) = there (once_in x xs (kept_in (λ z. not (same_bytes y z)) (once xs) h).0)

pub in_once : (x : Name) (xs : List Name) → IsIn x xs → IsIn x (once xs)
in_once x [] h = elim h [ ]
in_once x (y ∷ xs) (here e) = here e
in_once x (y ∷ xs) (there h) =
    case (same_bytes y x) (λ t. here (same_names y x t))
    (λ f. there (in_kept (λ z. not (same_bytes y z)) (once xs) (in_once x xs h) (not_false f)))

-- a list without twins, with some left out
pub kept_without_twin : (test : Name → Bool) (xs : List Name) → has_twin xs ≡ false → has_twin (kept test xs) ≡ false
kept_without_twin test [] h = refl
kept_without_twin test (x ∷ xs) h =
    if_kept (test x)
    (not_among x (kept test xs) (λ m. not_in x xs (first_false (is_among x xs) (has_twin xs) h) (kept_in test xs m).0))
    (kept_without_twin test xs (second_false (is_among x xs) (has_twin xs) h))
  where
    if_kept : (t : Bool) → is_among x (kept test xs) ≡ false → has_twin (kept test xs) ≡ false
        → has_twin (cond t (x ∷ []) [] ++ kept test xs) ≡ false
    if_kept true a b = both_false a b
    if_kept false a b = b

pub once_without_twin : (xs : List Name) → has_twin (once xs) ≡ false
once_without_twin [] = refl
once_without_twin (x ∷ xs) =
    both_false (not_among x (kept (λ z. not (same_bytes x z)) (once xs))
    (λ m. clash (same_self x) (of_not_true (kept_in (λ z. not (same_bytes x z)) (once xs) m).1)))
    (kept_without_twin (λ z. not (same_bytes x z)) (once xs) (once_without_twin xs))

-- two lists without twins that do not meet
pub joined_without_twin : (xs ys : List Name) → has_twin xs ≡ false → has_twin ys ≡ false
    → ((x : Name) → IsIn x xs → ¬ IsIn x ys)
    → has_twin (xs ++ ys) ≡ false
joined_without_twin [] ys h k apart = k
joined_without_twin (x ∷ xs) ys h k apart =
    both_false (not_among x (xs ++ ys)
    (λ m. either (in_either xs ys m) (not_in x xs (first_false (is_among x xs) (has_twin xs) h))
    (apart x (here refl))))
    (joined_without_twin xs ys (second_false (is_among x xs) (has_twin xs) h) k (λ y m. apart y (there m)))
