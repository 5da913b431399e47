-- What is among sets of names.
use Rattle.std.proofs.Common.{◌≡◌, Bool, true, false, cond, ◌&&◌, ◌||◌, List, [], ◌∷◌, ◌++◌, refl, sym, ap, ◌∙◌}
use Rattle.std.specs.List.{filter}
use Rattle.std.specs.Cmp.Lexicographic.{same_text}
use Rattle.formula.specs.Atoms.{is_among, same_bytes}
use Rattle.fort_syntax.specs.declared.name.Name.{Name}
use Rattle.fort_laws.proofs.Near.{known}
use Rattle.name_tables.specs.Sets.{with_name, with_names}

-- among two lists
pub among_both : (x : Name) (xs ys : List Name) → is_among x (xs ++ ys) ≡ (is_among x xs || is_among x ys)
among_both x [] ys = refl
among_both x (z ∷ xs) ys = ap (λ (b : Bool). same_bytes x z || b) (among_both x xs ys) ∙ grouped (same_bytes x z) (is_among x xs) (is_among x ys)
  where
    grouped : (a b c : Bool) → (a || (b || c)) ≡ ((a || b) || c)
    grouped true b c = refl
    grouped false b c = refl

none_more : (a : Bool) → (a || false) ≡ a
none_more true = refl
none_more false = refl

-- among a set with one more name
pub among_one_more : (x : Name) (xs : List Name) (y : Name) → is_among x (with_name xs y) ≡ (is_among x xs || same_bytes x y)
among_one_more x xs y = known (is_among y xs)
    (λ t. ap (λ (b : Bool). is_among x (cond b xs (xs ++ y ∷ []))) t ∙ there t (same_bytes x y) refl)
    (λ f. ap (λ (b : Bool). is_among x (cond b xs (xs ++ y ∷ []))) f ∙ (among_both x xs (y ∷ []) ∙ ap (λ (b : Bool). is_among x xs || b) (none_more (same_bytes x y))))
  where
    all_true : (a : Bool) → a ≡ true → a ≡ (a || true)
    all_true a h = h ∙ sym (right_true a)
      where
        right_true : (b : Bool) → (b || true) ≡ true
        right_true true = refl
        right_true false = refl

    there : is_among y xs ≡ true → (b : Bool) → same_bytes x y ≡ b → is_among x xs ≡ (is_among x xs || b)
    there t true e = all_true (is_among x xs) (ap (λ (z : Name). is_among z xs) (same_text x y (sym e)) ∙ t)
    there t false e = sym (none_more (is_among x xs))

pub among_more : (x : Name) (xs ys : List Name) → is_among x (with_names xs ys) ≡ (is_among x xs || is_among x ys)
among_more x xs [] = sym (none_more (is_among x xs))
among_more x xs (y ∷ ys) =
    among_more x (with_name xs y) ys
    ∙ (ap (λ (b : Bool). b || is_among x ys) (among_one_more x xs y) ∙ grouped (is_among x xs) (same_bytes x y) (is_among x ys))
  where
    grouped : (a b c : Bool) → ((a || b) || c) ≡ (a || (b || c))
    grouped true b c = refl
    grouped false b c = refl

-- among what a filter keeps
pub among_kept : (test : Name → Bool) (x : Name) (xs : List Name) → is_among x (filter test xs) ≡ (is_among x xs && test x)
among_kept test x [] = refl
among_kept test x (y ∷ ys) = by_name (among_kept test x ys) (same_bytes x y) refl (test y) refl
  where
    by_name : is_among x (filter test ys) ≡ (is_among x ys && test x) → (b : Bool) → same_bytes x y ≡ b → (t : Bool) → test y ≡ t
        → is_among x (cond (test y) (y ∷ filter test ys) (filter test ys)) ≡ ((same_bytes x y || is_among x ys) && test x)
    by_name rest true e true f =
        ap (λ (t : Bool). is_among x (cond t (y ∷ filter test ys) (filter test ys))) f
        ∙ (ap (λ (b : Bool). b || is_among x (filter test ys)) e ∙ sym (ap (λ (b : Bool). (b || is_among x ys) && test x) e ∙ (ap test (same_text x y (sym e)) ∙ f)))
    by_name rest true e false f =
        ap (λ (t : Bool). is_among x (cond t (y ∷ filter test ys) (filter test ys))) f
        ∙ (rest ∙ (none (is_among x ys) (test x) off ∙ sym (ap (λ (b : Bool). (b || is_among x ys) && test x) e ∙ off)))
      where
        off : test x ≡ false
        off = ap test (same_text x y (sym e)) ∙ f

        none : (a b : Bool) → b ≡ false → (a && b) ≡ false
        none true b h = h
        none false b h = refl
    by_name rest false e true f =
        ap (λ (t : Bool). is_among x (cond t (y ∷ filter test ys) (filter test ys))) f
        ∙ (ap (λ (b : Bool). b || is_among x (filter test ys)) e ∙ (rest ∙ sym (ap (λ (b : Bool). (b || is_among x ys) && test x) e)))
    by_name rest false e false f =
        ap (λ (t : Bool). is_among x (cond t (y ∷ filter test ys) (filter test ys))) f ∙ (rest ∙ sym (ap (λ (b : Bool). (b || is_among x ys) && test x) e))
