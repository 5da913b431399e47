-- Names among names.
use Rattle.std.proofs.Common.{◌≡◌, Bool, true, false, List, [], ◌∷◌, ◌++◌, refl, sym, ap, ◌∙◌}
use Rattle.std.specs.Prelude.{◌||◌}
use Rattle.std.specs.List.{list_any}
use Rattle.formula.specs.Atoms.{same_bytes, is_among}
use Rattle.fort_syntax.specs.declared.name.Name.{Name}

pub or_assoc : (a b c : Bool) → ((a || b) || c) ≡ (a || (b || c))
or_assoc true b c = refl
or_assoc false b c = refl

pub any_both : {X : Type 0} (test : X → Bool) (xs ys : List X) → list_any test (xs ++ ys) ≡ (list_any test xs || list_any test ys)
any_both test [] ys = refl
any_both test (x ∷ xs) ys = ap (λ b. test x || b) (any_both test xs ys) ∙ sym (or_assoc (test x) (list_any test xs) (list_any test ys))

pub among_both : (x : Name) (xs ys : List Name) → is_among x (xs ++ ys) ≡ (is_among x xs || is_among x ys)
among_both x xs ys = any_both (same_bytes x) xs ys

pub among_four : (x : Name) (a b c d : List Name)
    → is_among x (a ++ b ++ c ++ d) ≡ (is_among x a || is_among x b || is_among x c || is_among x d)
among_four x a b c d =
    among_both x (a ++ b ++ c) d
    ∙ ap (λ e. e || is_among x d) (among_both x (a ++ b) c ∙ ap (λ e. e || is_among x c) (among_both x a b))
