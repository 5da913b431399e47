-- A set that names are put into keeps each once, in order of its first place.
use Rattle.std.proofs.Common.{◌≡◌, Bool, true, false, List, [], ◌∷◌, ◌++◌, refl, sym, ap, ◌∙◌, append_assoc, append-nil}
use Rattle.std.specs.Prelude.{◌||◌, ◌&&◌, not, cond}
use Rattle.formula.specs.Atoms.{same_bytes, is_among}
use Rattle.fort_syntax.specs.Scopes.{kept, once}
use Rattle.fort_syntax.specs.Units.{gathered}
use Rattle.fort_syntax.specs.declared.name.Name.{Name}
use Rattle.fort_syntax.specs.declared.stmt.Stmt.{Stmt}
use Rattle.fort_syntax.specs.declared.unit.Line.{Line}
use Rattle.name_tables.specs.Sets.{with_name, with_names}
use Rattle.decl_faults.specs.Commons.{given_from}
use Rattle.name_tables.proofs.Told.{swapped}
use Rattle.decl_faults.proofs.NameScanned.{with_name_of}

one_kept : (p q : Name → Bool) (x : Name) (b : Bool) (rest more : List Name) → q x ≡ b → kept p rest ≡ more
    → kept p (cond b (x ∷ []) [] ++ rest) ≡ cond (b && p x) (x ∷ []) [] ++ more
one_kept p q x true rest more e h = ap (λ ys. cond (p x) (x ∷ []) [] ++ ys) h
one_kept p q x false rest more e h = h

kept_twice : (p q : Name → Bool) (xs : List Name) → kept p (kept q xs) ≡ kept (λ y. q y && p y) xs
kept_twice p q [] = refl
kept_twice p q (x ∷ xs) = one_kept p q x (q x) (kept q xs) (kept (λ y. q y && p y) xs) refl (kept_twice p q xs)

kept_all : (xs : List Name) → kept (λ y. true) xs ≡ xs
kept_all [] = refl
kept_all (x ∷ xs) = ap (λ ys. x ∷ ys) (kept_all xs)

none_of : (m e : Bool) → not (m || e) ≡ (not e && not m)
none_of true true = refl
none_of true false = refl
none_of false true = refl
none_of false false = refl

-- what is not in a set with one more name
left : (set : List Name) (x : Name) (ys : List Name)
    → kept (λ y. not (is_among y (with_name set x))) ys ≡ kept (λ y. not (is_among y set)) (kept (λ y. not (same_bytes x y)) ys)
left set x ys =
    (λ i. kept (λ y. (ap not (with_name_of set x y) ∙ none_of (is_among y set) (same_bytes y x) ∙ ap (λ b. not b && not (is_among y set)) (swapped y x)) i) ys)
    ∙ sym (kept_twice (λ y. not (is_among y set)) (λ y. not (same_bytes x y)) ys)

begun : (b : Bool) (set : List Name) (x : Name) (rest : List Name) → cond b set (set ++ x ∷ []) ++ rest ≡ set ++ cond (not b) (x ∷ []) [] ++ rest
begun true set x rest = ap (λ ys. ys ++ rest) (sym (append-nil set))
begun false set x rest = refl

set_of : (set xs : List Name) → with_names set xs ≡ set ++ kept (λ y. not (is_among y set)) (once xs)
set_of set [] = sym (append-nil set)
set_of set (x ∷ xs) =
    set_of (with_name set x) xs
    ∙ ap (λ ys. with_name set x ++ ys) (left set x (once xs))
    ∙ begun (is_among x set) set x (kept (λ y. not (is_among y set)) (kept (λ y. not (same_bytes x y)) (once xs)))
    ∙ append_assoc set (cond (not (is_among x set)) (x ∷ []) []) (kept (λ y. not (is_among y set)) (kept (λ y. not (same_bytes x y)) (once xs)))

with_both : (set xs ys : List Name) → with_names set (xs ++ ys) ≡ with_names (with_names set xs) ys
with_both set [] ys = refl
with_both set (x ∷ xs) ys = with_both (with_name set x) xs ys

given_is : (give : Stmt → List Name) (set : List Name) (lines : List Line) → given_from give set lines ≡ with_names set (gathered give lines)
given_is give set [] = refl
given_is give set (line ∷ lines) =
    given_is give (with_names set (give line.stmt)) lines ∙ sym (with_both set (give line.stmt) (gathered give lines))

-- each name that statements give, once
pub given_once : (give : Stmt → List Name) (lines : List Line) → given_from give [] lines ≡ once (gathered give lines)
given_once give lines = given_is give [] lines ∙ set_of [] (gathered give lines) ∙ kept_all (once (gathered give lines))
