-- Names that are kept one after another.
use Rattle.std.proofs.Common.{◌≡◌, ℕ, zero, suc, ◌<◌, Bool, true, false, cond, ◌||◌, ◌&&◌, List, [], ◌∷◌, ◌++◌, map, length, drop, get_or, refl, sym, ap, ◌∙◌, append_assoc, arith}
use Rattle.std.specs.List.{filter, list_any}
use Rattle.std.specs.Cmp.Lexicographic.{same_text, nat_list_eq_equiv}
use Rattle.formula.specs.Atoms.{is_among, same_bytes}
use Rattle.fort_syntax.specs.declared.name.Name.{Name}
use Rattle.fort_syntax.specs.Names.{commons}
use Rattle.fort_syntax.specs.declared.unit.DataName.{DataName}
use Rattle.fort_syntax.specs.declared.unit.Unit.{Unit as Routine}
use Rattle.name_tables.specs.Sets.{with_name}
use Rattle.start_lists.specs.Smashed.{has_kind, names_of_kind}

pub or_false : (b : Bool) → (b || false) ≡ b
or_false true = refl
or_false false = refl

or_assoc : (a b c : Bool) → ((a || b) || c) ≡ (a || (b || c))
or_assoc true b c = refl
or_assoc false b c = refl

among_more : (y x : Name) (xs : List Name) → is_among y (xs ++ x ∷ []) ≡ (is_among y xs || same_bytes y x)
among_more y x [] = or_false (same_bytes y x)
among_more y x (z ∷ xs) = ap (λ (b : Bool). same_bytes y z || b) (among_more y x xs) ∙ sym (or_assoc (same_bytes y z) (is_among y xs) (same_bytes y x))

absorbed : (x y : Name) (xs : List Name) (b : Bool) → is_among y xs ≡ true → same_bytes x y ≡ b → is_among x xs ≡ (is_among x xs || b)
absorbed x y xs true e s = ap (λ (z : Name). is_among z xs) (same_text x y (sym s)) ∙ (e ∙ sym (or_true (is_among x xs)))
  where
    or_true : (b : Bool) → (b || true) ≡ true
    or_true true = refl
    or_true false = refl
absorbed x y xs false e s = sym (or_false (is_among x xs))

-- a name is among a set with one more
pub among_with : (x y : Name) (xs ys : List Name) → ys ≡ with_name xs y → is_among x ys ≡ (is_among x xs || same_bytes x y)
among_with x y xs ys e = ap (is_among x) e ∙ by (is_among y xs) refl
  where
    by : (b : Bool) → is_among y xs ≡ b → is_among x (cond b xs (xs ++ y ∷ [])) ≡ (is_among x xs || same_bytes x y)
    by true t = absorbed x y xs (same_bytes x y) t refl
    by false t = among_more x y xs

-- one more of some things was tested
pub any_step : {A : Type 0} (f : A → Bool) (a b : Bool) (xs : List A) (k n : ℕ) (y : A) → k < length xs → y ≡ get_or xs k y → n ≡ suc k → b ≡ (a || f y)
    → (b || list_any f (drop n xs)) ≡ (a || list_any f (drop k xs))
any_step f a b xs k n y lt is e h = (λ i. h i || list_any f (drop (e i) xs)) ∙ (or_assoc a (f y) (list_any f (drop (suc k) xs)) ∙ ap (λ (c : Bool). a || c) (at xs k lt is))
  where
    at : (xs : List _) (k : ℕ) → k < length xs → y ≡ get_or xs k y → (f y || list_any f (drop (suc k) xs)) ≡ list_any f (drop k xs)
    at [] k lt is = absurd (omega arith)
    at (x ∷ xs) zero lt is = ap (λ (z : _). f z || list_any f xs) is
    at (x ∷ xs) (suc k) lt is = at xs k (omega arith) is

-- one more of some names was kept or not
pub keep_step : (f : Name → Bool) (out next xs : List Name) (k n : ℕ) (y : Name) (b : Bool) → k < length xs → y ≡ get_or xs k y → n ≡ suc k → b ≡ f y
    → next ≡ out ++ cond b (y ∷ []) [] → next ++ filter f (drop n xs) ≡ out ++ filter f (drop k xs)
keep_step f out next xs k n y b lt is e test h =
    (λ i. h i ++ filter f (drop (e i) xs))
    ∙ (append_assoc out (cond b (y ∷ []) []) (filter f (drop (suc k) xs))
    ∙ ((λ i. out ++ (cond (test i) (y ∷ []) [] ++ filter f (drop (suc k) xs)))
    ∙ ap (λ (ys : List Name). out ++ ys) (at xs k lt is)))
  where
    by : (x : Name) (xs : List Name) (b : Bool) → f x ≡ b → cond b (x ∷ []) [] ++ filter f xs ≡ filter f (x ∷ xs)
    by x xs true t = sym (ap (λ (c : Bool). cond c (x ∷ filter f xs) (filter f xs)) t)
    by x xs false t = sym (ap (λ (c : Bool). cond c (x ∷ filter f xs) (filter f xs)) t)

    at : (xs : List Name) (k : ℕ) → k < length xs → y ≡ get_or xs k y → cond (f y) (y ∷ []) [] ++ filter f (drop (suc k) xs) ≡ filter f (drop k xs)
    at [] k lt is = absurd (omega arith)
    at (x ∷ xs) zero lt is = ap (λ (z : Name). cond (f z) (z ∷ []) [] ++ filter f xs) is ∙ by x xs (f x) refl
    at (x ∷ xs) (suc k) lt is = at xs k (omega arith) is

-- one more of some data names was kept or not
pub kind_step : (f : Name → Bool) (value : Bool) (out next : List Name) (ds : List DataName) (k n : ℕ) (d : DataName) (b : Bool) → k < length ds → d ≡ get_or ds k d → n ≡ suc k
    → b ≡ (has_kind value d.role && f d.name) → next ≡ out ++ cond b (d.name ∷ []) []
    → next ++ filter f (names_of_kind value (drop n ds)) ≡ out ++ filter f (names_of_kind value (drop k ds))
kind_step f value out next ds k n d b lt is e test h =
    (λ i. h i ++ filter f (names_of_kind value (drop (e i) ds)))
    ∙ (append_assoc out (cond b (d.name ∷ []) []) (filter f (names_of_kind value (drop (suc k) ds)))
    ∙ ((λ i. out ++ (cond (test i) (d.name ∷ []) [] ++ filter f (names_of_kind value (drop (suc k) ds))))
    ∙ ap (λ (ys : List Name). out ++ ys) (at ds k lt is)))
  where
    by : (x : DataName) (xs : List DataName) (b c : Bool) → has_kind value x.role ≡ b → f x.name ≡ c
        → cond (b && c) (x.name ∷ []) [] ++ filter f (names_of_kind value xs) ≡ filter f (map (λ (y : DataName). y.name) (cond b (x ∷ filter (λ (y : DataName). has_kind value y.role) xs) (filter (λ (y : DataName). has_kind value y.role) xs)))
    by x xs true true t s = sym (ap (λ (c : Bool). cond c (x.name ∷ filter f (names_of_kind value xs)) (filter f (names_of_kind value xs))) s)
    by x xs true false t s = sym (ap (λ (c : Bool). cond c (x.name ∷ filter f (names_of_kind value xs)) (filter f (names_of_kind value xs))) s)
    by x xs false c t s = refl

    at : (ds : List DataName) (k : ℕ) → k < length ds → d ≡ get_or ds k d
        → cond (has_kind value d.role && f d.name) (d.name ∷ []) [] ++ filter f (names_of_kind value (drop (suc k) ds)) ≡ filter f (names_of_kind value (drop k ds))
    at [] k lt is = absurd (omega arith)
    at (x ∷ xs) zero lt is =
        ap (λ (z : DataName). cond (has_kind value z.role && f z.name) (z.name ∷ []) [] ++ filter f (names_of_kind value xs)) is
        ∙ by x xs (has_kind value x.role) (f x.name) refl refl
    at (x ∷ xs) (suc k) lt is = at xs k (omega arith) is

-- names of four lists are kept one list after another
kept_both : (f : Name → Bool) (xs ys : List Name) → filter f xs ++ filter f ys ≡ filter f (xs ++ ys)
kept_both f [] ys = refl
kept_both f (x ∷ xs) ys = by (f x) (kept_both f xs ys)
  where
    by : (b : Bool) → filter f xs ++ filter f ys ≡ filter f (xs ++ ys) → cond b (x ∷ filter f xs) (filter f xs) ++ filter f ys ≡ cond b (x ∷ filter f (xs ++ ys)) (filter f (xs ++ ys))
    by true e = ap (λ (zs : List Name). x ∷ zs) e
    by false e = e

pub kept_all : (f : Name → Bool) (u : Routine) (a0 a1 a2 a3 a4 dummies cs : List Name) (ds : List DataName) → a0 ≡ [] → a1 ≡ a0 ++ filter f dummies → a2 ≡ a1 ++ filter f cs
    → a3 ≡ a2 ++ filter f (names_of_kind true ds) → a4 ≡ a3 ++ filter f (names_of_kind false ds) → dummies ≡ u.dummies → cs ≡ commons u → ds ≡ u.names
    → a4 ≡ filter f (u.dummies ++ commons u ++ names_of_kind true u.names ++ names_of_kind false u.names)
kept_all f u a0 a1 a2 a3 a4 dummies cs ds e0 e1 e2 e3 e4 d c n =
    let one : a1 ≡ filter f u.dummies = e1 ∙ ((λ i. e0 i ++ filter f dummies) ∙ ap (filter f) d) in
    let two : a2 ≡ filter f (u.dummies ++ commons u) = e2 ∙ ((λ i. one i ++ filter f (c i)) ∙ kept_both f u.dummies (commons u)) in
    let three : a3 ≡ filter f (u.dummies ++ commons u ++ names_of_kind true u.names) =
    e3 ∙ ((λ i. two i ++ filter f (names_of_kind true (n i))) ∙ kept_both f (u.dummies ++ commons u) (names_of_kind true u.names)) in
    e4 ∙ ((λ i. three i ++ filter f (names_of_kind false (n i))) ∙ kept_both f (u.dummies ++ commons u ++ names_of_kind true u.names) (names_of_kind false u.names))
