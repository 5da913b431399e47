-- Names that get extents.
use Rattle.std.proofs.Common.{◌≡◌, Bool, true, false, cond, ◌||◌, List, [], ◌∷◌, length, map, refl, sym, ap, ◌∙◌, arith}
use Rattle.formula.specs.Atoms.{same_bytes, is_among, has_twin}
use Rattle.fort_syntax.specs.declared.name.Name.{Name}
use Rattle.fort_model.specs.Storage.{Extent, Environment, with_extents}
use Rattle.fort_laws.proofs.FrameEnter.{SameOrNot, same, other, same_or_not}
use Rattle.fort_laws.proofs.FrameSeats.{same_self, same_is}

turned : (x y : Name) → same_bytes x y ≡ false → same_bytes y x ≡ false
turned x y h = pick (same_or_not y x)
  where
    pick : SameOrNot y x → same_bytes y x ≡ false
    pick (same e t) = let s : same_bytes x y ≡ true = same_is x y (sym e) in absurd (cc)
    pick (other n t) = t

neither : (a b : Bool) → (a || b) ≡ false → (a ≡ false) × (b ≡ false)
neither true b h = absurd (cc)
neither false b h = (refl, h)

pub or_true : (a b : Bool) → b ≡ true → (a || b) ≡ true
or_true true b h = refl
or_true false b h = h

-- a name that is none of those keeps what it has
pub not_given : (ys : List Name) (es : List Extent) (env : Environment) (x : Name) → is_among x ys ≡ false → with_extents ys es env x ≡ env x
not_given [] es env x h = refl
not_given (y ∷ ys) [] env x h = refl
not_given (y ∷ ys) (e ∷ es) env x h =
    let apart = neither (same_bytes x y) (is_among x ys) h in
    ap (λ b. cond b e (with_extents ys es env x)) (turned x y apart.0) ∙ not_given ys es env x apart.1

past_first : (y : Name) (e : Extent) (ys : List Name) (es : List Extent) (env : Environment) (xs : List Name) → is_among y xs ≡ false
    → map (with_extents (y ∷ ys) (e ∷ es) env) xs ≡ map (with_extents ys es env) xs
past_first y e ys es env [] h = refl
past_first y e ys es env (x ∷ xs) h =
    let apart = neither (same_bytes y x) (is_among y xs) h in
    ap (λ b. cond b e (with_extents ys es env x) ∷ map (with_extents (y ∷ ys) (e ∷ es) env) xs) apart.0 ∙ ap (λ rest. with_extents ys es env x ∷ rest) (past_first y e ys es env xs apart.1)

-- distinct names have what they get
pub each_given : (ys : List Name) (es : List Extent) (env : Environment) → has_twin ys ≡ false → length es ≡ length ys → map (with_extents ys es env) ys ≡ es
each_given [] [] env once long = refl
each_given [] (e ∷ es) env once long = absurd (omega arith)
each_given (y ∷ ys) [] env once long = absurd (omega arith)
each_given (y ∷ ys) (e ∷ es) env once long =
    let apart = neither (is_among y ys) (has_twin ys) once in
    ap (λ b. cond b e (with_extents ys es env y) ∷ map (with_extents (y ∷ ys) (e ∷ es) env) ys) (same_self y)
    ∙ ap (λ rest. e ∷ rest) (past_first y e ys es env ys apart.0 ∙ each_given ys es env apart.1 (omega arith))

-- names that are none of those keep what they have
pub others_kept : (ys : List Name) (es : List Extent) (env : Environment) (xs : List Name) → ((x : Name) → is_among x xs ≡ true → is_among x ys ≡ false)
    → map (with_extents ys es env) xs ≡ map env xs
others_kept ys es env [] h = refl
others_kept ys es env (x ∷ xs) h =
    ap (λ e. e ∷ map (with_extents ys es env) xs) (not_given ys es env x (h x (ap (λ b. b || is_among x xs) (same_self x))))
    ∙ ap (λ rest. env x ∷ rest) (others_kept ys es env xs (λ z t. h z (or_true (same_bytes z x) (is_among z xs) t)))

pub map_twice : {A B C : Type 0} (f : B → C) (g : A → B) (xs : List A) → map (λ x. f (g x)) xs ≡ map f (map g xs)
map_twice f g [] = refl
map_twice f g (x ∷ xs) = ap (λ rest. f (g x) ∷ rest) (map_twice f g xs)
