-- The statements of the first steps of a way.
use Rattle.std.proofs.Common.{◌≡◌, ℕ, zero, suc, ◌<◌, ◌≤◌, get_or, Option, Some, List, [], ◌∷◌, ◌++◌, length, take, drop, slice_get, refl, sym, ap, ◌∙◌, arith}
use Rattle.path_cut.specs.declared.step.Step.{Step}
use Rattle.path_cut.specs.declared.step.Step.TheVariants.{At, Choice}
use Rattle.shared_fronts.specs.Firsts.{HasAt, SharesSteps, firsts}
use Rattle.way_laws.specs.PathsOf.{turns}
use Rattle.way_walks.specs.Along.{stops}

-- the first ones, and those behind them
pub firsts_then : (k : ℕ) (steps : List Step) → stops steps ≡ firsts k steps ++ stops (drop k steps)
firsts_then zero steps = refl
firsts_then (suc k) [] = refl
firsts_then (suc k) (At pc ∷ steps) = ap (λ (ss : List (ℕ × List ℕ)). (pc, turns steps) ∷ ss) (firsts_then k steps)
firsts_then (suc k) (Choice f c ∷ steps) = firsts_then k steps

pub got : (xs : List Step) (k : ℕ) (d x : Step) → k < length xs → get_or xs k d ≡ x → slice_get xs k ≡ Some x
got [] k d x lt is = absurd (omega arith)
got (y ∷ xs) zero d x lt is = ap (λ (s : Step). Some s) is
got (y ∷ xs) (suc k) d x lt is = got xs k d x (omega arith) is

pub within : (xs : List Step) (k : ℕ) (x : Step) → slice_get xs k ≡ Some x → k < length xs
within [] k x is = absurd (cc)
within (y ∷ xs) zero x is = omega arith
within (y ∷ xs) (suc k) x is =
    let less = within xs k x is in
    omega (arith, less)

same_point : (q pc : ℕ) → ◌≡◌ {A = Option Step} (Some (At q)) (Some (At pc)) → q ≡ pc
same_point q pc e = cc

-- one more where a statement begins
pub firsts_at : (k : ℕ) (steps : List Step) (pc : ℕ) → slice_get steps k ≡ Some (At pc) → firsts (suc k) steps ≡ firsts k steps ++ (pc, turns (drop (suc k) steps)) ∷ []
firsts_at k [] pc e = absurd (cc)
firsts_at zero (At q ∷ steps) pc e = λ i. (same_point q pc e i, turns steps) ∷ []
firsts_at zero (Choice f c ∷ steps) pc e = absurd (cc)
firsts_at (suc k) (At q ∷ steps) pc e = ap (λ (ss : List (ℕ × List ℕ)). (q, turns steps) ∷ ss) (firsts_at k steps pc e)
firsts_at (suc k) (Choice f c ∷ steps) pc e = firsts_at k steps pc e

-- none more where a target is chosen
pub firsts_choice : (k : ℕ) (steps : List Step) (f c : ℕ) → slice_get steps k ≡ Some (Choice f c) → firsts (suc k) steps ≡ firsts k steps
firsts_choice k [] f c e = absurd (cc)
firsts_choice zero (At q ∷ steps) f c e = absurd (cc)
firsts_choice zero (Choice g d ∷ steps) f c e = refl
firsts_choice (suc k) (At q ∷ steps) f c e = ap (λ (ss : List (ℕ × List ℕ)). (q, turns steps) ∷ ss) (firsts_choice k steps f c e)
firsts_choice (suc k) (Choice g d ∷ steps) f c e = firsts_choice k steps f c e

-- ---- ways that have the same first steps

nothing_is : (x : Step) (xs : List Step) → ◌≡◌ {A = List Step} (x ∷ xs) [] → ⊥
nothing_is x xs e = cc

first_is : (x y : Step) (xs ys : List Step) → ◌≡◌ {A = List Step} (x ∷ xs) (y ∷ ys) → x ≡ y
first_is x y xs ys e = cc

rest_is : (x y : Step) (xs ys : List Step) → ◌≡◌ {A = List Step} (x ∷ xs) (y ∷ ys) → xs ≡ ys
rest_is x y xs ys e = cc

pub take_fewer : (m n : ℕ) (xs ys : List Step) → m ≤ n → take n xs ≡ take n ys → take m xs ≡ take m ys
take_fewer zero n xs ys le e = refl
take_fewer (suc m) zero xs ys le e = absurd (omega (arith, le))
take_fewer (suc m) (suc n) [] [] le e = refl
take_fewer (suc m) (suc n) [] (y ∷ ys) le e = absurd (nothing_is y (take n ys) (sym e))
take_fewer (suc m) (suc n) (x ∷ xs) [] le e = absurd (nothing_is x (take n xs) e)
take_fewer (suc m) (suc n) (x ∷ xs) (y ∷ ys) le e =
    let less : m ≤ n = omega (arith, le) in
    λ i. first_is x y (take n xs) (take n ys) e i ∷ take_fewer m n xs ys less (rest_is x y (take n xs) (take n ys) e) i

pub get_same : (k : ℕ) (xs ys : List Step) → take (suc k) xs ≡ take (suc k) ys → slice_get xs k ≡ slice_get ys k
get_same zero [] [] e = refl
get_same (suc k) [] [] e = refl
get_same k [] (y ∷ ys) e = absurd (nothing_is y (take k ys) (sym e))
get_same k (x ∷ xs) [] e = absurd (nothing_is x (take k xs) e)
get_same zero (x ∷ xs) (y ∷ ys) e = ap (λ (s : Step). Some s) (first_is x y [] [] e)
get_same (suc k) (x ∷ xs) (y ∷ ys) e = get_same k xs ys (rest_is x y (take (suc k) xs) (take (suc k) ys) e)

-- the choices up to a statement that both have
turns_same : (k : ℕ) (xs ys : List Step) (pc : ℕ) → slice_get xs k ≡ Some (At pc) → take (suc k) xs ≡ take (suc k) ys → turns xs ≡ turns ys
turns_same k [] ys pc at e = absurd (cc)
turns_same k (x ∷ xs) [] pc at e = absurd (nothing_is x (take k xs) e)
turns_same k (At q ∷ xs) (y ∷ ys) pc at e = λ i. turns (first_is (At q) y (take k xs) (take k ys) e i ∷ ys)
turns_same zero (Choice f c ∷ xs) (y ∷ ys) pc at e = absurd (cc)
turns_same (suc k) (Choice f c ∷ xs) (y ∷ ys) pc at e =
    ap (λ (cs : List ℕ). c ∷ cs) (turns_same k xs ys pc at (rest_is (Choice f c) y (take (suc k) xs) (take (suc k) ys) e))
    ∙ (λ i. turns (first_is (Choice f c) y (take (suc k) xs) (take (suc k) ys) e i ∷ ys))

-- the statements before one that both have
pub same_firsts : (k : ℕ) (xs ys : List Step) (pc : ℕ) → slice_get xs k ≡ Some (At pc) → take (suc k) xs ≡ take (suc k) ys → firsts k xs ≡ firsts k ys
same_firsts zero xs ys pc at e = refl
same_firsts (suc k) [] ys pc at e = absurd (cc)
same_firsts (suc k) (x ∷ xs) [] pc at e = absurd (nothing_is x (take (suc k) xs) e)
same_firsts (suc k) (At q ∷ xs) (y ∷ ys) pc at e =
    let rest = rest_is (At q) y (take (suc k) xs) (take (suc k) ys) e in
    (λ i. (q, turns_same k xs ys pc at rest i) ∷ same_firsts k xs ys pc at rest i)
    ∙ (λ i. firsts (suc k) (first_is (At q) y (take (suc k) xs) (take (suc k) ys) e i ∷ ys))
same_firsts (suc k) (Choice f c ∷ xs) (y ∷ ys) pc at e =
    same_firsts k xs ys pc at (rest_is (Choice f c) y (take (suc k) xs) (take (suc k) ys) e)
    ∙ (λ i. firsts (suc k) (first_is (Choice f c) y (take (suc k) xs) (take (suc k) ys) e i ∷ ys))

-- the same, where more steps are shared
pub shared_firsts : (k n : ℕ) (before steps : List Step) → k < n → SharesSteps n before steps → HasAt before k → firsts k before ≡ firsts k steps
shared_firsts k n before steps lt same has =
    let here : suc k ≤ n = omega (arith, lt) in
    same_firsts k before steps has.0 has.1 (sym (take_fewer (suc k) n steps before here same))
