-- Ways as the steps that follow a target.
use Rattle.std.proofs.Common.{◌≡◌, ℕ, zero, suc, Bool, true, false, Option, Some, None, List, [], ◌∷◌, ◌++◌, map, slice_get, refl, sym, ap, ◌∙◌, append_assoc, append-nil}
use Rattle.fort_model.specs.declared.graph.Graph.{Graph}
use Rattle.fort_model.specs.declared.graph.Target.{Target}
use Rattle.fort_model.specs.declared.graph.Target.TheVariants.{Point, Fork as AtFork}
use Rattle.path_cut.specs.declared.step.Step.{Step}
use Rattle.path_cut.specs.declared.step.Step.TheVariants.{At, Choice}
use Rattle.path_cut.specs.Ways.{Way, targets_of, by_each, behind_statement, end_or, ways}

-- steps, and the point that ends them
pub record Trail : Type 0 where
  pub steps : List Step
  pub end : ℕ

abbrev pub before : Step → Trail → Trail
before x r = record { steps = x ∷ r.steps; end = r.end }

-- ---- lists

pub map_append : {A B : Type 0} (f : A → B) (xs ys : List A) → map f (xs ++ ys) ≡ map f xs ++ map f ys
map_append f [] ys = refl
map_append f (x ∷ xs) ys = ap (λ zs. f x ∷ zs) (map_append f xs ys)

pub map_twice : {A B C : Type 0} (g : B → C) (f : A → B) (xs : List A) → map g (map f xs) ≡ map (λ x. g (f x)) xs
map_twice g f [] = refl
map_twice g f (x ∷ xs) = ap (λ zs. g (f x) ∷ zs) (map_twice g f xs)

module _ (graph : Graph) (cut : ℕ → Bool) where
  abbrev pub statement_trails : (Target → List Trail) → ℕ → Option Target → List Trail
  statement_trails on p None = []
  statement_trails on p (Some t) = map (before (At p)) (on t)

  abbrev pub each_trails : (Target → List Trail) → ℕ → ℕ → List Target → List Trail
  each_trails on k c [] = []
  each_trails on k c (t ∷ ts) = map (before (Choice k (suc c))) (on t) ++ each_trails on k (suc c) ts

  abbrev pub end_trails : Bool → ℕ → List Trail → List Trail
  end_trails true q on = record { steps = []; end = q } ∷ []
  end_trails false q on = on

  -- the steps from a target up to the next cut point
  abbrev pub trails : ℕ → Target → List Trail
  trails zero t = []
  trails (suc n) (Point q) = end_trails (cut q) q (statement_trails (trails n) q (slice_get graph.starts q))
  trails (suc n) (AtFork k) = each_trails (trails n) k 0 (targets_of (slice_get graph.forks k))

  -- a way that has some steps and goes on by a trail
  abbrev pub way_by : ℕ → List Step → Trail → Way
  way_by s pre r = record { start = s; steps = pre ++ r.steps; end = r.end }

  more_steps : (s : ℕ) (pre : List Step) (x : Step) (rs : List Trail) → map (way_by s (pre ++ x ∷ [])) rs ≡ map (way_by s pre) (map (before x) rs)
  more_steps s pre x [] = refl
  more_steps s pre x (r ∷ rs) =
      (λ i. record { start = s; steps = append_assoc pre (x ∷ []) r.steps i; end = r.end } ∷ more_steps s pre x rs i)

  module _ (s : ℕ) (n : ℕ) (same : (pre : List Step) (t : Target) → ways graph cut s n pre t ≡ map (way_by s pre) (trails n t)) where
    each_same : (pre : List Step) (k c : ℕ) (ts : List Target) → by_each graph cut s (ways graph cut s n) pre k c ts ≡ map (way_by s pre) (each_trails (trails n) k c ts)
    each_same pre k c [] = refl
    each_same pre k c (t ∷ ts) =
        (λ i. (same (pre ++ Choice k (suc c) ∷ []) t ∙ more_steps s pre (Choice k (suc c)) (trails n t)) i ++ each_same pre k (suc c) ts i)
        ∙ sym (map_append (way_by s pre) (map (before (Choice k (suc c))) (trails n t)) (each_trails (trails n) k (suc c) ts))

    statement_same : (pre : List Step) (p : ℕ) (o : Option Target)
        → behind_statement graph cut s (ways graph cut s n) pre p o ≡ map (way_by s pre) (statement_trails (trails n) p o)
    statement_same pre p None = refl
    statement_same pre p (Some t) = same (pre ++ At p ∷ []) t ∙ more_steps s pre (At p) (trails n t)

    end_same : (b : Bool) (pre : List Step) (q : ℕ) (ws : List Way) (rs : List Trail) → ws ≡ map (way_by s pre) rs
        → end_or graph cut s b pre q ws ≡ map (way_by s pre) (end_trails b q rs)
    end_same true pre q ws rs e = λ i. record { start = s; steps = sym (append-nil pre) i; end = q } ∷ []
    end_same false pre q ws rs e = e

    same_more : (pre : List Step) (t : Target) → ways graph cut s (suc n) pre t ≡ map (way_by s pre) (trails (suc n) t)
    same_more pre (Point q) =
        end_same (cut q) pre q (behind_statement graph cut s (ways graph cut s n) pre q (slice_get graph.starts q)) (statement_trails (trails n) q (slice_get graph.starts q))
        (statement_same pre q (slice_get graph.starts q))
    same_more pre (AtFork k) = each_same pre k 0 (targets_of (slice_get graph.forks k))

  -- the ways that have some steps and go on from a target are those steps with its trails
  pub ways_trails : (s n : ℕ) (pre : List Step) (t : Target) → ways graph cut s n pre t ≡ map (way_by s pre) (trails n t)
  ways_trails s zero pre t = refl
  ways_trails s (suc n) pre t = same_more s n (ways_trails s n) pre t
