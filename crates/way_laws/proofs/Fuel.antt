-- How many steps suffice.
use Rattle.std.proofs.Common.{◌≡◌, ℕ, zero, suc, ◌+◌, ◌-◌, ◌<◌, ◌≤◌, Bool, true, false, Option, Some, None, List, [], ◌∷◌, slice_get, get_or, refl, ap, ◌∙◌, subst, arith}
use Rattle.std.specs.Prelude.{if◌then◌else◌, nat_lt}
use Rattle.std.proofs.lemmas.Bool.Decides.{nat_tests}
use Rattle.fort_model.specs.Graphs.{taken, goes_to, follow, IsWithin}
use Rattle.fort_model.specs.Lists.{IsAmong}
use Rattle.fort_model.specs.declared.graph.Fork.{Fork}
use Rattle.fort_model.specs.declared.graph.Graph.{Graph}
use Rattle.fort_model.specs.declared.graph.Target.{Target}
use Rattle.fort_model.specs.declared.graph.Target.TheVariants.{Point, Fork as AtFork}
use Rattle.path_cut.specs.Ways.{targets_of}

-- ---- the greatest rank

-- the greatest of a number and some others
abbrev pub greatest_from : ℕ → List ℕ → ℕ
greatest_from most [] = most
greatest_from most (n ∷ ns) = greatest_from (if nat_lt most n then n else most) ns

more_of : (m n : ℕ) → (m ≤ (if nat_lt m n then n else m)) × (n ≤ (if nat_lt m n then n else m))
more_of m n = by (nat_lt m n) refl
  where
    by : (b : Bool) → nat_lt m n ≡ b → (m ≤ (if b then n else m)) × (n ≤ (if b then n else m))
    by true e = let lt : m < n = grind (arith, nat_tests) in (omega arith, omega arith)
    by false e = let le : n ≤ m = grind (arith, nat_tests) in (omega arith, le)

pub first_below : (ns : List ℕ) (m : ℕ) → m ≤ greatest_from m ns
first_below [] m = omega arith
first_below (n ∷ ns) m =
    let h = (more_of m n).0 in
    let k = first_below ns (if nat_lt m n then n else m) in
    omega arith

pub each_below : (ns : List ℕ) (m q : ℕ) → get_or ns q 0 ≤ greatest_from m ns
each_below [] m q = omega arith
each_below (n ∷ ns) m zero =
    let h = (more_of m n).1 in
    let k = first_below ns (if nat_lt m n then n else m) in
    omega arith
each_below (n ∷ ns) m (suc q) = each_below ns (if nat_lt m n then n else m) q

-- ---- steps for levels

-- so many steps for each level
abbrev pub fuel : ℕ → ℕ → ℕ
fuel f zero = f + 2
fuel f (suc j) = f + 2 + fuel f j

pub fuel_some : (f j : ℕ) → 1 ≤ fuel f j
fuel_some f zero = omega arith
fuel_some f (suc j) = omega arith

module _ (graph : Graph) (cut : ℕ → Bool) where
  abbrev pub each_enough : (Target → Type 0) → List Target → Type 0
  each_enough on [] = Unit {0}
  each_enough on (t ∷ ts) = on t × each_enough on ts

  abbrev pub start_enough : (Target → Type 0) → Option Target → Type 0
  start_enough on None = Unit {0}
  start_enough on (Some t) = on t

  abbrev pub or_enough : Bool → Type 0 → Type 0
  or_enough true P = Unit {0}
  or_enough false P = P

  -- so many steps suffice from a target up to the next cut point
  abbrev pub enough : ℕ → Target → Type 0
  enough zero t = ⊥
  enough (suc n) (Point q) = or_enough (cut q) (start_enough (enough n) (slice_get graph.starts q))
  enough (suc n) (AtFork k) = each_enough (enough n) (targets_of (slice_get graph.forks k))

  each_more : (P Q : Target → Type 0) → ((t : Target) → P t → Q t) → (ts : List Target) → each_enough P ts → each_enough Q ts
  each_more P Q f [] h = tt
  each_more P Q f (t ∷ ts) h = (f t h.0, each_more P Q f ts h.1)

  start_more : (P Q : Target → Type 0) → ((t : Target) → P t → Q t) → (o : Option Target) → start_enough P o → start_enough Q o
  start_more P Q f None h = tt
  start_more P Q f (Some t) h = f t h

  or_more : (b : Bool) (P Q : Type 0) → (P → Q) → or_enough b P → or_enough b Q
  or_more true P Q f h = tt
  or_more false P Q f h = f h

  enough_suc : (n : ℕ) (t : Target) → enough n t → enough (suc n) t
  enough_suc zero t h = absurd h
  enough_suc (suc n) (Point q) h =
      or_more (cut q) (start_enough (enough n) (slice_get graph.starts q)) (start_enough (enough (suc n)) (slice_get graph.starts q))
      (start_more (enough n) (enough (suc n)) (enough_suc n) (slice_get graph.starts q)) h
  enough_suc (suc n) (AtFork k) h = each_more (enough n) (enough (suc n)) (enough_suc n) (targets_of (slice_get graph.forks k)) h

  enough_up : (k n : ℕ) (t : Target) → enough n t → enough (k + n) t
  enough_up zero n t h = let e : n ≡ 0 + n = omega arith in subst (λ m. enough m t) e h
  enough_up (suc k) n t h = let e : suc (k + n) ≡ suc k + n = omega arith in subst (λ m. enough m t) e (enough_suc (k + n) t (enough_up k n t h))

  pub enough_at : (n m : ℕ) (t : Target) → n ≤ m → enough n t → enough m t
  enough_at n m t le h = let e : m - n + n ≡ m = omega arith in subst (λ j. enough j t) e (enough_up (m - n) n t h)

  pub each_by : (P : Target → Type 0) (ts : List Target) → ((i : ℕ) (t : Target) → slice_get ts i ≡ Some t → P t) → each_enough P ts
  each_by P [] f = tt
  each_by P (t ∷ ts) f = (f 0 t refl, each_by P ts (λ i x e. f (suc i) x e))

  pub start_by : (P : Target → Type 0) (o : Option Target) → ((t : Target) → o ≡ Some t → P t) → start_enough P o
  start_by P None f = tt
  start_by P (Some t) f = f t refl

  pub or_by : (b : Bool) (P : Type 0) → P → or_enough b P
  or_by true P h = tt
  or_by false P h = h

  -- ---- along forks

  pub weaker : (size k n : ℕ) (t : Target) → k ≤ n → IsWithin size k t → IsWithin size n t
  weaker size k n (Point q) le w = w
  weaker size k n (AtFork j) le w = omega arith

  module _ (size b : ℕ) (falling : (k : ℕ) (f : Fork) (t : Target) → slice_get graph.forks k ≡ Some f → IsAmong t f.targets → IsWithin size k t) where
    -- from a target of the forks below a number: so many steps more than from the points that it leads to
    pub chain : (n : ℕ) (t : Target) → IsWithin size n t → ((cs : List ℕ) (q : ℕ) → follow graph.forks t cs ≡ Some q → enough b (Point q)) → enough (n + b) t
    chain zero (Point q) w reach = let e : b ≡ 0 + b = omega arith in subst (λ m. enough m (Point q)) e (reach [] q refl)
    chain zero (AtFork k) w reach = let none : ⊥ = omega arith in absurd none
    chain (suc n) (Point q) w reach = let le : b ≤ suc n + b = omega arith in enough_at b (suc n + b) (Point q) le (reach [] q refl)
    chain (suc n) (AtFork k) w reach =
        let e : suc (n + b) ≡ suc n + b = omega arith in
        subst (λ m. enough m (AtFork k)) e (each (λ t v r. chain n t v r) (slice_get graph.forks k) refl)
      where
        at : (o : Option Fork) (f : Fork) → o ≡ Some f → (i : ℕ) (t : Target) → slice_get f.targets i ≡ Some t → (cs : List ℕ)
            → goes_to (taken o (suc i)) (λ x. follow graph.forks x cs) ≡ follow graph.forks t cs
        at o f e i t g cs = ap (λ (p : Option Fork). goes_to (taken p (suc i)) (λ x. follow graph.forks x cs)) e ∙ ap (λ (p : Option Target). goes_to p (λ x. follow graph.forks x cs)) g

        each : ((t : Target) → IsWithin size n t → ((cs : List ℕ) (q : ℕ) → follow graph.forks t cs ≡ Some q → enough b (Point q)) → enough (n + b) t)
            → (o : Option Fork) → slice_get graph.forks k ≡ o → each_enough (enough (n + b)) (targets_of o)
        each rec None e = tt
        each rec (Some f) e =
            each_by (enough (n + b)) f.targets
            (λ i t g. rec t (let le : k ≤ n = omega arith in weaker size k n t le (falling k f t e (i, g)))
            (λ cs q r. reach (suc i ∷ cs) q (at (slice_get graph.forks k) f e i t g cs ∙ r)))
