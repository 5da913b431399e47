-- Where any number of steps suffices, as many suffice as there are statements and forks: from each of them to the
-- next less is to be done, so none comes twice.
use Rattle.std.proofs.Common.{◌≡◌, ℕ, zero, suc, ◌+◌, ◌<◌, ◌≤◌, Bool, true, false, Option, Some, None, List, [], ◌∷◌, length, slice_get, refl, ap, subst, arith}
use Rattle.fort_model.specs.Graphs.{IsWithin}
use Rattle.fort_model.specs.Lists.{IsAmong}
use Rattle.fort_model.specs.declared.graph.Fork.{Fork}
use Rattle.fort_model.specs.declared.graph.Graph.{Graph}
use Rattle.fort_model.specs.declared.graph.Target.{Target}
use Rattle.fort_model.specs.declared.graph.Target.TheVariants.{Point, Fork as AtFork}
use Rattle.path_cut.specs.Ways.{targets_of}
use Rattle.path_cut.specs.Work.{statement_work, each_work, point_work, work}
use Rattle.way_laws.proofs.Counting.{lesser, lesser_few, lesser_more, lesser_between}
use Rattle.way_laws.proofs.Fuel.{each_enough, start_enough, or_enough, enough, each_by, start_by, weaker}

module _ (graph : Graph) (cut : ℕ → Bool) where
  -- what is to be done from a target by so many steps
  abbrev works : ℕ → Target → ℕ
  works n t = work graph cut 0 n t

  abbrev works_at : (Target → ℕ) → Option Target → ℕ
  works_at on o = statement_work graph cut 0 on o

  abbrev works_each : (Target → ℕ) → List Target → ℕ
  works_each on ts = each_work graph cut 0 on ts

  abbrev works_or : Bool → ℕ → ℕ
  works_or b n = point_work graph cut 0 b n

  -- ---- behind steps that suffice, more of them change nothing

  or_same : (b : Bool) (P : Type 0) (m n : ℕ) → (P → m ≡ n) → or_enough graph cut b P → works_or b m ≡ works_or b n
  or_same true P m n f h = refl
  or_same false P m n f h = f h

  start_same : (P : Target → Type 0) (f g : Target → ℕ) → ((t : Target) → P t → f t ≡ g t) → (o : Option Target) → start_enough graph cut P o → works_at f o ≡ works_at g o
  start_same P f g same None h = refl
  start_same P f g same (Some t) h = ap suc (same t h)

  each_same : (P : Target → Type 0) (f g : Target → ℕ) → ((t : Target) → P t → f t ≡ g t) → (ts : List Target) → each_enough graph cut P ts → works_each f ts ≡ works_each g ts
  each_same P f g same [] h = refl
  each_same P f g same (t ∷ ts) h = λ i. 2 + same t h.0 i + each_same P f g same ts h.1 i

  same_works : (n : ℕ) (t : Target) → enough graph cut n t → works n t ≡ works (suc n) t
  same_works zero t h = absurd h
  same_works (suc n) (Point q) h =
      ap (λ m. 2 + m) (or_same (cut q) (start_enough graph cut (enough graph cut n) (slice_get graph.starts q))
      (works_at (works n) (slice_get graph.starts q)) (works_at (works (suc n)) (slice_get graph.starts q))
      (start_same (enough graph cut n) (works n) (works (suc n)) (same_works n) (slice_get graph.starts q)) h)
  same_works (suc n) (AtFork k) h =
      ap (λ m. 2 + m) (each_same (enough graph cut n) (works n) (works (suc n)) (same_works n) (targets_of (slice_get graph.forks k)) h)

  -- ---- one of some targets

  each_at : (P : Target → Type 0) (ts : List Target) (i : ℕ) (t : Target) → slice_get ts i ≡ Some t → each_enough graph cut P ts → P t
  each_at P [] i t e h = absurd cc
  each_at P (x ∷ ts) zero t e h = let same : x ≡ t = cc in subst P same h.0
  each_at P (x ∷ ts) (suc i) t e h = each_at P ts i t e h.1

  first_less : (a b : ℕ) → a < 2 + a + b
  first_less a b = omega arith

  later_less : (a b c : ℕ) → a < c → a < 2 + b + c
  later_less a b c lt = omega arith

  less_at : (on : Target → ℕ) (ts : List Target) (i : ℕ) (t : Target) → slice_get ts i ≡ Some t → on t < works_each on ts
  less_at on [] i t e = absurd cc
  less_at on (x ∷ ts) zero t e =
      let same : x ≡ t = cc in
      subst (λ y. on y < works_each on (x ∷ ts)) same (first_less (on x) (works_each on ts))
  less_at on (x ∷ ts) (suc i) t e = later_less (on t) (on x) (works_each on ts) (less_at on ts i t e)

  -- ---- steps suffice where they do behind the next one

  from_point : (n q : ℕ) → ((t : Target) → slice_get graph.starts q ≡ Some t → cut q ≡ false → enough graph cut n t) → enough graph cut (suc n) (Point q)
  from_point n q f = by (cut q) refl
    where
      by : (b : Bool) → cut q ≡ b → or_enough graph cut b (start_enough graph cut (enough graph cut n) (slice_get graph.starts q))
      by true e = tt
      by false e = start_by graph cut (enough graph cut n) (slice_get graph.starts q) (λ t s. f t s e)

  from_fork : (n k : ℕ) → ((f : Fork) (t : Target) → slice_get graph.forks k ≡ Some f → IsAmong t f.targets → enough graph cut n t) → enough graph cut (suc n) (AtFork k)
  from_fork n k g = by (slice_get graph.forks k) refl
    where
      by : (o : Option Fork) → slice_get graph.forks k ≡ o → each_enough graph cut (enough graph cut n) (targets_of o)
      by None e = tt
      by (Some f) e = each_by graph cut (enough graph cut n) f.targets (λ i t s. g f t e (i, s))

  -- ---- in a graph where so many steps suffice

  module _ (m : ℕ) (within : (pc : ℕ) (t : Target) → slice_get graph.starts pc ≡ Some t → IsWithin graph.size (length graph.forks) t)
      (falling : (k : ℕ) (f : Fork) (t : Target) → slice_get graph.forks k ≡ Some f → IsAmong t f.targets → IsWithin graph.size k t)
      (any : (t : Target) → IsWithin graph.size (length graph.forks) t → enough graph cut (suc m) t) where
    abbrev all : Target → ℕ
    all t = works (suc m) t

    nearer_by_start : (a b c : ℕ) → c ≡ a → b ≡ 2 + suc c → a < b
    nearer_by_start a b c e f = omega arith

    -- what a statement leads to has less to do
    start_less : (q : ℕ) (t : Target) → q ≤ graph.size → cut q ≡ false → slice_get graph.starts q ≡ Some t → all t < all (Point q)
    start_less q t le e s =
        let some : start_enough graph cut (enough graph cut m) (slice_get graph.starts q)
        = subst (λ b. or_enough graph cut b (start_enough graph cut (enough graph cut m) (slice_get graph.starts q))) e (any (Point q) le) in
        let behind : enough graph cut m t = subst (λ o. start_enough graph cut (enough graph cut m) o) s some in
        nearer_by_start (all t) (all (Point q)) (works m t) (same_works m t behind)
        (λ i. 2 + works_or (e i) (works_at (works m) (s i)))

    nearer_by_choice : (a b c d : ℕ) → c ≡ a → c < d → b ≡ 2 + d → a < b
    nearer_by_choice a b c d e lt f = omega arith

    -- so has what a fork leads to
    fork_less : (k : ℕ) (f : Fork) (t : Target) → k < length graph.forks → slice_get graph.forks k ≡ Some f → IsAmong t f.targets → all t < all (AtFork k)
    fork_less k f t lt e among =
        let some : each_enough graph cut (enough graph cut m) f.targets
        = subst (λ o. each_enough graph cut (enough graph cut m) (targets_of o)) e (any (AtFork k) lt) in
        let behind : enough graph cut m t = each_at (enough graph cut m) f.targets among.0 t among.1 some in
        nearer_by_choice (all t) (all (AtFork k)) (works m t) (works_each (works m) f.targets) (same_works m t behind)
        (less_at (works m) f.targets among.0 t among.1)
        (ap (λ o. 2 + works_each (works m) (targets_of o)) e)

    -- ---- how many have less to do

    abbrev at_points : ℕ → ℕ
    at_points v = lesser (λ q. all (Point q)) v (suc graph.size)

    abbrev at_forks : ℕ → ℕ
    at_forks v = lesser (λ k. all (AtFork k)) v (length graph.forks)

    below : ℕ → ℕ
    below v = at_points v + at_forks v

    both_few : (a b n k : ℕ) → a ≤ suc n → b ≤ k → a + b < n + k + 2
    both_few a b n k h g = omega arith

    below_few : (v : ℕ) → below v < graph.size + length graph.forks + 2
    unfolding below
    below_few v =
        both_few (at_points v) (at_forks v) graph.size (length graph.forks)
        (lesser_few (λ q. all (Point q)) v (suc graph.size)) (lesser_few (λ k. all (AtFork k)) v (length graph.forks))

    by_first : (a b c d : ℕ) → a < b → c ≤ d → a + c < b + d
    by_first a b c d h g = omega arith

    by_second : (a b c d : ℕ) → a ≤ b → c < d → a + c < b + d
    by_second a b c d h g = omega arith

    itself : (n : ℕ) → n ≤ n
    itself n = omega arith

    no_more : (n v : ℕ) → n < v → n ≤ v
    no_more n v lt = omega arith

    up_to : (q size : ℕ) → q ≤ size → q < suc size
    up_to q size le = omega arith

    -- fewer than what has more to do
    below_less : (t : Target) (v : ℕ) → IsWithin graph.size (length graph.forks) t → all t < v → below (all t) < below v
    unfolding below
    below_less (Point q) v w lt =
        by_first (at_points (all (Point q))) (at_points v) (at_forks (all (Point q))) (at_forks v)
        (lesser_between (λ p. all (Point p)) (all (Point q)) v (suc graph.size) q (up_to q graph.size w) (itself (all (Point q))) lt)
        (lesser_more (λ k. all (AtFork k)) (all (Point q)) v (length graph.forks) (no_more (all (Point q)) v lt))
    below_less (AtFork k) v w lt =
        by_second (at_points (all (AtFork k))) (at_points v) (at_forks (all (AtFork k))) (at_forks v)
        (lesser_more (λ p. all (Point p)) (all (AtFork k)) v (suc graph.size) (no_more (all (AtFork k)) v lt))
        (lesser_between (λ j. all (AtFork j)) (all (AtFork k)) v (length graph.forks) k w (itself (all (AtFork k))) lt)

    nearer : (a b n : ℕ) → a < b → b < suc n → a < n
    nearer a b n h g = omega arith

    inside : (k : ℕ) (f : Fork) (t : Target) → k < length graph.forks → slice_get graph.forks k ≡ Some f → IsAmong t f.targets → IsWithin graph.size (length graph.forks) t
    inside k f t lt e among = weaker graph cut graph.size k (length graph.forks) t (no_more k (length graph.forks) lt) (falling k f t e among)

    none_below_nothing : (n : ℕ) → n < 0 → ⊥
    none_below_nothing n lt = omega arith

    suffices : (n : ℕ) (t : Target) → IsWithin graph.size (length graph.forks) t → below (all t) < n → enough graph cut n t
    suffices zero t w lt = absurd (none_below_nothing (below (all t)) lt)
    suffices (suc n) (Point q) w lt =
        from_point n q
        (λ t s e. suffices n t (within q t s)
        (nearer (below (all t)) (below (all (Point q))) n (below_less t (all (Point q)) (within q t s) (start_less q t w e s)) lt))
    suffices (suc n) (AtFork k) w lt =
        from_fork n k
        (λ f t e among. suffices n t (inside k f t w e among)
        (nearer (below (all t)) (below (all (AtFork k))) n (below_less t (all (AtFork k)) (inside k f t w e among) (fork_less k f t w e among)) lt))

    -- so many steps suffice as there are statements and forks, and two more
    pub few_suffice : (t : Target) → IsWithin graph.size (length graph.forks) t → enough graph cut (graph.size + length graph.forks + 2) t
    few_suffice t w = suffices (graph.size + length graph.forks + 2) t w (below_few (all t))
