-- The least node on a cycle is a statement.
use Rattle.std.proofs.Common.{◌≡◌, ℕ, zero, suc, ◌+◌, ◌<◌, ◌≤◌, ◌⊎◌, inl, inr, Bool, true, false, cond, List, [], ◌∷◌, length, get_or, Some, slice_get, refl, sym, ap, ◌∙◌, subst, arith}
use Rattle.std.proofs.lemmas.Option.{slice_get_within}
use Rattle.digraph.specs.Graphs.{Edge, Reaches, edge, further, LiesOnCycle}
use Rattle.fort_model.specs.declared.graph.Fork.{Fork}
use Rattle.fort_model.specs.declared.graph.Target.{Target}
use Rattle.fort_model.specs.declared.graph.Target.TheVariants.{Point, Fork as AtFork}
use Rattle.fort_model.specs.Graphs.{IsWithin}
use Rattle.flow_nodes.specs.Nodes.{node, nodes, IsRouted}
use Rattle.flow_nodes.proofs.Stepping.{Steps, of_start, of_fork, steps_of, up}

pub reach_on : (g : List (List ℕ)) (p q r : ℕ) → Reaches g p q → Reaches g q r → Reaches g p r
reach_on g p q r a (edge e) = further a e
reach_on g p q r a (further {q = s} b e) = further (reach_on g p q s a b) e

-- a node is the end or a statement; or the fork of a number
pub data Lies (size count : ℕ) : ℕ → Type 0 where
  early : {x : ℕ} → x ≤ size → Lies size count x
  late : {x : ℕ} (k : ℕ) → x ≡ size + 1 + k → k < count → Lies size count x

landed : (size : ℕ) (b : Bool) (q : ℕ) → q ≤ size → cond b size q ≤ size
landed size true q h = omega arith
landed size false q h = h

pub lies : (size : ℕ) (marks : List Bool) (count : ℕ) (t : Target) → IsWithin size count t → Lies size count (node size marks t)
lies size marks count (Point q) h = early (landed size (get_or marks q true) q h)
lies size marks count (AtFork k) h = late k refl h

module _ (marks : List Bool) (starts : List Target) (forks : List Fork) (is : IsRouted starts forks) where
  abbrev size : ℕ
  size = length starts

  abbrev g : List (List ℕ)
  g = nodes (length starts) marks starts forks

  -- a way from a fork leads to a lesser fork through forks alone; or through a statement; or to the end
  data Falls (x k : ℕ) : ℕ → Type 0 where
    below : {y : ℕ} (j : ℕ) → y ≡ size + 1 + j → j < k → Falls x k y
    past : {y : ℕ} (s : ℕ) → s < size → Reaches g x s → (s ≡ y) ⊎ Reaches g s y → Falls x k y
    ends : {y : ℕ} → y ≡ size → Falls x k y

  early_or : (x k y : ℕ) → Reaches g x y → y ≤ size → (y < size) ⊎ (y ≡ size) → Falls x k y
  early_or x k y r le (inl lt) = past y lt r (inl refl)
  early_or x k y r le (inr e) = ends e

  less_or : (y n : ℕ) → y ≤ n → (y < n) ⊎ (y ≡ n)
  less_or zero zero h = inr refl
  less_or zero (suc n) h = inl (omega arith)
  less_or (suc y) zero h = absurd (omega (arith, h))
  less_or (suc y) (suc n) h = by (less_or y n (omega (arith, h)))
    where
      by : (y < n) ⊎ (y ≡ n) → (suc y < suc n) ⊎ (suc y ≡ suc n)
      by (inl l) = inl (omega (arith, l))
      by (inr e) = inr (ap suc e)

  landing : (x k j y : ℕ) → Reaches g x y → j ≤ k → Lies size j y → Falls x k y
  landing x k j y r le (early h) = early_or x k y r h (less_or y size h)
  landing x k j y r le (late i at lt) = below i at (omega (arith, lt, le))

  -- one step from a fork
  from_fork : (x k j z y : ℕ) → z ≡ size + 1 + j → Reaches g x y → j ≤ k → Steps (length starts) marks starts forks z y → Falls x k y
  from_fork x k j z y at r le (of_start t e same) = (let w = slice_get_within starts z t e in absurd (omega (arith, w, at)))
  from_fork x k j z y at r le (of_fork i f t at' e among same) =
      let i_is : i ≡ j = omega (arith, at, at') in
      landing x k i y r (omega (arith, i_is, le)) (subst (Lies size i) (sym same) (lies size marks i t (is.falling i f t e among)))

  no_end : (z y : ℕ) → z ≡ size → Steps (length starts) marks starts forks z y → ⊥
  no_end z y at (of_start t e same) = (let w = slice_get_within starts z t e in omega (arith, w, at))
  no_end z y at (of_fork i f t at' e among same) = omega (arith, at, at')

  one_more : (x k z y : ℕ) → Falls x k z → Reaches g x y → Edge g z y → Falls x k y
  one_more x k z y (below j at lt) r e = from_fork x k j z y at r (omega (arith, lt)) (steps_of (length starts) marks starts forks z y e)
  one_more x k z y (past s lt a (inl same)) r e = past s lt a (inr (edge (subst (λ n. Edge g n y) (sym same) e)))
  one_more x k z y (past s lt a (inr b)) r e = past s lt a (inr (further b e))
  one_more x k z y (ends at) r e = absurd (no_end z y at (steps_of (length starts) marks starts forks z y e))

  falls : (x k y : ℕ) → x ≡ size + 1 + k → Reaches g x y → Falls x k y
  falls x k y at (edge e) = from_fork x k k x y at (edge e) (omega arith) (steps_of (length starts) marks starts forks x y e)
  falls x k y at (further {q = z} r e) = one_more x k z y (falls x k z at r) (further r e) e

  first_step : (x y : ℕ) → Reaches g x y → (z : ℕ) × Edge g x z
  first_step x y (edge e) = (y, e)
  first_step x y (further {q = z} r e) = first_step x z r

  not_end : (x : ℕ) → x ≡ size → LiesOnCycle g x → ⊥
  not_end x at r = (let s = first_step x x r in no_end x s.0 at (steps_of (length starts) marks starts forks x s.0 s.1))

  not_fork : (x k : ℕ) → x ≡ size + 1 + k → LiesOnCycle g x → ((q : ℕ) → q < x → LiesOnCycle g q → ⊥) → ⊥
  not_fork x k at r least = by (falls x k x at r)
    where
      by : Falls x k x → ⊥
      by (below j at' lt) = omega (arith, at, at', lt)
      by (past s lt a (inl same)) = omega (arith, at, lt, same)
      by (past s lt a (inr b)) = least s (omega (arith, at, lt)) (reach_on g s x s b a)
      by (ends at') = omega (arith, at, at')

  beyond : (x n : ℕ) → n < x → (k : ℕ) × (x ≡ n + 1 + k)
  beyond zero n h = absurd (omega (arith, h))
  beyond (suc x) zero h = (x, omega arith)
  beyond (suc x) (suc n) h = (let r = beyond x n (omega (arith, h)) in (r.0, up x n r.0 r.1))

  three_ways : (x : ℕ) → (x < size) ⊎ ((x ≡ size) ⊎ (size < x))
  three_ways x = by (nat_ways x size)
    where
      nat_ways : (x n : ℕ) → (x < n) ⊎ ((x ≡ n) ⊎ (n < x))
      nat_ways zero zero = inr (inl refl)
      nat_ways zero (suc n) = inl (omega arith)
      nat_ways (suc x) zero = inr (inr (omega arith))
      nat_ways (suc x) (suc n) = up (nat_ways x n)
        where
          up : (x < n) ⊎ ((x ≡ n) ⊎ (n < x)) → (suc x < suc n) ⊎ ((suc x ≡ suc n) ⊎ (suc n < suc x))
          up (inl h) = inl (omega (arith, h))
          up (inr (inl h)) = inr (inl (ap suc h))
          up (inr (inr h)) = inr (inr (omega (arith, h)))

      by : (x < size) ⊎ ((x ≡ size) ⊎ (size < x)) → (x < size) ⊎ ((x ≡ size) ⊎ (size < x))
      by h = h

  pub least_is_statement : (x : ℕ) → LiesOnCycle g x → ((q : ℕ) → q < x → LiesOnCycle g q → ⊥) → x < size
  least_is_statement x r least = by (three_ways x)
    where
      by : (x < size) ⊎ ((x ≡ size) ⊎ (size < x)) → x < size
      by (inl h) = h
      by (inr (inl h)) = absurd (not_end x h r)
      by (inr (inr h)) = (let found = beyond x size h in absurd (not_fork x found.0 found.1 r least))
