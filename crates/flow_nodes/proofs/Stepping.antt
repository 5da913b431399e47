-- What each node leads to.
use Rattle.std.proofs.Common.{◌≡◌, ℕ, zero, suc, ◌+◌, ◌<◌, ◌≤◌, ◌⊎◌, inl, inr, Bool, true, false, cond, List, [], ◌∷◌, ◌++◌, map, length, get_or, Option, Some, None, slice_get, refl, sym, ap, ◌∙◌, subst, arith}
use Rattle.std.proofs.lemmas.Option.{slice_get_within}
use Rattle.digraph.specs.Graphs.{Has, succs, Edge, IsGraph}
use Rattle.fort_model.specs.declared.graph.Fork.{Fork}
use Rattle.fort_model.specs.declared.graph.Target.{Target}
use Rattle.fort_model.specs.declared.graph.Target.TheVariants.{Point, Fork as AtFork}
use Rattle.fort_model.specs.Graphs.{IsWithin}
use Rattle.fort_model.specs.Lists.{IsAmong}
use Rattle.flow_nodes.specs.Nodes.{node, one_node, fork_nodes, nodes, IsRouted}

none_some : {X : Type 0} (a : X) → ◌≡◌ {A = Option X} None (Some a) → ⊥
none_some a e = cc

some_is : {X : Type 0} (a b : X) → ◌≡◌ {A = Option X} (Some a) (Some b) → a ≡ b
some_is a b e = cc

pub up : (x n k : ℕ) → x ≡ n + 1 + k → suc x ≡ suc n + 1 + k
up x n k e = omega (arith, e)

up_one : (a b : ℕ) → a ≡ b → suc a ≡ 0 + 1 + b
up_one a b e = omega (arith, e)

module _ (size : ℕ) (marks : List Bool) where
  -- an edge leaves a statement for its target, or a fork for one of its targets
  pub data Steps (starts : List Target) (forks : List Fork) : ℕ → ℕ → Type 0 where
    of_start : {x y : ℕ} (t : Target) → slice_get starts x ≡ Some t → y ≡ node size marks t → Steps starts forks x y
    of_fork : {x y : ℕ} (k : ℕ) (f : Fork) (t : Target) → x ≡ length starts + 1 + k → slice_get forks k ≡ Some f → IsAmong t f.targets
        → y ≡ node size marks t → Steps starts forks x y

  -- ---- one row

  in_row : (ts : List Target) (y : ℕ) → Has y (map (node size marks) ts) → (t : Target) × IsAmong t ts × (y ≡ node size marks t)
  in_row [] y h = absurd h
  in_row (t ∷ ts) y (inl e) = (t, (zero, refl), e)
  in_row (t ∷ ts) y (inr h) = (let found = in_row ts y h in (found.0, (suc found.1.0, found.1.1), found.2))

  to_row : (ts : List Target) (k : ℕ) (t : Target) → slice_get ts k ≡ Some t → Has (node size marks t) (map (node size marks) ts)
  to_row [] k t e = absurd (none_some t e)
  to_row (s ∷ ts) zero t e = inl (ap (node size marks) (sym (some_is s t e)))
  to_row (s ∷ ts) (suc k) t e = inr (to_row ts k t e)

  -- ---- the rows of forks

  in_forks : (forks : List Fork) (k y : ℕ) → Has y (get_or (map (fork_nodes size marks) forks) k [])
      → (f : Fork) × (slice_get forks k ≡ Some f) × ((t : Target) × IsAmong t f.targets × (y ≡ node size marks t))
  in_forks [] k y h = absurd h
  in_forks (f ∷ forks) zero y h = (f, refl, in_row f.targets y h)
  in_forks (f ∷ forks) (suc k) y h = in_forks forks k y h

  to_forks : (forks : List Fork) (k : ℕ) (f : Fork) (t : Target) → slice_get forks k ≡ Some f → IsAmong t f.targets
      → Has (node size marks t) (get_or (map (fork_nodes size marks) forks) k [])
  to_forks [] k f t e h = absurd (none_some f e)
  to_forks (g ∷ forks) zero f t e h =
      subst (λ (x : Fork). Has (node size marks t) (map (node size marks) x.targets)) (sym (some_is g f e)) (to_row f.targets h.0 t h.1)
  to_forks (g ∷ forks) (suc k) f t e h = to_forks forks k f t e h

  -- ---- all rows

  shifted : (t : Target) (starts : List Target) (forks : List Fork) (x y : ℕ) → Steps starts forks x y → Steps (t ∷ starts) forks (suc x) y
  shifted t starts forks x y (of_start s e same) = of_start s e same
  shifted t starts forks x y (of_fork k f s at e among same) = of_fork k f s (up x (length starts) k at) e among same

  pub steps_of : (starts : List Target) (forks : List Fork) (x y : ℕ) → Edge (nodes size marks starts forks) x y → Steps starts forks x y
  steps_of [] forks zero y h = absurd h
  steps_of [] forks (suc k) y h = (let found = in_forks forks k y h in of_fork k found.0 found.2.0 (up_one k k refl) found.1 found.2.1 found.2.2)
  steps_of (t ∷ starts) forks zero y (inl e) = of_start t refl e
  steps_of (t ∷ starts) forks zero y (inr h) = absurd h
  steps_of (t ∷ starts) forks (suc x) y h = shifted t starts forks x y (steps_of starts forks x y h)

  pub start_leads : (starts : List Target) (forks : List Fork) (x : ℕ) (t : Target) → slice_get starts x ≡ Some t → Edge (nodes size marks starts forks) x (node size marks t)
  start_leads [] forks x t e = absurd (none_some t e)
  start_leads (s ∷ starts) forks zero t e = inl (ap (node size marks) (sym (some_is s t e)))
  start_leads (s ∷ starts) forks (suc x) t e = start_leads starts forks x t e

  pub fork_leads : (starts : List Target) (forks : List Fork) (k : ℕ) (f : Fork) (t : Target) → slice_get forks k ≡ Some f → IsAmong t f.targets
      → Edge (nodes size marks starts forks) (length starts + 1 + k) (node size marks t)
  fork_leads [] forks k f t e h = subst (λ (x : ℕ). Edge (nodes size marks [] forks) x (node size marks t)) (up_one k k refl) (to_forks forks k f t e h)
  fork_leads (s ∷ starts) forks k f t e h =
      subst (λ (x : ℕ). Edge (nodes size marks (s ∷ starts) forks) x (node size marks t)) (up (length starts + 1 + k) (length starts) k refl) (fork_leads starts forks k f t e h)

  long_forks : (forks : List Fork) → length (map (fork_nodes size marks) forks) ≡ length forks
  long_forks [] = refl
  long_forks (f ∷ forks) = ap suc (long_forks forks)

  pub nodes_long : (starts : List Target) (forks : List Fork) → length (nodes size marks starts forks) ≡ length starts + 1 + length forks
  nodes_long [] forks = up_one (length (map (fork_nodes size marks) forks)) (length forks) (long_forks forks)
  nodes_long (s ∷ starts) forks = up (length (nodes size marks starts forks)) (length starts) (length forks) (nodes_long starts forks)

  -- ---- where a node lies

  landed : (b : Bool) (q : ℕ) → q ≤ size → cond b size q ≤ size
  landed true q h = omega arith
  landed false q h = h

  -- a target within so many forks is a node before the one of that number
  pub node_below : (count : ℕ) (t : Target) → IsWithin size count t → node size marks t < size + 1 + count
  node_below count (Point q) h = (let l = landed (get_or marks q true) q h in omega (arith, l))
  node_below count (AtFork k) h = omega (arith, h)

pub nodes_inside : (marks : List Bool) (starts : List Target) (forks : List Fork) → IsRouted starts forks → IsGraph (nodes (length starts) marks starts forks)
nodes_inside marks starts forks is p q h = by (steps_of (length starts) marks starts forks p q h)
  where
    by : Steps (length starts) marks starts forks p q → q < length (nodes (length starts) marks starts forks)
    by (of_start t e same) =
        let b = node_below (length starts) marks (length forks) t (is.within p t e) in
        let l = nodes_long (length starts) marks starts forks in
        omega (arith, b, l, same)
    by (of_fork k f t at e among same) =
        let b = node_below (length starts) marks k t (is.falling k f t e among) in
        let w = slice_get_within forks k f e in
        let l = nodes_long (length starts) marks starts forks in
        omega (arith, b, w, l, same)
