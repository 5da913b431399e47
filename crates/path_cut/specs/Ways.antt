-- The ways through a graph from a start to the next cut point, in order.
use Rattle.std.specs.Prelude.{ℕ, zero, suc, ◌+◌, ◌-◌, Bool, true, false, List, [], ◌∷◌, ◌++◌, length, Option, Some, None, slice_get, set, replicate, unwrap_or}
use Rattle.fort_model.specs.declared.graph.Fork.{Fork}
use Rattle.fort_model.specs.declared.graph.Graph.{Graph}
use Rattle.fort_model.specs.declared.graph.Target.{Target}
use Rattle.fort_model.specs.declared.graph.Target.TheVariants.{Point, Fork as AtFork}
use Rattle.path_cut.specs.declared.step.Step.{Step}
use Rattle.path_cut.specs.declared.step.Step.TheVariants.{At, Choice}

-- a way: the number of its start, 0 for the entry and else that of an ASSERT, counted from 1; its steps; and
-- the point that ends it
pub record Way : Type 0 where
  pub start : ℕ
  pub steps : List Step
  pub end : ℕ

abbrev pub targets_of : Option Fork → List Target
targets_of None = []
targets_of (Some f) = f.targets

-- a point has a mark, or is none of those that can have one
abbrev pub is_marked : List Bool → ℕ → Bool
is_marked marks q = unwrap_or (slice_get marks q) true

-- marks, and marks at some points more
abbrev pub marked : List Bool → List ℕ → List Bool
marked marks [] = marks
marked marks (q ∷ qs) = marked (set marks q true) qs

-- marks on the statements that have an ASSERT
abbrev pub marks_of : Graph → List Bool
marks_of graph = marked (replicate graph.size false) graph.cuts

-- more steps than a way has: each statement stands on it once, and each fork
abbrev pub limit_of : Graph → ℕ
limit_of graph = graph.size + length graph.forks + 3

module _ (graph : Graph) (cut : ℕ → Bool) where
  module _ (s : ℕ) where
    -- the ways that go on behind a statement
    abbrev pub behind_statement : (List Step → Target → List Way) → List Step → ℕ → Option Target → List Way
    behind_statement on steps p None = []
    behind_statement on steps p (Some t) = on (steps ++ At p ∷ []) t

    -- the ways that go on by each target of a fork, where so many others stand before
    abbrev pub by_each : (List Step → Target → List Way) → List Step → ℕ → ℕ → List Target → List Way
    by_each on steps k c [] = []
    by_each on steps k c (t ∷ ts) = on (steps ++ Choice k (suc c) ∷ []) t ++ by_each on steps k (suc c) ts

    -- at a cut point a way ends
    abbrev pub end_or : Bool → List Step → ℕ → List Way → List Way
    end_or true steps q on = record { start = s; steps = steps; end = q } ∷ []
    end_or false steps q on = on

    -- the ways that have some steps and go on from a target by fewer steps than some number
    abbrev pub ways : ℕ → List Step → Target → List Way
    ways zero steps t = []
    ways (suc n) steps (Point q) = end_or (cut q) steps q (behind_statement (ways n) steps q (slice_get graph.starts q))
    ways (suc n) steps (AtFork k) = by_each (ways n) steps k 0 (targets_of (slice_get graph.forks k))

  module _ (limit : ℕ) where
    -- the same, where all steps are fewer than a limit
    abbrev pub ways_on : ℕ → List Step → Target → List Way
    ways_on s steps t = ways s (limit - length steps) steps t

    -- the ways from ASSERTs at some points, of which the first has a number
    abbrev pub ways_from : ℕ → List ℕ → List Way
    ways_from s [] = []
    ways_from s (p ∷ ps) = behind_statement s (ways_on s) [] p (slice_get graph.starts p) ++ ways_from (suc s) ps

    -- all ways, from the entry and from the ASSERTs
    abbrev pub all_ways : List Way
    all_ways = ways_on 0 [] (Point 0) ++ ways_from 1 graph.cuts

-- the ways of a graph
abbrev pub ways_of : Graph → List Way
ways_of graph = all_ways graph (is_marked (marks_of graph)) (limit_of graph)
