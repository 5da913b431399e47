-- What a search for ways has left, and how much it has to do: each step of it leaves less.
use Rattle.std.specs.Prelude.{ℕ, zero, suc, ◌+◌, ◌-◌, Bool, true, false, List, [], ◌∷◌, ◌++◌, length, drop, Option, Some, None, slice_get}
use Rattle.fort_model.specs.declared.graph.Graph.{Graph}
use Rattle.fort_model.specs.declared.graph.Target.{Target}
use Rattle.fort_model.specs.declared.graph.Target.TheVariants.{Point, Fork as AtFork}
use Rattle.path_cut.specs.declared.course.Stage.{Stage}
use Rattle.path_cut.specs.declared.course.Stage.TheVariants.{On, Choose, Back, Ended, Over}
use Rattle.path_cut.specs.declared.step.Step.{Step}
use Rattle.path_cut.specs.declared.step.Step.TheVariants.{At, Choice}
use Rattle.path_cut.specs.Ways.{Way, targets_of, by_each, ways, ways_on, ways_from}

module _ (graph : Graph) (cut : ℕ → Bool) (limit : ℕ) where
  -- ---- what is left

  -- behind some steps, the ways by those targets of a fork that were not tried
  abbrev pub turns_left : ℕ → List Step → ℕ → ℕ → List Way
  turns_left s steps k c = by_each graph cut s (ways graph cut s (limit - suc (length steps))) steps k c
      (drop c (targets_of (slice_get graph.forks k)))

  abbrev pub left_at : ℕ → List Step → Step → List Way
  left_at s steps (At p) = []
  left_at s steps (Choice k c) = turns_left s steps k c

  -- behind some steps, the ways that take others than the next ones
  abbrev pub left_along : ℕ → List Step → List Step → List Way
  left_along s steps [] = []
  left_along s steps (x ∷ xs) = left_along s (steps ++ x ∷ []) xs ++ left_at s steps x

  -- the ways from later starts
  abbrev pub later : ℕ → List Way
  later s = ways_from graph cut limit (suc s) (drop s graph.cuts)

  -- what is left once some steps are undone
  abbrev pub rest : ℕ → List Step → List Way
  rest s steps = left_along s [] steps ++ later s

  abbrev pub left : ℕ → List Step → Stage → List Way
  left s steps (On t) = ways_on graph cut limit s steps t ++ rest s steps
  left s steps (Choose k c) = turns_left s steps k c ++ rest s steps
  left s steps Back = rest s steps
  left s steps (Ended q) = record { start = s; steps = steps; end = q } ∷ rest s steps
  left s steps Over = []

  -- ---- how much is to be done

  abbrev pub statement_work : (Target → ℕ) → Option Target → ℕ
  statement_work on None = 0
  statement_work on (Some t) = suc (on t)

  abbrev pub each_work : (Target → ℕ) → List Target → ℕ
  each_work on [] = 0
  each_work on (t ∷ ts) = 2 + on t + each_work on ts

  abbrev pub point_work : Bool → ℕ → ℕ
  point_work true n = 0
  point_work false n = n

  abbrev pub work : ℕ → Target → ℕ
  work zero t = 1
  work (suc n) (Point q) = 2 + point_work (cut q) (statement_work (work n) (slice_get graph.starts q))
  work (suc n) (AtFork k) = 2 + each_work (work n) (targets_of (slice_get graph.forks k))

  abbrev pub turns_work : List Step → ℕ → ℕ → ℕ
  turns_work steps k c = each_work (work (limit - suc (length steps))) (drop c (targets_of (slice_get graph.forks k)))

  abbrev pub work_at : List Step → Step → ℕ
  work_at steps (At p) = 1
  work_at steps (Choice k c) = 2 + turns_work steps k c

  abbrev pub work_along : List Step → List Step → ℕ
  work_along steps [] = 0
  work_along steps (x ∷ xs) = work_along (steps ++ x ∷ []) xs + work_at steps x

  abbrev pub work_from : List ℕ → ℕ
  work_from [] = 0
  work_from (p ∷ ps) = 2 + statement_work (work (limit - 1)) (slice_get graph.starts p) + work_from ps

  abbrev pub rest_work : ℕ → List Step → ℕ
  rest_work s steps = work_along [] steps + work_from (drop s graph.cuts)

  abbrev pub stage_work : ℕ → List Step → Stage → ℕ
  stage_work s steps (On t) = suc (work (limit - length steps) t + rest_work s steps)
  stage_work s steps (Choose k c) = suc (1 + turns_work steps k c + rest_work s steps)
  stage_work s steps Back = suc (rest_work s steps)
  stage_work s steps (Ended q) = 0
  stage_work s steps Over = 0
