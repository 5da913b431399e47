-- The way that a cursor shows.
use Rattle.std.proofs.Common.{◌≡◌, ℕ, List, Option, Some, None, ap}
use Rattle.path_cut.specs.Courses.{ended_by}
use Rattle.path_cut.specs.Cursor.{way_at}
use Rattle.path_cut.specs.Ways.{Way}
use Rattle.path_cut.specs.declared.course.Stage.{Stage}
use Rattle.path_cut.specs.declared.course.Stage.TheVariants.{Back, Choose, Ended, On, Over}
use Rattle.path_cut.specs.declared.paths.Paths.{Paths}
use Rattle.path_cut.specs.declared.step.Step.{Step}

none_some : (a : Way) → ◌≡◌ {A = Option Way} None (Some a) → ⊥
none_some a e = cc

some_is : (a b : Way) → ◌≡◌ {A = Option Way} (Some a) (Some b) → a ≡ b
some_is a b e = cc

steps_ended : (s : ℕ) (steps : List Step) (stage : Stage) (way : Way) → ended_by s steps stage ≡ Some way → steps ≡ way.steps
steps_ended s steps (On t) way e = absurd (none_some way e)
steps_ended s steps (Choose k c) way e = absurd (none_some way e)
steps_ended s steps Back way e = absurd (none_some way e)
steps_ended s steps (Ended q) way e = ap (λ (w : Way). w.steps) (some_is (record { start = s; steps = steps; end = q }) way e)
steps_ended s steps Over way e = absurd (none_some way e)

-- it has the steps of the course
pub steps_seen : (p : Paths) (way : Way) → way_at p ≡ Some way → p.course.steps.items ≡ way.steps
steps_seen p way e = steps_ended p.course.start p.course.steps.items p.course.stage way e
