-- What contracts see of a cursor over paths.
use Rattle.std.specs.Prelude.{List, Option}
use Rattle.path_cut.specs.declared.paths.Paths.{Paths}
use Rattle.path_cut.specs.declared.paths.PathView.{PathView}
use Rattle.path_cut.specs.Courses.{left_of, way_now, SharesSteps}
use Rattle.path_cut.specs.Ways.{Way}

-- the ways that are left behind the one that it stands at
abbrev pub ways_left : Paths → List Way
ways_left p = left_of p.flow p.course

-- the way that it stands at
abbrev pub way_at : Paths → Option Way
way_at p = way_now p.course

-- the way of a view
abbrev pub way_seen : PathView → Way
way_seen v = record { start = v.start; steps = v.steps.now; end = v.end }

-- the first steps, as many as are shared, are those of the way before
abbrev pub SharesView : Paths → Paths → Type 0
SharesView old new = SharesSteps old.course new.course
