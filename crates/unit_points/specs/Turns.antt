-- Where block IFs lead: for each point the next branch, the END IF, and the point behind it.
use Rattle.std.specs.Prelude.{◌≡◌, ℕ, suc, ◌+◌, ◌≤◌, ◌<◌, Bool, List, length, drop, get_or}
use Rattle.fort_syntax.specs.declared.unit.Line.{Line}
use Rattle.fort_syntax.specs.declared.unit.Unit.{Unit as Routine}
use Rattle.fort_model.specs.Flow.{Part as FlowPart, Opens, Branches, Closes, Plain, lines_before, is_branch, is_close, next_branch, end_if, next_point}
use Rattle.unit_points.specs.declared.parts.Part.{Part}
use Rattle.unit_points.specs.declared.parts.Part.TheVariants as part
use Rattle.unit_points.specs.declared.scan.Scan.{Scan}
use Rattle.unit_points.specs.declared.turns.Turns.{Turns}

-- a part as the flow has it
abbrev pub seen_part : Part → FlowPart
seen_part part.Opens = Opens
seen_part part.Branches = Branches
seen_part part.Closes = Closes
seen_part part.Plain = Plain

-- the first point from one on at which something is sought, where no block IF is open before it
abbrev pub first_from : (FlowPart → ℕ → Bool) → List Line → ℕ → ℕ
first_from sought lines k = k + lines_before sought (drop k lines) 0

-- from a point on, numbers are the first points at which something is sought
abbrev pub AreFirst : (FlowPart → ℕ → Bool) → List Line → ℕ → List ℕ → Type 0
AreFirst sought lines from points = (k : ℕ) → from ≤ k → k ≤ length lines → get_or points k 0 ≡ first_from sought lines k

-- a scan of statements from behind has come to a point
pub record HasScanned (lines : List Line) (from : ℕ) (s : Scan) : Type 0 where
  pub branches_long : length s.branches.items ≡ suc (length lines)
  pub ends_long : length s.ends.items ≡ suc (length lines)
  pub branches : AreFirst is_branch lines from s.branches.items
  pub ends : AreFirst is_close lines from s.ends.items

-- a list has for each point of a unit what a function gives
pub record AreFor (u : Routine) (points : List ℕ) (f : ℕ → ℕ) : Type 0 where
  pub long : length points ≡ length u.lines
  pub each : (k : ℕ) → k < length u.lines → get_or points k 0 ≡ f k

-- the turns of a unit
pub record AreTurnsOf (u : Routine) (t : Turns) : Type 0 where
  pub points : AreFor u t.points.items (next_point u)
  pub branches : AreFor u t.branches.items (next_branch u)
  pub ends : AreFor u t.ends.items (end_if u)
