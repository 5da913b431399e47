-- No work of a run takes more room than there is.
use Rattle.std.specs.Prelude.{ℕ, ◌+◌, ◌≡◌, ◌≢◌, ◌<◌, ◌≤◌, ◌^◌, [], length, sum, IfSome, Some, slice_get}
use Rattle.run_shapes.specs.declared.unit_code.Code.{Code}
use Rattle.run_shapes.specs.declared.unit_code.LineCode.{LineCode}
use Rattle.run_state.specs.Deeds.{advanced}
use Rattle.run_state.specs.Obeyed.{IsPlain}
use Rattle.run_state.specs.Shows.{unit_code}
use Rattle.run_state.specs.declared.machine.Setting.{Setting}
use Rattle.run_state.specs.declared.machine.Stage.{Stage}
use Rattle.run_state.specs.declared.machine.Stage.TheVariants as stage
use Rattle.run_state.specs.declared.machine.State.{State}
use Rattle.run_calls.specs.Calls.{IsReadyFor, referred, entered, left}
use Rattle.run_calls.specs.Laws.{IsNear}
use Rattle.run_ranks.specs.Needs.{rank_at, IsRanked, SizesWithin}
use Rattle.run_ranks.specs.Room.{HasRoom}
use Rattle.run_ranks.specs.declared.ranks.Ranks.{Ranks}

-- a state with room, by the ranks of its code
pub record IsRoom (code : Code) (ranks : Ranks) (most : ℕ) (m : State) : Type 0 where
  pub ranked : IsRanked code ranks
  pub room : HasRoom code ranks most m

-- ---- within a unit

-- there is room for one more item where an instruction stands
abbrev pub PlainIsReady : Type 0
PlainIsReady =
    (code : Code) (ranks : Ranks) (most : ℕ) (m : State) → IsRoom code ranks most m → m.stage ≡ stage.Inside
    → m.frame.place < m.frame.stop
    → length m.values.items < m.values.room

-- an instruction that is no call keeps the room
abbrev pub PlainKeepsRoom : Type 0
PlainKeepsRoom =
    (code : Code) (ranks : Ranks) (most : ℕ) (m new : State) → HasRoom code ranks most m → m.stage ≡ stage.Inside
    → m.frame.place < m.frame.stop → IsPlain (advanced m) new
    → HasRoom code ranks most new

-- a test of a DO leads on to tests, to a point, or to an end
abbrev pub IsTested : Stage → Type 0
IsTested stage.Inside = ⊥
IsTested stage.Carried = ⊥
IsTested stage.Entering = ⊥
IsTested _ = Unit {0}

-- it keeps the room
abbrev pub TestsKeepRoom : Type 0
TestsKeepRoom =
    (code : Code) (ranks : Ranks) (most : ℕ) (m new : State) → HasRoom code ranks most m → m.stage ≡ stage.Testing
    → IsTested new.stage → IsPlain m new → HasRoom code ranks most new

-- a statement begins
abbrev pub line_begun : LineCode → State → State
line_begun l m = record m { stage = stage.Inside; frame = record m.frame { place = l.start; stop = l.stop; card = l.card } }

-- its beginning keeps the room
abbrev pub LinesKeepRoom : Type 0
LinesKeepRoom =
    (code : Code) (ranks : Ranks) (most : ℕ) (m : State) (l : LineCode) → IsRoom code ranks most m → m.stage ≡ stage.Between
    → slice_get (unit_code code m.frame.unit).lines m.frame.line ≡ Some l → HasRoom code ranks most (line_begun l m)

-- ---- calls

-- there is room for each call
abbrev pub CallsAreReady : Type 0
CallsAreReady =
    (code : Code) (ranks : Ranks) (most place : ℕ) (m : State) → IsRoom code ranks most m → m.stage ≡ stage.Inside
    → m.frame.place < m.frame.stop
    → IfSome (slice_get (unit_code code m.frame.unit).calls place) (IsReadyFor (advanced m))

-- a call keeps the room
abbrev pub CallsKeepRoom : Type 0
CallsKeepRoom =
    (code : Code) (setting : Setting) (ranks : Ranks) (most place : ℕ) (m : State) → IsRoom code ranks most m
    → m.stage ≡ stage.Inside → m.frame.place < m.frame.stop
    → HasRoom code ranks most (referred code setting (unit_code code m.frame.unit)
    (slice_get (unit_code code m.frame.unit).calls place) (advanced m))

-- ---- entering

-- there is room for the names of a unit and for their cells
pub record IsReadyToEnter (code : Code) (ranks : Ranks) (m : State) : Type 0 where
  pub extents : length m.extents.items + length (rank_at ranks m.frame.unit).own + length
      (unit_code code m.frame.unit).shared ≤ m.extents.room
  pub cells : length m.cells.items + sum (rank_at ranks m.frame.unit).own ≤ m.cells.room

abbrev pub EntriesAreReady : Type 0
EntriesAreReady = (code : Code) (ranks : Ranks) (most : ℕ) (m : State) → IsRoom code ranks most m
    → m.stage ≡ stage.Entering → IsReadyToEnter code ranks m

-- entering keeps the room, where no own name has more cells than a copy may have
abbrev pub EntriesKeepRoom : Type 0
EntriesKeepRoom =
    (code : Code) (ranks : Ranks) (most : ℕ) (m : State) → IsRoom code ranks most m → m.stage ≡ stage.Entering
    → SizesWithin most (rank_at ranks m.frame.unit).own
    → HasRoom code ranks most (entered (rank_at ranks m.frame.unit).own (unit_code code m.frame.unit).shared m)

-- ---- leaving

-- there is room for the value, and all numbers are those of a machine
pub record IsReadyToLeave (m : State) : Type 0 where
  pub value : m.callers.items ≢ [] → m.frame.floor < m.values.room
  pub cells : length m.cells.items < 2 ^ 64
  pub base : IsNear m.callers.items

abbrev pub LeavesAreReady : Type 0
LeavesAreReady = (code : Code) (ranks : Ranks) (most : ℕ) (m : State) → IsRoom code ranks most m
    → m.stage ≡ stage.Between → IsReadyToLeave m

-- leaving a unit keeps the room
abbrev pub LeavesKeepRoom : Type 0
LeavesKeepRoom =
    (code : Code) (setting : Setting) (ranks : Ranks) (most : ℕ) (m : State) → HasRoom code ranks most m → m.stage ≡ stage.Between
    → HasRoom code ranks most (left code setting (unit_code code m.frame.unit) m)
