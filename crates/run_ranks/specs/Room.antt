-- Room: no work and no step takes memory.
use Rattle.std.specs.Prelude.{ℕ, suc, ◌+◌, ◌-◌, ◌^◌, ◌≤◌, ◌<◌, List, [], ◌∷◌, length}
use Rattle.run_shapes.specs.declared.unit_code.Code.{Code}
use Rattle.run_state.specs.Shows.{unit_code}
use Rattle.run_state.specs.Obeyed.{AreWithin, ExtentsWithin}
use Rattle.run_state.specs.declared.machine.Frame.{Frame}
use Rattle.run_state.specs.declared.machine.Stage.{Stage}
use Rattle.run_state.specs.declared.machine.Stage.TheVariants as stage
use Rattle.run_state.specs.declared.machine.State.{State}
use Rattle.run_ranks.specs.Needs.{cells_need, rank_at}
use Rattle.run_ranks.specs.declared.ranks.Ranks.{Ranks}

-- how much room there is for frames, values, extents and cells, and how many cells a copy has at most
pub record Rooms : Type 0 where
  pub frames : ℕ
  pub values : ℕ
  pub names : ℕ
  pub cells : ℕ
  pub most : ℕ

abbrev pub rooms_of : ℕ → State → Rooms
rooms_of most m = record {
  frames = m.callers.room;
  values = m.values.room;
  names = m.extents.room;
  cells = m.cells.room;
  most = most;
}

-- a unit that is run with so many frames, values and extents below its own
pub record HasNeeds (ranks : Ranks) (r : Rooms) (unit floor first count : ℕ) : Type 0 where
  pub frames : count + (rank_at ranks unit).frames ≤ r.frames
  pub values : floor + (rank_at ranks unit).values ≤ r.values
  pub names : first + (rank_at ranks unit).names ≤ r.names

-- a unit that is run, which had so many cells before its own, where there are so many now
pub record HasCells (ranks : Ranks) (r : Rooms) (unit before count : ℕ) : Type 0 where
  pub some : count ≤ before + (rank_at ranks unit).cells
  pub all : before + cells_need r.most (rank_at ranks unit) ≤ r.cells

-- frames that wait under a unit with this floor, whose extents begin there
pub record IsRoomy (ranks : Ranks) (r : Rooms) (floor first : ℕ) (f : Frame) (below : List Frame) : Type 0 where
  pub needs : HasNeeds ranks r f.unit f.floor f.extents (length below)
  pub cells : HasCells ranks r f.unit f.before f.base
  pub height : suc floor + (f.stop - f.place) ≤ f.floor + (rank_at ranks f.unit).long
  pub extents : first ≤ f.extents + (rank_at ranks f.unit).slots

abbrev pub AreRoomy : Ranks → Rooms → ℕ → ℕ → List Frame → Type 0
AreRoomy ranks r floor first [] = Unit {0}
AreRoomy ranks r floor first (f ∷ fs) = IsRoomy ranks r floor first f fs × AreRoomy ranks r f.floor f.extents fs

-- the unit that is run, at this floor, with so many extents
pub record Fits (ranks : Ranks) (r : Rooms) (m : State) (floor names : ℕ) : Type 0 where
  pub needs : HasNeeds ranks r m.frame.unit floor m.frame.extents (length m.callers.items)
  pub callers : AreRoomy ranks r floor m.frame.extents m.callers.items
  pub extents : length m.extents.items ≤ m.frame.extents + names
  pub small : r.cells < 2 ^ 64
  pub most : 1 ≤ r.most
  pub extents_within : ExtentsWithin r.most m.extents.items
  pub values_within : AreWithin r.most m.values.items

abbrev pub HasRoomIn : Stage → Code → Ranks → Rooms → State → Type 0
HasRoomIn stage.Entering code ranks r m =
    Fits ranks r m (length m.values.items) (unit_code code m.frame.unit).slots.dummies
    × (length m.cells.items + cells_need r.most (rank_at ranks m.frame.unit) ≤ r.cells)
HasRoomIn stage.Between code ranks r m =
    Fits ranks r m m.frame.floor (rank_at ranks m.frame.unit).slots
    × HasCells ranks r m.frame.unit m.frame.before (length m.cells.items)
    × (length m.values.items ≤ m.frame.floor)
HasRoomIn stage.Inside code ranks r m =
    Fits ranks r m m.frame.floor (rank_at ranks m.frame.unit).slots
    × HasCells ranks r m.frame.unit m.frame.before (length m.cells.items)
    × (length m.values.items + (m.frame.stop - m.frame.place) ≤ m.frame.floor + (rank_at ranks m.frame.unit).long)
HasRoomIn stage.Carried code ranks r m =
    Fits ranks r m m.frame.floor (rank_at ranks m.frame.unit).slots
    × HasCells ranks r m.frame.unit m.frame.before (length m.cells.items)
    × (length m.values.items + (m.frame.stop - m.frame.place) ≤ m.frame.floor + (rank_at ranks m.frame.unit).long)
HasRoomIn stage.Testing code ranks r m =
    Fits ranks r m m.frame.floor (rank_at ranks m.frame.unit).slots
    × HasCells ranks r m.frame.unit m.frame.before (length m.cells.items)
    × (length m.values.items ≤ m.frame.floor + (rank_at ranks m.frame.unit).long)
HasRoomIn _ code ranks r m = Unit {0}

abbrev pub HasRoom : Code → Ranks → ℕ → State → Type 0
HasRoom code ranks most m = HasRoomIn m.stage code ranks (rooms_of most m) m
