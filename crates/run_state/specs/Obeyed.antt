-- What it is to do what an instruction says.
use Rattle.std.specs.Prelude.{ℕ, suc, ◌≡◌, ◌≤◌, ⊤, List, [], ◌∷◌, length}
use Rattle.fort_model.specs.Storage.{Storage}
use Rattle.fort_model.specs.Passing.{Taken}
use Rattle.run_code.specs.Code as code_of
use Rattle.run_moves.specs.Moves.{Move, moved}
use Rattle.run_frames.specs.Frames as frames
use Rattle.run_frames.specs.Frames.{Waiting, scene_at}
use Rattle.run_frames.specs.Configs.{placed}
use Rattle.run_shapes.specs.Seen.{seen_in}
use Rattle.run_shapes.specs.declared.instr.Instr.{Instr}
use Rattle.run_shapes.specs.declared.unit_code.Code.{Code}
use Rattle.run_state.specs.Deeds.{size_in}
use Rattle.run_state.specs.Shows.{unit_code, World, IsWorldOf, Shows, ShowsStatement}
use Rattle.run_state.specs.declared.machine.Extent.{Extent}
use Rattle.run_state.specs.declared.machine.Frame.{Frame}
use Rattle.run_state.specs.declared.machine.Item.{Item}
use Rattle.run_state.specs.declared.machine.Setting.{Setting}
use Rattle.run_state.specs.declared.machine.Stage.{Stage}
use Rattle.run_state.specs.declared.machine.Stage.TheVariants as stage
use Rattle.run_state.specs.declared.machine.State.{State}

-- a state shows where a move leads, within a statement of a unit at a card
abbrev pub ShowsMove : World → Code → State → frames.Frame → ℕ → List Waiting → Move → Type 0
ShowsMove w code m f card ws move = Shows w code m (placed w.processor w.units f card ws move).0
    (placed w.processor w.units f card ws move).1

-- behind an instruction a state within a statement became one that shows where the instruction leads
abbrev pub Obeys : Code → Setting → Instr → State → State → Type 0
Obeys code setting i old new =
    (w : World) → IsWorldOf code setting w
    → (f : frames.Frame) (card : ℕ) (is : List code_of.Instr) (ws : List Waiting) (xs : List Taken) (st : Storage)
    → old.stage ≡ stage.Inside → ShowsStatement w code old f card is ws xs st
    → ShowsMove w code new f card ws (moved (scene_at w.processor w.units f) card
    (seen_in (unit_code code old.frame.unit) i) is xs st)

-- ---- room

-- no item, and no extent, has more cells than so many
abbrev pub AreWithin : ℕ → List Item → Type 0
AreWithin most [] = ⊤
AreWithin most (x ∷ xs) = (size_in x ≤ most) × AreWithin most xs

abbrev pub ExtentsWithin : ℕ → List Extent → Type 0
ExtentsWithin most [] = ⊤
ExtentsWithin most (e ∷ es) = (e.size ≤ most) × ExtentsWithin most es

-- the same unit is run
pub record IsSameFrame (old new : Frame) : Type 0 where
  pub unit : new.unit ≡ old.unit
  pub stop : new.stop ≡ old.stop
  pub extents : new.extents ≡ old.extents
  pub before : new.before ≡ old.before
  pub floor : new.floor ≡ old.floor

-- how high the stack is then
abbrev pub IsNoHigher : Stage → State → State → Type 0
IsNoHigher stage.Inside old new = (old.frame.place ≤ new.frame.place) × (length new.values.items ≤ suc (length old.values.items))
IsNoHigher stage.Carried old new = (old.frame.place ≤ new.frame.place) × (length new.values.items ≤ suc (length old.values.items))
IsNoHigher stage.Between old new = length new.values.items ≤ old.frame.floor
IsNoHigher stage.Testing old new = length new.values.items ≤ length old.values.items
IsNoHigher stage.Entering old new = ⊥
IsNoHigher _ old new = ⊤

-- nothing but the stack needed room, and that for one item
pub record IsPlain (old new : State) : Type 0 where
  pub callers : new.callers ≡ old.callers
  pub extents : new.extents ≡ old.extents
  pub cells_room : new.cells.room ≡ old.cells.room
  pub cells : length new.cells.items ≡ length old.cells.items
  pub values_room : new.values.room ≡ old.values.room
  pub frame : IsSameFrame old.frame new.frame
  pub values : IsNoHigher new.stage old new
  pub within : (most : ℕ) → 1 ≤ most → ExtentsWithin most old.extents.items → AreWithin most old.values.items
      → AreWithin most new.values.items
