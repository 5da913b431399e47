-- What calls do to a state: how actuals are passed on, units entered and left, and copies written back.
use Rattle.std.specs.Prelude.{ℕ, suc, ◌+◌, ◌≡◌, ◌<◌, ◌≤◌, Bool, true, false, cond, List, [], ◌∷◌, ◌++◌, length, sum, take, replicate, Option, Some, None, slice_get, slice_index_or}
use Rattle.formula.specs.declared.value.Cell.{Cell}
use Rattle.formula.specs.declared.value.Cell.TheVariants.{Undefined}
use Rattle.fort_syntax.specs.declared.unit.Unit.{Unit as Routine}
use Rattle.fort_model.specs.Run.{own_sizes}
use Rattle.fort_model.specs.Storage.{Storage, Environment, load, contents, write}
use Rattle.run_rooms.specs.Roomy.{oldest}
use Rattle.run_shapes.specs.declared.unit_code.CallCode.{CallCode}
use Rattle.run_shapes.specs.declared.unit_code.Code.{Code}
use Rattle.run_shapes.specs.declared.unit_code.UnitCode.{UnitCode}
use Rattle.run_state.specs.Near.{far}
use Rattle.run_state.specs.Settings.{copies_by}
use Rattle.run_state.specs.Deeds.{no_cells, size_in, extent_at, newest_in, under_in, lost}
use Rattle.run_state.specs.declared.machine.Extent.{Extent}
use Rattle.run_state.specs.declared.machine.Frame.{Frame}
use Rattle.run_state.specs.declared.machine.Item.{Item}
use Rattle.run_state.specs.declared.machine.Item.TheVariants.{Cells, Fresh}
use Rattle.run_state.specs.declared.machine.Setting.{Setting}
use Rattle.run_state.specs.declared.machine.Stage.TheVariants as stage
use Rattle.run_state.specs.declared.machine.State.{State}

-- ---- passing on

-- how many new cells an actual gets
abbrev pub new_size : Bool → Item → ℕ
new_size copy (Fresh c) = 1
new_size true (Cells e) = e.size
new_size false (Cells e) = 0

-- the cells of a dummy, where new ones begin at next
abbrev pub seat : Bool → Item → ℕ → Extent
seat copy (Fresh c) next = record { first = next; size = 1 }
seat true (Cells e) next = record { first = next; size = e.size }
seat false (Cells e) next = e

-- what the new cells hold, where there were so many before the call
abbrev pub held_in : Bool → Item → ℕ → List Cell → List Cell
held_in copy (Fresh c) base cs = c ∷ []
held_in true (Cells e) base cs = contents (take base cs) e.first e.size
held_in false (Cells e) base cs = []

-- an actual is passed on
abbrev pub handed : Bool → Item → ℕ → State → State
handed copy x base m = record m {
  extents = record m.extents { items = m.extents.items ++ seat copy x (far (length m.cells.items)) ∷ [] };
  cells = record m.cells { items = m.cells.items ++ held_in copy x base m.cells.items };
}

-- the actuals from the i-th on
abbrev pub handed_all : (ℕ → Bool) → ℕ → ℕ → List Item → State → State
handed_all copies i base [] m = m
handed_all copies i base (x ∷ xs) m = handed_all copies (suc i) base xs (handed (copies i) x base m)

-- a unit waits for a call, and another one is to be entered
abbrev pub waiting : Frame → ℕ → ℕ → ℕ → Frame
waiting f k n cells = record f { number = k; actuals = n; base = cells }

abbrev pub new_frame : ℕ → ℕ → Frame
new_frame unit first = record {
  unit = unit;
  line = 0;
  place = 0;
  stop = 0;
  card = 0;
  extents = first;
  before = 0;
  floor = 0;
  number = 0;
  actuals = 0;
  base = 0;
}

abbrev pub put_off : ℕ → ℕ → ℕ → State → State → State
put_off k n unit old m = record m {
  stage = stage.Entering;
  frame = new_frame unit (length old.extents.items);
  callers = record m.callers { items = waiting old.frame k n (length old.cells.items) ∷ m.callers.items };
}

-- the call of a number, of a unit, with so many actuals
abbrev pub called : (ℕ → Bool) → ℕ → ℕ → ℕ → State → State
called copies k n unit m = put_off k n unit m (handed_all copies 1 (length m.cells.items) (newest_in n m.values.items []) m)

-- how many cells some items have
abbrev pub all_cells : List Item → ℕ
all_cells [] = 0
all_cells (x ∷ xs) = size_in x + all_cells xs

-- there is room for so many actuals
pub record HasRoomFor (xs : List Item) (m : State) : Type 0 where
  pub extents : length m.extents.items + length xs ≤ m.extents.room
  pub cells : length m.cells.items + all_cells xs ≤ m.cells.room

-- a call of a unit, where there is one
abbrev pub called_at : Setting → UnitCode → CallCode → ℕ → Option UnitCode → State → State
called_at setting unit call callee None m = lost m
called_at setting unit call callee (Some g) m = called (copies_by setting.passing unit.name call.number)
    call.number call.actuals callee m

abbrev pub called_of : Code → Setting → UnitCode → CallCode → Option ℕ → State → State
called_of code setting unit call None m = lost m
called_of code setting unit call (Some callee) m = called_at setting unit call callee (slice_get code.units callee) m

-- the call of a place in a unit's table
abbrev pub referred : Code → Setting → UnitCode → Option CallCode → State → State
referred code setting unit None m = lost m
referred code setting unit (Some call) m = called_of code setting unit call call.callee m

-- there is room for a call
pub record IsReadyFor (m : State) (call : CallCode) : Type 0 where
  pub actuals : HasRoomFor (newest_in call.actuals m.values.items []) m
  pub frames : length m.callers.items < m.callers.room

-- ---- entering

-- a name gets new cells
abbrev pub given_cells : ℕ → State → State
given_cells size m = record m {
  extents = record m.extents { items = m.extents.items ++ record { first = far (length m.cells.items); size = size } ∷ [] };
  cells = record m.cells { items = m.cells.items ++ replicate size Undefined };
}

abbrev pub given_all : List ℕ → State → State
given_all [] m = m
given_all (size ∷ sizes) m = given_all sizes (given_cells size m)

-- there is room for names with so many cells each
pub record HasRoomToGive (sizes : List ℕ) (m : State) : Type 0 where
  pub extents : length m.extents.items + length sizes ≤ m.extents.room
  pub cells : length m.cells.items + sum sizes ≤ m.cells.room

-- a COMMON entity has the cells that it has in the whole run
abbrev pub shared_one : ℕ → State → State
shared_one j m = record m {
  extents = record m.extents {
    items = m.extents.items ++ slice_index_or m.extents.items
        j no_cells ∷ [];
  };
}

abbrev pub shared_all : List ℕ → State → State
shared_all [] m = m
shared_all (j ∷ js) m = shared_all js (shared_one j m)

abbrev pub begun : State → State
begun m = record m {
  stage = stage.Between;
  frame = record m.frame {
    line = 0;
    before = length m.cells.items;
    floor = length m.values.items;
  };
}

-- a unit is entered whose own names have so many cells, with these COMMON entities
abbrev pub entered : List ℕ → List ℕ → State → State
entered sizes shared m = shared_all shared (given_all sizes (begun m))

-- the unit of a number has own names with so many cells each, whatever it is entered with
abbrev pub AreSizesOf : List Routine → ℕ → List ℕ → Type 0
AreSizesOf units i sizes = (g : Routine) → slice_get units i ≡ Some g → (env : Environment) (st : Storage)
    → sizes ≡ own_sizes g env st

-- ---- leaving

-- the value of a unit
abbrev pub value_at : UnitCode → State → Cell
value_at unit m = cond unit.is_function (load m.cells.items (extent_at m unit.value).first) Undefined

-- a copy is written back
abbrev pub given_back : Bool → Item → ℕ → State → State
given_back copy (Fresh c) next m = m
given_back true (Cells e) next m = record m {
  cells = record m.cells {
    items = write
        (contents m.cells.items next e.size) e.first m.cells.items;
  };
}
given_back false (Cells e) next m = m

abbrev pub given_back_all : (ℕ → Bool) → ℕ → ℕ → List Item → State → State
given_back_all copies i next [] m = m
given_back_all copies i next (x ∷ xs) m = given_back_all copies (suc i) (far (next + new_size (copies i) x)) xs
    (given_back (copies i) x next m)

-- its own cells, its names and its values are dropped
abbrev pub cleared : State → State
cleared m = record m {
  values = record m.values { items = oldest m.frame.floor m.values.items };
  extents = record m.extents { items = take m.frame.extents m.extents.items };
  cells = record m.cells { items = take m.frame.before m.cells.items };
}

-- the first unit ends; another one's caller goes on
abbrev pub ended_with : Cell → State → State
ended_with v m = record m { stage = stage.Ended v }

abbrev pub popped : List Frame → State → State
popped fs m = record m { callers = record m.callers { items = fs } }

abbrev pub back_in : Frame → Cell → State → State
back_in f v m = record m {
  stage = stage.Inside;
  frame = f;
  values = record m.values { items = Fresh v ∷ under_in f.actuals m.values.items };
  cells = record m.cells { items = take f.base m.cells.items };
}

-- which arguments pass by copy in the call that a unit waits for
abbrev pub copies_in : Setting → UnitCode → ℕ → ℕ → Bool
copies_in setting unit = copies_by setting.passing unit.name

-- the actuals that have copies get them back
abbrev pub restored : Setting → UnitCode → Frame → State → State
restored setting unit f m = given_back_all (copies_in setting unit f.number) 1 f.base (newest_in f.actuals m.values.items []) m

abbrev pub returned : Setting → Option UnitCode → Frame → Cell → State → State
returned setting None f v m = lost m
returned setting (Some unit) f v m = back_in f v (restored setting unit f m)

-- a unit is left
abbrev pub left_by : Code → Setting → List Frame → Cell → State → State
left_by code setting [] v m = ended_with v m
left_by code setting (f ∷ fs) v m = returned setting (slice_get code.units f.unit) f v (popped fs m)

abbrev pub left : Code → Setting → UnitCode → State → State
left code setting unit m = left_by code setting m.callers.items (value_at unit m) (cleared m)
