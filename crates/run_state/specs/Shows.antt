-- What a state shows of where a run stands.
use Rattle.std.specs.Prelude.{ℕ, ◌≡◌, true, false, ⊤, List, [], ◌∷◌, ◌++◌, map, drop, length, Some, slice_get, get_or}
use Rattle.formula.specs.Atoms.{is_among, has_twin}
use Rattle.fort_syntax.specs.Names.{own_names, commons, has_common}
use Rattle.fort_syntax.specs.declared.name.Name.{Name}
use Rattle.fort_syntax.specs.declared.unit.Unit.{Unit as Routine}
use Rattle.fort_model.specs.CallFacts.{sites_of_unit}
use Rattle.fort_model.specs.Flow.{Loop}
use Rattle.fort_model.specs.Storage.{Storage, Environment}
use Rattle.fort_model.specs.Passing.{Taken}
use Rattle.fort_model.specs.Processor.{Processor}
use Rattle.run_code.specs.Code.{Instr}
use Rattle.run_frames.specs.Frames as frames
use Rattle.run_frames.specs.Frames.{Waiting}
use Rattle.run_frames.specs.Configs.{Config, entering, between, inside, carried, testing, ended, erred, nowhere}
use Rattle.run_shapes.specs.Seen.{piece, seen_in, loops_of, out_of}
use Rattle.run_shapes.specs.Coded.{slot_names, calls_coded, IsCodeOf}
use Rattle.run_shapes.specs.declared.instr.Instr.{Instr as Coded}
use Rattle.run_shapes.specs.declared.unit_code.CallCode.{CallCode}
use Rattle.run_shapes.specs.declared.unit_code.Code.{Code}
use Rattle.run_shapes.specs.declared.unit_code.UnitCode.{UnitCode}
use Rattle.run_state.specs.Near.{item_of, segment}
use Rattle.run_state.specs.Settings.{processor_in}
use Rattle.run_state.specs.declared.machine.Extent.{Extent}
use Rattle.run_state.specs.declared.machine.Frame.{Frame}
use Rattle.run_state.specs.declared.machine.Setting.{Setting}
use Rattle.run_state.specs.declared.machine.Stage.TheVariants as stage
use Rattle.run_state.specs.declared.machine.State.{State}

-- a unit without statements, for a number that no unit has
abbrev pub no_unit : UnitCode
no_unit = record {
  name = [];
  is_function = false;
  value = 0;
  slots = record { names = []; dummies = 0; own = 0; shapes = []; sizes = [] };
  shared = [];
  tests = [];
  calls = [];
  targets = [];
  instrs = [];
  lines = [];
}

abbrev pub unit_code : Code → ℕ → UnitCode
unit_code code g = get_or code.units g no_unit

-- the instructions that a frame has still to do of its statement
abbrev pub code_left : UnitCode → Frame → List Coded
code_left unit f = piece f.place f.stop unit.instrs

-- what a run goes by, besides code and state: the processor, the units, and the cells of the COMMON entities
pub record World : Type 0 where
  pub processor : Processor
  pub units : List Routine
  pub common : Environment

-- the names that get new cells at each entry
abbrev pub own_names_of : Routine → List Name
own_names_of u = map (λ d. d.name) (own_names u)

-- dummies, names with new cells and COMMON entities of a unit are distinct
pub record HasApartNames (u : Routine) : Type 0 where
  pub dummies_once : has_twin u.dummies ≡ false
  pub own_once : has_twin (own_names_of u) ≡ false
  pub dummies_apart : (x : Name) → is_among x u.dummies ≡ true → is_among x (own_names_of u) ≡ false
  pub commons_apart : (x : Name) → has_common u x ≡ true → (is_among x u.dummies ≡ false) × (is_among x (own_names_of u) ≡ false)
  pub commons_held : (x : Name) → is_among x (commons u) ≡ true → has_common u x ≡ true

-- a call in a unit has an actual for each dummy, and each COMMON entity of the called unit is one of the caller too
pub record IsFitCall (u g : Routine) (call : CallCode) : Type 0 where
  pub counted : call.actuals ≡ length g.dummies
  pub handed_on : (x : Name) → has_common g x ≡ true → has_common u x ≡ true

-- what code and a setting stand for
pub record IsWorldOf (code : Code) (setting : Setting) (w : World) : Type 0 where
  pub run_by : w.processor ≡ processor_in code.dialect setting
  pub coded : IsCodeOf code.dialect w.units code
  pub apart : (i : ℕ) (u : Routine) → slice_get w.units i ≡ Some u → HasApartNames u
  pub fit_calls : (i j k : ℕ) (u g : Routine) (call : CallCode) → slice_get w.units i ≡ Some u → slice_get w.units j ≡ Some g
      → slice_get (calls_coded w.units 1 (sites_of_unit u)) k ≡ Some call → call.callee ≡ Some j → IsFitCall u g call

module _ (w : World) (code : Code) where
  -- the extents of the COMMON entities, and of the names of each unit that waits, the first caller first
  abbrev pub segments : List Waiting → List Extent
  segments [] = segment w.common code.commons
  segments (x ∷ ws) = segments ws ++ segment x.frame.environment (slot_names x.frame.unit)

  -- a frame of numbers is that of a unit, above units that wait
  pub record ShowsFrame (n : Frame) (f : frames.Frame) (ws : List Waiting) : Type 0 where
    pub unit_is : slice_get w.units n.unit ≡ Some f.unit
    pub before_is : n.before ≡ f.before
    pub floor_is : n.floor ≡ f.floor
    pub extents_are : n.extents ≡ length (segments ws)
    pub commons_are : (x : Name) → has_common f.unit x ≡ true → f.environment x ≡ w.common x

  -- the code that a frame of numbers has still to do
  abbrev pub left_seen : Frame → List Instr
  left_seen n = map (seen_in (unit_code code n.unit)) (code_left (unit_code code n.unit) n)

  -- one that waits for a unit that it called
  pub record ShowsWaiting (n : Frame) (x : Waiting) (ws : List Waiting) : Type 0 where
    pub frame_is : ShowsFrame n x.frame ws
    pub card_is : n.card ≡ x.card
    pub code_is : left_seen n ≡ x.left
    pub number_is : n.number ≡ x.number
    pub actuals_are : n.actuals ≡ x.actuals
    pub base_is : n.base ≡ x.base

  abbrev pub ShowsCallers : List Frame → List Waiting → Type 0
  ShowsCallers [] [] = ⊤
  ShowsCallers [] (x ∷ ws) = ⊥
  ShowsCallers (n ∷ ns) [] = ⊥
  ShowsCallers (n ∷ ns) (x ∷ ws) = ShowsWaiting n x ws × ShowsCallers ns ws

  -- the units that wait, the stack and the cells
  pub record ShowsRest (m : State) (ws : List Waiting) (xs : List Taken) (st : Storage) : Type 0 where
    pub callers_are : ShowsCallers m.callers.items ws
    pub values_are : m.values.items ≡ map item_of xs
    pub cells_are : m.cells.items ≡ st

  -- a unit that is to be entered
  pub record ShowsEntry (m : State) (g : Routine) (env : Environment) (ws : List Waiting) (xs : List Taken)
      (st : Storage) : Type 0 where
    pub unit_is : slice_get w.units m.frame.unit ≡ Some g
    pub extents_are : m.frame.extents ≡ length (segments ws)
    pub names_are : m.extents.items ≡ segments ws ++ segment env g.dummies
    pub commons_are : (x : Name) → has_common g x ≡ true → env x ≡ w.common x
    pub rest : ShowsRest m ws xs st

  -- a unit that was entered
  pub record ShowsUnit (m : State) (f : frames.Frame) (ws : List Waiting) (xs : List Taken) (st : Storage) : Type 0 where
    pub frame_is : ShowsFrame m.frame f ws
    pub names_are : m.extents.items ≡ segments ws ++ segment f.environment (slot_names f.unit)
    pub rest : ShowsRest m ws xs st

  -- within a statement at a card, with the code that is left
  pub record ShowsStatement (m : State) (f : frames.Frame) (card : ℕ) (is : List Instr) (ws : List Waiting)
      (xs : List Taken) (st : Storage) : Type 0 where
    pub card_is : m.frame.card ≡ card
    pub code_is : left_seen m.frame ≡ is
    pub unit_shown : ShowsUnit m f ws xs st

  -- before tests of DOs at a card
  pub record ShowsTests (m : State) (f : frames.Frame) (card q : ℕ) (ds : List Loop) (ws : List Waiting)
      (xs : List Taken) (st : Storage) : Type 0 where
    pub card_is : m.frame.card ≡ card
    pub loops_are : loops_of (unit_code code m.frame.unit).slots (drop m.frame.place (unit_code code m.frame.unit).tests) ≡ ds
    pub point_is : out_of (drop m.frame.place (unit_code code m.frame.unit).tests) ≡ q
    pub unit_shown : ShowsUnit m f ws xs st

  -- a state shows where a run stands, in this storage
  abbrev pub Shows : State → Config → Storage → Type 0
  Shows m (entering g env ws xs) st = (m.stage ≡ stage.Entering) × ShowsEntry m g env ws xs st
  Shows m (between f q ws xs) st = (m.stage ≡ stage.Between) × (m.frame.line ≡ q) × ShowsUnit m f ws xs st
  Shows m (inside f card is ws xs) st = (m.stage ≡ stage.Inside) × ShowsStatement m f card is ws xs st
  Shows m (carried f card is ws xs) st = (m.stage ≡ stage.Carried) × ShowsStatement m f card is ws xs st
  Shows m (testing f card q ds ws xs) st = (m.stage ≡ stage.Testing) × ShowsTests m f card q ds ws xs st
  Shows m (ended v) st = (m.stage ≡ stage.Ended v) × (m.cells.items ≡ st)
  Shows m (erred kind card) st = (m.stage ≡ stage.Erred kind) × (m.frame.card ≡ card) × (m.cells.items ≡ st)
  Shows m nowhere st = (m.stage ≡ stage.Nowhere) × (m.cells.items ≡ st)
