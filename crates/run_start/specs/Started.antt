-- What the start of a run is: refused, or the first state.
use Rattle.std.specs.Prelude.{ℕ, ◌≡◌, cond, List, [], Option, Some, None, Result, Ok, Err, slice_get}
use Rattle.fort_syntax.specs.declared.name.Name.{Name}
use Rattle.fort_syntax.specs.declared.unit.Unit.{Unit as Routine}
use Rattle.fort_notes.specs.declared.cases.Given.{Given}
use Rattle.run_frames.specs.Configs.{entering}
use Rattle.run_ranks.specs.Needs.{rank_at, SizesWithin}
use Rattle.run_ranks.specs.Room.{HasRoom}
use Rattle.run_ranks.specs.declared.ranks.Ranks.{Ranks}
use Rattle.run_shapes.specs.declared.unit_code.Code.{Code}
use Rattle.run_state.specs.Settings.{processor_in}
use Rattle.run_state.specs.Shows.{World, IsWorldOf, Shows}
use Rattle.run_state.specs.declared.machine.Setting.{Setting}
use Rattle.run_state.specs.declared.machine.State.{State}
use Rattle.run_start.specs.Starts.{unit_named, is_unknown_in, has_bad_shape, is_out_of_range, wants_too_many, start_environment, start_storage}
use Rattle.run_start.specs.declared.refusal.RunRefusal.{RunRefusal}
use Rattle.run_start.specs.declared.refusal.RunRefusal.TheVariants.{UnknownName, BadShape, OutOfRange, ManyCells, NoMemory}
use Rattle.run_start.specs.declared.runnable.Runnable.{Runnable}

-- the unit of a name
abbrev pub routine_in : List Routine → Option ℕ → Option Routine
routine_in units None = None
routine_in units (Some i) = slice_get units i

-- the first unit with a name
abbrev pub routine_named : List Routine → Name → Option Routine
routine_named units x = routine_in units (unit_named units x)

-- the refusal for too many cells
abbrev pub count_refusal : List Routine → Routine → List Given → Option RunRefusal
count_refusal units u given = cond (wants_too_many units u given) (Some ManyCells) None

-- or of ranges before
abbrev pub range_refusal : List Routine → Setting → Routine → List Given → Option RunRefusal
range_refusal units setting u given = cond (is_out_of_range setting.bounds given) (Some OutOfRange) (count_refusal units u given)

-- or of shapes before
abbrev pub shape_refusal : List Routine → Setting → Routine → List Given → Option RunRefusal
shape_refusal units setting u given = cond (has_bad_shape u given) (Some BadShape) (range_refusal units setting u given)

-- or of names before; where there is no unit its name is unknown
abbrev pub refusal_in : List Routine → Setting → Option Routine → List Given → Option RunRefusal
refusal_in units setting None given = Some UnknownName
refusal_in units setting (Some u) given = cond (is_unknown_in units setting.passing (Some u) given)
    (Some UnknownName) (shape_refusal units setting u given)

-- the first refusal of a start of the unit of a name, but for want of memory
abbrev pub refusal_of : List Routine → Setting → Name → List Given → Option RunRefusal
refusal_of units setting unit given = refusal_in units setting (routine_named units unit) given

-- what a run of a unit goes by, whose COMMON entities have these cells at the start
abbrev pub start_world : Code → List Routine → Setting → Routine → List Given → World
start_world code units setting u given = record {
  processor = processor_in code.dialect setting;
  units =
      units;
  common = start_environment u given;
}

-- The first state of a run of the unit of number i: it is to be entered, and there is room for the whole run,
-- where no array has more than so many cells.
pub record IsFirst (units : List Routine) (code : Code) (ranks : Ranks) (setting : Setting) (routine : Routine)
    (given : List Given) (m : State) : Type 0 where
  pub world : IsWorldOf code setting (start_world code units setting routine given)
  pub shows : Shows (start_world code units setting routine given) code m
      (entering routine (start_environment routine given) [] []) (start_storage routine given)
  pub most : ℕ
  pub room : HasRoom code ranks most m
  pub own_within : (i : ℕ) → SizesWithin most (rank_at ranks i).own

-- a refusal is the first that there is; want of memory says nothing, since tables are made before all is judged
abbrev pub IsRefusedBy : Option RunRefusal → RunRefusal → Type 0
IsRefusedBy first NoMemory = Unit {0}
IsRefusedBy first r = first ≡ Some r

-- a start is refused by the first refusal that there is, or is a state of this kind where there is none
abbrev pub IsStartBy : Option RunRefusal → (State → Type 0) → Result State RunRefusal → Type 0
IsStartBy first Is (Ok m) = (first ≡ None) × Is m
IsStartBy first Is (Err r) = IsRefusedBy first r

-- the first state of a run of the unit of a number
pub record IsFirstOf (deck : Runnable) (setting : Setting) (i : ℕ) (given : List Given) (m : State) : Type 0 where
  pub its : Routine
  pub is_its : slice_get deck.units.now i ≡ Some its
  pub begun : IsFirst deck.units.now deck.code.now deck.ranks.now setting its given m

-- the first state of a run of the unit of a name
pub record IsFirstState (deck : Runnable) (setting : Setting) (unit : Name) (given : List Given) (m : State) : Type 0 where
  pub routine : Routine
  pub is_routine : routine_named deck.units.now unit ≡ Some routine
  pub first : IsFirst deck.units.now deck.code.now deck.ranks.now setting routine given m

-- what a start answers
abbrev pub IsStarted : Runnable → Setting → Name → List Given → Result State RunRefusal → Type 0
IsStarted deck setting unit given result = IsStartBy (refusal_of deck.units.now setting unit given)
    (IsFirstState deck setting unit given) result
