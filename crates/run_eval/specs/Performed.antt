-- Runs that begin, and runs that were performed.
use Rattle.std.specs.Prelude.{ℕ, ◌≡◌, List, [], Option, Some, None, Result, Ok, Err, slice_get}
use Rattle.fort_syntax.specs.declared.name.Name.{Name}
use Rattle.fort_syntax.specs.declared.unit.Unit.{Unit as Routine}
use Rattle.fort_notes.specs.declared.cases.Given.{Given}
use Rattle.fort_notes.specs.declared.cases.RunCard.{RunCard}
use Rattle.fort_model.specs.Run.{run}
use Rattle.run_shapes.specs.declared.unit_code.Code.{Code}
use Rattle.run_shapes.specs.declared.unit_code.UnitCode.{UnitCode}
use Rattle.run_state.specs.Rests.{told, told_by}
use Rattle.run_state.specs.Settings.{processor_in}
use Rattle.run_state.specs.declared.machine.Extent.{Extent}
use Rattle.run_state.specs.declared.machine.Setting.{Setting}
use Rattle.run_state.specs.declared.machine.State.{State}
use Rattle.run_ranks.specs.Runnable.{IsRunnable}
use Rattle.run_start.specs.Decks.{AreStarts}
use Rattle.run_start.specs.Started.{IsFirstState, IsRefusedBy, refusal_of, routine_named}
use Rattle.run_start.specs.Starts.{entities, start_environment, start_storage}
use Rattle.run_start.specs.declared.refusal.RunRefusal.{RunRefusal}
use Rattle.run_start.specs.declared.runnable.Runnable.{Runnable}
use Rattle.run_eval.specs.Entries.{entries_in, entries_of}
use Rattle.run_eval.specs.declared.entries.Entry.{Entry}
use Rattle.run_eval.specs.declared.runs.Run.{Run}

-- how the processor of a card runs a deck
abbrev pub setting_of : RunCard → Setting
setting_of card = record {
  bounds = record { least = card.least; greatest = card.greatest };
  lazy =
      card.lazy;
  passing = card.passing;
}

-- what the runs of a deck go by
pub record IsRunDeck (deck : Runnable) : Type 0 where
  pub runnable : IsRunnable deck.units.now deck.code.now deck.ranks.now
  pub starts : AreStarts deck.units.now deck.code.now deck.ranks.now deck.starts.now

-- ---- where a run begins

-- the start entities of a unit with its code, where there is one
abbrev pub entries_with : List Name → Option Routine → Option UnitCode → List Extent → List Entry
entries_with commons None c es = []
entries_with commons (Some u) None es = []
entries_with commons (Some u) (Some c) es = entries_of commons u.dummies c.shared es

-- the start entities of a state whose unit is to be entered
abbrev pub entries_begun : Code → List Routine → State → List Entry
entries_begun code units m = entries_with code.commons (slice_get units m.frame.unit)
    (slice_get code.units m.frame.unit) m.extents.items

-- a first state, with its unit and its start entities
pub record IsFirstRun (deck : Runnable) (setting : Setting) (unit : Name) (given : List Given) (r : Run) : Type 0 where
  pub accepted : refusal_of deck.units.now setting unit given ≡ None
  pub first : IsFirstState deck setting unit given r.state
  pub entries : r.entries ≡ entries_begun deck.code.now deck.units.now r.state
  pub unit_is : r.unit ≡ r.state.frame.unit

-- what the beginning of a run answers
abbrev pub IsBegun : Runnable → Setting → Name → List Given → Result Run RunRefusal → Type 0
IsBegun deck setting unit given (Ok r) = IsFirstRun deck setting unit given r
IsBegun deck setting unit given (Err e) = IsRefusedBy (refusal_of deck.units.now setting unit given) e

-- ---- what a run came to

-- A run of the unit of a card was performed with the card's steps: it tells what the model's run comes to from the start that the
-- card gives, and where the start entities of that unit have their cells.
pub record IsRunOf (deck : Runnable) (setting : Setting) (card : RunCard) (r : Run) : Type 0 where
  pub accepted : refusal_of deck.units.now setting card.unit card.start ≡ None
  pub routine : Routine
  pub is_routine : routine_named deck.units.now card.unit ≡ Some routine
  pub unit_is : slice_get deck.units.now r.unit ≡ Some routine
  pub entries : r.entries ≡ entries_in (start_environment routine card.start) (entities routine)
  pub came : told (run (processor_in deck.code.now.dialect setting) deck.units.now routine
      (start_environment routine card.start) (start_storage routine card.start) card.steps) ≡ told_by r.state

-- what the performing of a run answers
abbrev pub IsPerformed : Runnable → Setting → RunCard → Result Run RunRefusal → Type 0
IsPerformed deck setting card (Ok r) = IsRunOf deck setting card r
IsPerformed deck setting card (Err e) = IsRefusedBy (refusal_of deck.units.now setting card.unit card.start) e
