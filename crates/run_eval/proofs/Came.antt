-- What a run comes to that was begun and went on.
use Rattle.std.proofs.Common.{◌≡◌, ℕ, ◌+◌, ◌<◌, List, [], Option, Some, None, length, get_or, slice_get, refl, sym, ap, ◌∙◌, subst, arith}
use Rattle.std.proofs.lemmas.Option.{slice_get_within, slice_get-get_or}
use Rattle.fort_syntax.specs.declared.name.Name.{Name}
use Rattle.fort_syntax.specs.declared.unit.Unit.{Unit as Routine}
use Rattle.fort_notes.specs.declared.cases.Given.{Given}
use Rattle.fort_notes.specs.declared.cases.RunCard.{RunCard}
use Rattle.fort_model.specs.Run.{run}
use Rattle.fort_model.specs.Storage.{Environment, Storage}
use Rattle.run_frames.specs.Configs.{RunsAreRests, entering, rest}
use Rattle.run_frames.specs.Frames.{Runs}
use Rattle.run_ranks.specs.Needs.{SizesWithin, rank_at}
use Rattle.run_shapes.specs.Coded.{IsCodeOf, IsUnitCodeOf}
use Rattle.run_shapes.specs.declared.unit_code.Code.{Code}
use Rattle.run_shapes.specs.declared.unit_code.UnitCode.{UnitCode}
use Rattle.run_state.specs.Rests.{Tells, Told, told, told_by}
use Rattle.run_state.specs.Settings.{processor_in}
use Rattle.run_state.specs.Shows.{IsWorldOf, Shows, ShowsEntry, World, no_unit}
use Rattle.run_state.specs.declared.machine.Extent.{Extent}
use Rattle.run_state.specs.declared.machine.Setting.{Setting}
use Rattle.run_state.specs.declared.machine.State.{State}
use Rattle.run_start.specs.Started.{IsFirstState, start_world}
use Rattle.run_start.specs.Starts.{entities, start_environment, start_storage}
use Rattle.run_start.specs.declared.runnable.Runnable.{Runnable}
use Rattle.run_steps.specs.Going.{CanGoOn}
use Rattle.run_work.specs.Ways.{WentOf}
use Rattle.run_eval.specs.Entries.{entries_in}
use Rattle.run_eval.specs.Performed.{IsFirstRun, IsRunOf, entries_begun, entries_with}
use Rattle.run_eval.specs.declared.entries.Entry.{Entry}
use Rattle.run_eval.specs.declared.runs.Run.{Run}
use Rattle.run_eval.proofs.Listed.{entries_are}

module _ (deck : Runnable) (setting : Setting) (unit : Name) (given : List Given) (m : State) (h : IsFirstState deck setting unit given m) where
  abbrev code : Code
  code = deck.code.now

  abbrev units : List Routine
  units = deck.units.now

  abbrev env : Environment
  env = start_environment h.routine given

  abbrev st : Storage
  st = start_storage h.routine given

  abbrev world : World
  world = start_world code units setting h.routine given

  -- a first state can go on
  pub can_go_on : CanGoOn deck m
  can_go_on = record { most = h.first.most; room = h.first.room; own_within = h.first.own_within }

  entry : ShowsEntry world code m h.routine env [] [] st
  entry = h.first.shows.1

  pub unit_of_first : slice_get units m.frame.unit ≡ Some h.routine
  unit_of_first = entry.unit_is

  within : m.frame.unit < length code.units
  within =
      let a : m.frame.unit < length units = slice_get_within units m.frame.unit h.routine unit_of_first in
      let b : length code.units ≡ length units = h.first.world.coded.long in
      omega (arith, a, b)

  abbrev its_code : UnitCode
  its_code = get_or code.units m.frame.unit no_unit

  code_told : slice_get code.units m.frame.unit ≡ Some its_code
  code_told = slice_get-get_or code.units m.frame.unit no_unit within

  coded : IsUnitCodeOf units code.commons h.routine its_code
  coded = h.first.world.coded.each m.frame.unit h.routine its_code unit_of_first code_told

  -- its start entities are those of its unit
  pub entries_of_first : entries_begun code units m ≡ entries_in env (entities h.routine)
  entries_of_first =
      ap (λ (o : Option Routine). entries_with code.commons o (slice_get code.units m.frame.unit) m.extents.items) unit_of_first
      ∙ ap (λ (o : Option UnitCode). entries_with code.commons (Some h.routine) o m.extents.items) code_told
      ∙ entries_are env code.commons h.routine.dummies _ its_code.shared m.extents.items entry.names_are coded.commons_shared

  -- after steps it tells what the model's run comes to
  module _ (rests : RunsAreRests) (steps : ℕ) (new : State) (went : WentOf units code setting steps m new) (tells : Tells code setting new) where
    abbrev runs : Runs world.processor units
    runs = (rests world.processor units).0

    pub came_to : told (run (processor_in code.dialect setting) units h.routine env st steps) ≡ told_by new
    came_to =
        let gone = went world h.first.world refl (entering h.routine env [] []) st h.first.shows in
        let none : steps + 0 ≡ steps = omega arith in
        ap told (sym ((rests world.processor units).1 h.routine env st steps))
        ∙ ap (λ (n : ℕ). told (rest runs (entering h.routine env [] []) st n)) (sym none)
        ∙ gone.went runs 0
        ∙ tells world h.first.world gone.place gone.held gone.shows runs

-- a run of a card, with its steps
pub run_came : (deck : Runnable) (setting : Setting) (card : RunCard) (old new : Run) → RunsAreRests → IsFirstRun deck setting card.unit card.start old → new.unit ≡ old.unit → new.entries ≡ old.entries
    → WentOf deck.units.now deck.code.now setting card.steps old.state new.state → Tells deck.code.now setting new.state → IsRunOf deck setting card new
run_came deck setting card old new rests h same kept went tells =
    let f = h.first in
    record {
      accepted = h.accepted;
      routine = f.routine;
      is_routine = f.is_routine;
      unit_is = ap (λ (i : ℕ). slice_get deck.units.now i) (same ∙ h.unit_is) ∙ unit_of_first deck setting card.unit card.start old.state f;
      entries = kept ∙ h.entries ∙ entries_of_first deck setting card.unit card.start old.state f;
      came = came_to deck setting card.unit card.start old.state f rests card.steps new.state went tells;
    }
