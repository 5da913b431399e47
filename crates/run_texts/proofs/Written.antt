-- What is written of a run that was performed is what the card's run comes to.
use Rattle.std.proofs.Common.{◌≡◌, ℕ, ◌<◌, ◌^◌, ◌++◌, Bool, true, false, cond, List, [], ◌∷◌, length, codes, Option, Some, None, slice_get, refl, sym, ap, ◌∙◌, subst}
use Rattle.formula.specs.declared.value.Cell.{Cell}
use Rattle.fort_syntax.specs.declared.dialect.Dialect.{Dialect}
use Rattle.fort_syntax.specs.declared.name.Name.{Name}
use Rattle.fort_syntax.specs.declared.unit.Unit.{Unit as Routine}
use Rattle.fort_notes.specs.declared.cases.RunCard.{RunCard}
use Rattle.fort_model.specs.Outcome.{Outcome, Ended, Erred, Running}
use Rattle.fort_model.specs.Run.{run}
use Rattle.fort_model.specs.Storage.{Environment, Storage, contents}
use Rattle.run_state.proofs.Nearly.{contents_far}
use Rattle.run_state.specs.Rests.{Told, has_ended, has_erred, is_running, told, told_by, told_in}
use Rattle.run_state.specs.Settings.{processor_in}
use Rattle.run_state.specs.declared.machine.Setting.{Setting}
use Rattle.run_state.specs.declared.machine.Stage.{Stage}
use Rattle.run_state.specs.declared.machine.Stage.TheVariants as stage
use Rattle.run_state.specs.declared.machine.State.{State}
use Rattle.run_start.specs.Started.{IsRefusedBy, refusal_of, routine_named}
use Rattle.run_start.specs.Starts.{entities, start_environment, start_storage}
use Rattle.run_start.specs.declared.refusal.RunRefusal.{RunRefusal}
use Rattle.run_start.specs.declared.refusal.RunRefusal.TheVariants.{UnknownName, BadShape, OutOfRange, ManyCells, NoMemory}
use Rattle.run_start.specs.declared.runnable.Runnable.{Runnable}
use Rattle.run_eval.specs.Entries.{entries_in}
use Rattle.run_eval.specs.Performed.{IsRunOf, setting_of}
use Rattle.run_eval.specs.declared.entries.Entry.{Entry}
use Rattle.run_eval.specs.declared.runs.Run.{Run}
use Rattle.run_texts.specs.Outcomes.{entries_text, entry_text, outcome_text, own_text}
use Rattle.run_texts.specs.Runs.{performed_text, refusal_word, refused_text, started_text}
use Rattle.run_texts.specs.Told.{Tells, came_text, listed_text, text_with, told_text}

-- ---- what ended

listed_is : (env : Environment) (st : Storage) (xs : List Name) → length st < 2 ^ 64 → listed_text (entries_in env xs) st ≡ entries_text env st xs
listed_is env st [] small = refl
listed_is env st (x ∷ xs) small =
    ap (λ (cs : List Cell). entry_text x cs ++ listed_text (entries_in env xs) st) (contents_far st (env x).first (env x).size small)
    ∙ ap (λ (t : List ℕ). entry_text x (contents st (env x).first (env x).size) ++ t) (listed_is env st xs small)

abbrev held_in : Told → Storage
held_in (has_ended v st) = st
held_in (has_erred kind card st) = st
held_in (is_running st) = st

held_told : (s : Stage) (card : ℕ) (st : Storage) → held_in (told_in s card st) ≡ st
held_told (stage.Ended v) card st = refl
held_told (stage.Erred kind) card st = refl
held_told _ card st = refl

told_is : (u : Routine) (env : Environment) (o : Outcome Cell) → length (held_in (told o)) < 2 ^ 64 → told_text u (entries_in env (entities u)) (told o) ≡ outcome_text u env o
told_is u env (Ended v st left) small = ap (λ (t : List ℕ). codes "ENDED" ++ t ++ own_text u v) (listed_is env st (entities u) small)
told_is u env (Erred kind card st) small = refl
told_is u env (Running st) small = refl

module _ (deck : Runnable) (card : RunCard) (r : Run) (small : length r.state.cells.items < 2 ^ 64) (h : IsRunOf deck (setting_of card) card r) where
  abbrev env : Environment
  env = start_environment h.routine card.start

  abbrev outcome : Outcome Cell
  outcome = run (processor_in deck.code.now.dialect (setting_of card)) deck.units.now h.routine env (start_storage h.routine card.start) card.steps

  small_told : length (held_in (told outcome)) < 2 ^ 64
  small_told = subst (λ (st : Storage). length st < 2 ^ 64) (sym (ap held_in h.came ∙ held_told r.state.stage r.state.frame.card r.state.cells.items)) small

  pub run_written : came_text deck.units.now r ≡ started_text deck.code.now.dialect deck.units.now card (refusal_of deck.units.now (setting_of card) card.unit card.start)
  run_written =
      ap (λ (o : Option Routine). text_with o r) h.unit_is
      ∙ ap (λ (es : List Entry). told_text h.routine es (told_by r.state)) h.entries
      ∙ ap (λ (t : Told). told_text h.routine (entries_in env (entities h.routine)) t) (sym h.came)
      ∙ told_is h.routine env outcome small_told
      ∙ ap (λ (o : Option Routine). performed_text deck.code.now.dialect deck.units.now card o) (sym h.is_routine)
      ∙ ap (λ (o : Option RunRefusal). started_text deck.code.now.dialect deck.units.now card o) (sym h.accepted)

-- ---- what was refused

module _ (deck : Runnable) (card : RunCard) (old new : List ℕ) where
  by_refusal : (e : RunRefusal) → refusal_of deck.units.now (setting_of card) card.unit card.start ≡ Some e → new ≡ old ++ refused_text (refusal_word e)
      → new ≡ old ++ started_text deck.code.now.dialect deck.units.now card (refusal_of deck.units.now (setting_of card) card.unit card.start)
  by_refusal e is put = put ∙ ap (λ (o : Option RunRefusal). old ++ started_text deck.code.now.dialect deck.units.now card o) (sym is)

  pub refusal_written : (e : RunRefusal) → IsRefusedBy (refusal_of deck.units.now (setting_of card) card.unit card.start) e → Tells e old new
      → new ≡ old ++ started_text deck.code.now.dialect deck.units.now card (refusal_of deck.units.now (setting_of card) card.unit card.start)
  refusal_written UnknownName is put = by_refusal UnknownName is put
  refusal_written BadShape is put = by_refusal BadShape is put
  refusal_written OutOfRange is put = by_refusal OutOfRange is put
  refusal_written ManyCells is put = by_refusal ManyCells is put
  refusal_written NoMemory is put = absurd put
