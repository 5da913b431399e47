-- What is written of a run that was performed, by what its state tells.
use Rattle.std.specs.Prelude.{ℕ, ◌≡◌, List, [], ◌∷◌, ◌++◌, Option, Some, None, slice_get, codes}
use Rattle.fort_syntax.specs.declared.unit.Unit.{Unit as Routine}
use Rattle.fort_model.specs.Storage.{Storage, contents}
use Rattle.run_state.specs.Rests.{Told, told_by, has_ended, has_erred, is_running}
use Rattle.run_start.specs.declared.refusal.RunRefusal.{RunRefusal}
use Rattle.run_start.specs.declared.refusal.RunRefusal.TheVariants.{NoMemory}
use Rattle.run_eval.specs.declared.entries.Entry.{Entry}
use Rattle.run_eval.specs.declared.runs.Run.{Run}
use Rattle.run_texts.specs.Outcomes.{entry_text, erred_text, own_text}
use Rattle.run_texts.specs.Runs.{refusal_word, refused_text}

-- entries with what their cells hold
abbrev pub listed_text : List Entry → Storage → List ℕ
listed_text [] st = []
listed_text (e ∷ es) st = entry_text e.name (contents st e.cells.first e.cells.size) ++ listed_text es st

-- what a run of a unit with these entries tells
abbrev pub told_text : Routine → List Entry → Told → List ℕ
told_text u es (has_ended v st) = codes "ENDED" ++ listed_text es st ++ own_text u v
told_text u es (has_erred kind card st) = erred_text kind card
told_text u es (is_running st) = codes "RUNNING"

-- what a run of a unit tells, where there is one
abbrev pub text_with : Option Routine → Run → List ℕ
text_with None r = []
text_with (Some u) r = told_text u r.entries (told_by r.state)

-- what a run of one of some units tells
abbrev pub came_text : List Routine → Run → List ℕ
came_text units r = text_with (slice_get units r.unit) r

-- a refusal is told behind a text; want of memory is not
abbrev pub Tells : RunRefusal → List ℕ → List ℕ → Type 0
Tells NoMemory old new = ⊥
Tells r old new = new ≡ old ++ refused_text (refusal_word r)
