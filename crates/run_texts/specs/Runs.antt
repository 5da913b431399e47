-- What RUN cards come to.
use Rattle.std.specs.Prelude.{ℕ, suc, ℤ, pos, neg_ℤ, int_le, ◌&&◌, Bool, cond, List, [], ◌∷◌, ◌++◌, Option, Some, None, codes, decimal}
use Rattle.fort_syntax.specs.declared.dialect.Dialect.{Dialect}
use Rattle.fort_syntax.specs.declared.unit.Unit.{Unit as Routine}
use Rattle.fort_notes.specs.declared.cases.RunCard.{RunCard}
use Rattle.fort_model.specs.Program.{Program}
use Rattle.fort_model.specs.Run.{run}
use Rattle.run_state.specs.Settings.{processor_in}
use Rattle.run_start.specs.Started.{refusal_of, routine_named}
use Rattle.run_start.specs.Starts.{start_environment, start_storage}
use Rattle.run_start.specs.declared.refusal.RunRefusal.{RunRefusal}
use Rattle.run_start.specs.declared.refusal.RunRefusal.TheVariants.{UnknownName, BadShape, OutOfRange, ManyCells, NoMemory}
use Rattle.run_eval.specs.Performed.{setting_of}
use Rattle.run_texts.specs.Outcomes.{outcome_text}

-- ---- refusals

-- the integers from least to greatest have all those from -bound to bound
abbrev pub does_reach : ℤ → ℤ → ℕ → Bool
does_reach least greatest bound = int_le least (neg_ℤ (pos bound)) && int_le (pos bound) greatest

-- the word for a refusal
abbrev pub refusal_word : RunRefusal → List ℕ
refusal_word UnknownName = codes "UnknownName"
refusal_word BadShape = codes "BadShape"
refusal_word OutOfRange = codes "OutOfRange"
refusal_word ManyCells = codes "ManyCells"
refusal_word NoMemory = codes "NoMemory"

-- `REFUSED BadShape`
abbrev pub refused_text : List ℕ → List ℕ
refused_text word = codes "REFUSED " ++ word

-- ---- cards

-- the run of a unit in a dialect, among these units, from the start that a card gives, with the card's processor and steps
abbrev pub performed_text : Dialect → List Routine → RunCard → Option Routine → List ℕ
performed_text d units card None = []
performed_text d units card (Some u) =
    outcome_text u (start_environment u card.start) (run (processor_in d (setting_of card)) units u
    (start_environment u card.start) (start_storage u card.start) card.steps)

-- where the card is not refused
abbrev pub started_text : Dialect → List Routine → RunCard → Option RunRefusal → List ℕ
started_text d units card (Some r) = refused_text (refusal_word r)
started_text d units card None = performed_text d units card (routine_named units card.unit)

-- a processor that does not meet the bound is refused first
abbrev pub card_text : Dialect → List Routine → ℕ → RunCard → List ℕ
card_text d units bound card =
    cond (does_reach card.least card.greatest bound) (started_text d units card (refusal_of units (setting_of card) card.unit card.start)) (refused_text (codes "BadProcessor"))

-- `RUN 1 ENDED (I 6)`: the number of a card, and what its run comes to
abbrev pub line_of : ℕ → List ℕ → List ℕ
line_of n text = codes "RUN " ++ decimal n ++ codes " " ++ text ++ codes "\n"

-- a line for each card, the first of which has the number n
abbrev pub run_text : Dialect → List Routine → ℕ → ℕ → List RunCard → List ℕ
run_text d units bound n [] = []
run_text d units bound n (card ∷ cards) = line_of n (card_text d units bound card) ++ run_text d units bound (suc n) cards
