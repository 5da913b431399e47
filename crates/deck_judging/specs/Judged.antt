-- What is found of a text that is accepted.
use Rattle.std.specs.Prelude.{ℕ, ◌≡◌, ◌+◌, List, [], ◌∷◌, length, map}
use Rattle.std.specs.List.{All}
use Rattle.formula.specs.Adding.{AreAdded}
use Rattle.formula.specs.Worth.{functions_of}
use Rattle.fort_syntax.specs.declared.deck.Deck.{Deck}
use Rattle.fort_syntax.specs.declared.dialect.Dialect.{Dialect}
use Rattle.fort_notes.specs.Remarks.{Remarks}
use Rattle.event_text.specs.Conditions.{IsConditionIn, IsDefinitionIn, condition_tree}
use Rattle.fort_model.specs.Conditions.{conditions_of}
use Rattle.fort_model.specs.Paths.{Path}
use Rattle.fort_model.specs.Program.{Program}
use Rattle.alias_rules.specs.Stages.{KeepCalls}
use Rattle.judging.specs.Judgement.{IsAcceptedIn}
use Rattle.deck_judging.specs.Calls.{AreCallsKnown}
use Rattle.deck_judging.specs.declared.found.Judged.{Judged}

-- how many paths stand in lists of paths
abbrev pub count_of_paths : List (List Path) → ℕ
count_of_paths [] = 0
count_of_paths (paths ∷ rest) = length paths + count_of_paths rest

-- Bytes are accepted in a dialect as a deck; the definitions are those of their notes, and the conditions those
-- of their program along all its paths, all with terms of the pool, to which the definitions were added one
-- after another. The counts are those of its units and of these paths; the bound, the runs and the assignments
-- to conditions are those that the notes tell; and the order is that of calls.
pub record IsJudgedIn (d : Dialect) (bytes : List ℕ) (j : Judged) : Type 0 where
  pub deck : Deck
  pub r : Remarks
  pub p : Program
  pub paths : List (List Path)
  pub accepted : IsAcceptedIn d bytes deck r p paths
  pub functions : functions_of j.pool j.definitions ≡ r.definitions
  pub conditions : map (condition_tree j.pool) j.conditions ≡ conditions_of p paths
  pub definitions_inside : All (IsDefinitionIn j.pool) j.definitions
  pub definitions_added : AreAdded j.pool j.definitions
  pub conditions_inside : All (IsConditionIn j.pool) j.conditions
  pub units : j.units ≡ length p.units
  pub paths_counted : j.paths ≡ count_of_paths paths
  pub is_deck : j.deck ≡ deck
  pub bound : j.bound ≡ r.bound
  pub calls_kept : KeepCalls deck.units
  pub calls_known : AreCallsKnown deck.units j.order
  pub runs : j.runs ≡ r.runs
  pub tries : j.tries ≡ r.tries
