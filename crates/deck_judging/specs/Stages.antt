-- What is known of a deck behind each stage, and its first fault.
use Rattle.std.specs.Prelude.{◌≡◌, ◌<◌, ◌⊎◌, ℕ, List, length, map, Some, Ok, slice_get}
use Rattle.std.specs.List.{All}
use Rattle.formula.specs.Adding.{AreAdded}
use Rattle.formula.specs.Worth.{functions_of}
use Rattle.formula.specs.declared.definition.Definition.{Definition}
use Rattle.formula.specs.declared.node.Node.{Node}
use Rattle.fort_syntax.specs.WellFormed.{IsWellFormed}
use Rattle.fort_syntax.specs.declared.condition.Condition.{Condition}
use Rattle.fort_syntax.specs.declared.deck.Deck.{Deck}
use Rattle.fort_syntax.specs.declared.dialect.Dialect.{Dialect}
use Rattle.fort_syntax.specs.declared.name.Name.{Name}
use Rattle.fort_syntax.specs.declared.refusal.Fault.{Fault}
use Rattle.fort_syntax.specs.declared.unit.Unit.{Unit as Routine}
use Rattle.fort_notes.specs.Remarks.{Remarks, remarks_of}
use Rattle.fort_notes.specs.declared.notes.Specs.{Specs}
use Rattle.note_units.specs.Sorting.{remarks_tree}
use Rattle.event_text.specs.Conditions.{IsConditionIn, IsDefinitionIn, condition_tree}
use Rattle.alias_rules.specs.Stages.{KeepCalls}
use Rattle.fort_model.specs.Conditions.{AreAllPaths, conditions_of}
use Rattle.fort_model.specs.Fitting.{HasFittingNotes}
use Rattle.fort_model.specs.Paths.{Path}
use Rattle.fort_model.specs.Program.{Program}
use Rattle.fort_model.specs.Rules.{KeepsRules}
use Rattle.fort_model.specs.SmashTables.{IsSmashTable}
use Rattle.fort_model.specs.Stages.{IsFirstBroken, KeepsAll, rules_of_calls, rules_of_flow, rules_of_ranges, rules_of_smashing}
use Rattle.accepted_laws.specs.Accepted.{IsAcceptedAs, IsProgramOf}
use Rattle.accepted_laws.specs.ModelFaults.{IsModelFault}
use Rattle.path_scene.specs.Scenes.{AreNotesIn, IsScene}
use Rattle.path_scene.specs.declared.scene.Scene.{Scene}
use Rattle.path_sizes.specs.Limits.{IsSizeFault, IsWithinLimits}
use Rattle.deck_judging.specs.Calls.{AreCallsKnown}
use Rattle.deck_judging.specs.Judged.{count_of_paths}
use Rattle.deck_judging.specs.Findings.{judged_as}
use Rattle.deck_judging.specs.declared.findings.Findings.{Findings}
use Rattle.deck_judging.specs.declared.found.Judged.{Judged}

-- ---- units

-- units are not too long to have their statements counted
abbrev pub AreShort : List Routine → Type 0
AreShort units = (i : ℕ) (u : Routine) → slice_get units i ≡ Some u → length u.lines < 1073741824

-- ---- notes

-- terms of a pool, definitions that were added among them, are what the notes of a deck say
pub record AreNotesOf (deck : Deck) (pool : List Node) (ds : List Definition) (specs : Specs) : Type 0 where
  pub remarks : remarks_of deck ≡ Ok (remarks_tree pool ds specs)
  pub inside : All (AreNotesIn (length pool)) specs.units
  pub bodies : All (IsDefinitionIn pool) ds
  pub added : AreAdded pool ds

-- ---- calls and smashed names

-- A scene is that of a program which keeps the rules on calls and on smashed names: its units are those of a deck that is well
-- formed and not too long, and its notes fit them.
pub record IsAliased (pool : List Node) (scene : Scene) (p : Program) : Type 0 where
  pub is_scene : IsScene pool scene p
  pub deck : Deck
  pub units : deck.units ≡ p.units
  pub well_formed : IsWellFormed p.dialect deck
  pub fitting : HasFittingNotes p
  pub calls : KeepsAll p rules_of_calls
  pub smashing : KeepsAll p rules_of_smashing
  pub short : AreShort p.units

-- every program of some units that has this table of smashed names is right to have it
abbrev pub HaveTable : List Routine → List (List Name) → Type 0
HaveTable units rows = (p : Program) → p.units ≡ units → p.smashes ≡ rows → IsSmashTable p

-- and keeps the rules on smashed names
abbrev pub KeepSmashing : List Routine → List (List Name) → Type 0
KeepSmashing units rows = (p : Program) → p.units ≡ units → p.smashes ≡ rows → KeepsAll p rules_of_smashing

-- ---- ranges, flow and sizes

abbrev pub KeepsFlow : Program → Type 0
KeepsFlow p = KeepsAll p rules_of_flow

-- a program keeps the rules on ranges and on flow
abbrev pub KeepsScene : Program → Type 0
KeepsScene p = KeepsAll p rules_of_ranges × KeepsFlow p

-- the first fault in the flow, or else of sizes
abbrev pub IsFlowFault : Program → Fault → Type 0
IsFlowFault p f = IsFirstBroken p rules_of_flow f ⊎ (KeepsFlow p × IsSizeFault p f)

-- the first fault in ranges, or else in the flow, or else of sizes
abbrev pub IsSceneFault : Program → Fault → Type 0
IsSceneFault p f = IsFirstBroken p rules_of_ranges f ⊎ (KeepsAll p rules_of_ranges × IsFlowFault p f)

-- a program is within the limits with all its paths, these are its conditions along them, and so many paths they are
pub record AreAllConditions (p : Program) (pool : List Node) (cs : List Condition) (count : ℕ) : Type 0 where
  pub within : (paths : List (List Path)) → AreAllPaths p paths → IsWithinLimits p paths
  pub trees : (paths : List (List Path)) → AreAllPaths p paths → map (condition_tree pool) cs ≡ conditions_of p paths
  pub counted : (paths : List (List Path)) → AreAllPaths p paths → count ≡ count_of_paths paths

-- ---- a deck

-- a deck is accepted, and this is found of it: its definitions and its conditions, as terms of a pool, its
-- counts of units and of paths, its bound, the order of its calls, and the runs and the assignments to
-- conditions that its notes tell
pub record AreConditionsOfDeck (dialect : Dialect) (deck : Deck) (j : Findings) : Type 0 where
  pub r : Remarks
  pub p : Program
  pub paths : List (List Path)
  pub accepted : IsAcceptedAs dialect deck r p paths
  pub within : IsWithinLimits p paths
  pub functions : functions_of j.pool j.definitions ≡ r.definitions
  pub bodies : All (IsDefinitionIn j.pool) j.definitions
  pub added : AreAdded j.pool j.definitions
  pub trees : map (condition_tree j.pool) j.conditions ≡ conditions_of p paths
  pub inside : All (IsConditionIn j.pool) j.conditions
  pub units : j.units ≡ length p.units
  pub counted : j.paths ≡ count_of_paths paths
  pub bound : j.bound ≡ r.bound
  pub calls_kept : KeepCalls deck.units
  pub calls_known : AreCallsKnown deck.units j.order
  pub runs : j.runs ≡ r.runs
  pub tries : j.tries ≡ r.tries

-- a deck is accepted, and this is found of it, with the deck itself
pub record IsFoundAs (dialect : Dialect) (deck : Deck) (j : Judged) : Type 0 where
  pub findings : Findings
  pub conditions : AreConditionsOfDeck dialect deck findings
  pub is : j ≡ judged_as deck findings

-- the first fault of a deck that is well formed: among its notes, in its calls or in a later stage, or else of sizes
abbrev pub IsDeckFault : Dialect → Deck → Fault → Type 0
IsDeckFault dialect deck f =
    IsModelFault dialect deck f ⊎ ((r : Remarks) × (p : Program) × IsProgramOf dialect deck r p × KeepsRules p × IsSizeFault p f)
