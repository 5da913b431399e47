-- Which check a run that errs is blamed on.
use Rattle.std.specs.Prelude.{ℕ, ◌≡◌, ◌⊎◌, true, List, Some, slice_get}
use Rattle.fort_syntax.specs.Conditions.{ConditionTree}
use Rattle.formula.specs.declared.value.Cell.TheVariants as cell
use Rattle.formula.specs.declared.value.Value.{Value}
use Rattle.formula.specs.Worth.{Function, nothing_known, is_false_under}
use Rattle.fort_syntax.specs.declared.condition.Kind.{Kind}
use Rattle.fort_syntax.specs.declared.condition.Kind.TheVariants.{InputCheck, AssertCheck, ClockCheck, FallCheck}
use Rattle.fort_syntax.specs.declared.name.Name.{Name}
use Rattle.fort_syntax.specs.declared.unit.Unit.{Unit as Routine}
use Rattle.fort_model.specs.Conditions.{IsExact, sight}
use Rattle.fort_model.specs.Correct.{IsMet, names_hold}
use Rattle.fort_model.specs.Fits.{IsApart, Fits}
use Rattle.fort_model.specs.Fitting.{FitsUnit}
use Rattle.fort_model.specs.Lists.{IsAmong}
use Rattle.fort_model.specs.Outcome.{Erred}
use Rattle.fort_model.specs.Paths.{Path, IsPath}
use Rattle.fort_model.specs.Processor.{Processor}
use Rattle.fort_model.specs.Program.{Program, notes_of}
use Rattle.fort_model.specs.Run.{run}
use Rattle.fort_model.specs.Senses.{of_values}
use Rattle.fort_model.specs.Storage.{Storage, Environment}
use Rattle.fort_model.specs.Symbols.{Symbol}
use Rattle.fort_model.specs.Walk.{walk}
use Rattle.fort_laws.specs.CallLaw.{LieApart}
use Rattle.fort_laws.specs.EntryErrors.{StandAtEntry}
use Rattle.fort_laws.specs.Errors.{IsInOrder, AreGood}
use Rattle.fort_laws.specs.Matches.{FirstFails}
use Rattle.fort_laws.specs.ValidConditions.{Spell}

-- the walk along a path of a unit, from what names hold at the entry, whose first false event is a check of some kind at a card
pub record FailingPath (p : Processor) (program : Program) (i : ℕ) (u : Routine) (env : Environment)
    (st : Storage) (kind : Kind) (card : ℕ) : Type 0 where
  pub values : Symbol → Value
  pub stand : StandAtEntry values p u env st
  pub path : Path
  pub is_path : IsPath program.dialect u (notes_of program i) path
  pub fails : FirstFails kind card (walk (sight (of_values program.functions values) program i u) path)

-- the kinds of what is checked where a walk arrives at an ASSERT
abbrev pub IsAtAssert : Kind → Type 0
IsAtAssert AssertCheck = Unit {0}
IsAtAssert ClockCheck = Unit {0}
IsAtAssert FallCheck = Unit {0}
IsAtAssert _ = ⊥

-- The check that an error is blamed on: its own, one of an arrival at an ASSERT, or one of a called unit's INPUT. Of the last two
-- a run knows nothing.
abbrev pub IsBlamed : Kind → ℕ → Kind → ℕ → Type 0
IsBlamed kind card found place = ((found ≡ kind) × (place ≡ card)) ⊎ (IsAtAssert found ⊎ (found ≡ InputCheck))

pub record Blamed (p : Processor) (program : Program) (i : ℕ) (u : Routine) (env : Environment) (st : Storage)
    (kind : Kind) (card : ℕ) : Type 0 where
  pub found : Kind
  pub place : ℕ
  pub path : FailingPath p program i u env st found place
  pub why : IsBlamed kind card found place

-- Let a run of a unit that is in order err, with notes that fit it and good statements, from a storage that
-- fits, where smashed names lie apart and INPUT is met. Then it is blamed on a check of a path.
abbrev pub ErringRunsAreBlamed : Type 0
ErringRunsAreBlamed =
    (program : Program) (p : Processor) (i : ℕ) (u : Routine) → IsInOrder program p i u → FitsUnit u (notes_of program i)
    → ((env : Environment) → LieApart program.units i u env → AreGood program i u env)
    → (env : Environment) (st : Storage) → IsApart program.units i u env → Fits p u env st
    → IsMet program.functions p (names_hold u env st cell.Undefined) (names_hold u env st cell.Undefined)
    (notes_of program i).input
    → (n : ℕ) (kind : Kind) (card : ℕ) (after : Storage) → run p program.units u env st n ≡ Erred kind card after
    → Blamed p program i u env st kind card

-- A condition of a unit, of some kind at a card, stands in a list, and is false where words give symbols their
-- values: its hypotheses are all true, and its goal is not.
pub record FalseCondition (fs : List Function) (list : List ConditionTree) (unit : Name) (values : Symbol → Value)
    (kind : Kind) (card : ℕ) : Type 0 where
  pub condition : ConditionTree
  pub among : IsAmong condition list
  pub unit_is : condition.unit ≡ unit
  pub kind_is : condition.kind ≡ kind
  pub card_is : condition.card ≡ card
  pub spell : Spell values
  pub is_false : is_false_under fs spell.words nothing_known condition.hyps condition.goal ≡ true

-- where the walk along a path has a check as its first false event, an exact list has a condition of that check that is false
abbrev pub FailingPathsHaveFalseConditions : Type 0
FailingPathsHaveFalseConditions =
    (program : Program) (list : List ConditionTree) → IsExact program list → (i : ℕ) (u : Routine)
    → slice_get program.units i ≡ Some u
    → (values : Symbol → Value) (path : Path) → IsPath program.dialect u (notes_of program i) path → (kind : Kind) (card : ℕ)
    → FirstFails kind card (walk (sight (of_values program.functions values) program i u) path)
    → FalseCondition program.functions list u.name values kind card
