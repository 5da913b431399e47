-- What valid conditions say of walks along paths.
use Rattle.std.specs.Prelude.{ℕ, ◌≡◌, List, Some, slice_get}
use Rattle.fort_syntax.specs.Conditions.{ConditionTree}
use Rattle.formula.specs.declared.value.Value.{Value}
use Rattle.formula.specs.Worth.{Valuation}
use Rattle.fort_syntax.specs.declared.unit.Unit.{Unit as Routine}
use Rattle.fort_model.specs.Conditions.{IsExact, AreValid}
use Rattle.fort_model.specs.Program.{Program}
use Rattle.fort_model.specs.Senses.{by_words}
use Rattle.fort_model.specs.Symbols.{Symbol}
use Rattle.fort_laws.specs.FewSymbols.{PathsAreSafe}

-- words that give symbols their values
pub record Spell (values : Symbol → Value) : Type 0 where
  pub words : Valuation
  pub same : (s : Symbol) → by_words words s ≡ values s

-- no two symbols have one word: whatever symbols stand for, words can stand for
abbrev pub WordsTellSymbols : Type 0
WordsTellSymbols = (values : Symbol → Value) → Spell values

-- where an exact list of conditions is valid, no walk along a path of a unit has a check as its first false event
abbrev pub ValidConditionsMakePathsSafe : Type 0
ValidConditionsMakePathsSafe =
    (program : Program) (list : List ConditionTree) → IsExact program list → AreValid program.functions list
    → (i : ℕ) (u : Routine) → slice_get program.units i ≡ Some u → PathsAreSafe program.functions program i u
