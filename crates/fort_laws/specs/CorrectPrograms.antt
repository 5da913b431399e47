-- Soundness: valid conditions make programs totally correct.
use Rattle.std.specs.Prelude.{ℕ, ◌≡◌, List, Some, slice_get}
use Rattle.fort_syntax.specs.Conditions.{ConditionTree}
use Rattle.fort_syntax.specs.declared.unit.Unit.{Unit as Routine}
use Rattle.fort_model.specs.Calls.{Calls}
use Rattle.fort_model.specs.Conditions.{IsExact, AreValid}
use Rattle.fort_model.specs.Correct.{IsTotallyCorrect}
use Rattle.fort_model.specs.Program.{Program}
use Rattle.fort_model.specs.Rules.{KeepsRules}
use Rattle.fort_model.specs.Smashes.{HoldsSmashed}
use Rattle.fort_laws.specs.Declared.{AreDeclared}
use Rattle.fort_laws.specs.StrictPrograms.{CallIsDeclared, IsReady}

-- a program that keeps the rules, with its declarations in order and all units ready, and an exact list of
-- conditions that are valid, is totally correct
abbrev pub ProgramsAreCorrect : Type 0
ProgramsAreCorrect =
    (program : Program) → KeepsRules program → HoldsSmashed program → AreDeclared program.units
    → ((i j : ℕ) (c : Calls program.units i j) → CallIsDeclared c)
    → ((i : ℕ) (u : Routine) → slice_get program.units i ≡ Some u → IsReady program i u)
    → (list : List ConditionTree) → IsExact program list → AreValid program.functions list
    → IsTotallyCorrect program
