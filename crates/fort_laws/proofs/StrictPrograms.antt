-- Programs whose conditions are valid are right on strict processors.
use Rattle.std.proofs.Common.{◌≡◌, ℕ, ◌+◌, false, List, Some, slice_get}
use Rattle.fort_syntax.specs.Conditions.{ConditionTree}
use Rattle.fort_syntax.specs.declared.unit.Unit.{Unit as Routine}
use Rattle.fort_model.specs.Calls.{Calls}
use Rattle.fort_model.specs.Conditions.{IsExact, AreValid}
use Rattle.fort_model.specs.Processor.{Processor, MeetsBound}
use Rattle.fort_model.specs.Program.{Program, notes_of}
use Rattle.fort_model.specs.Rules.{KeepsRules}
use Rattle.fort_model.specs.Smashes.{HoldsSmashed}
use Rattle.fort_laws.specs.Called.{IsReferenceTo, IsCallTo}
use Rattle.fort_laws.specs.CallLaw.{IsRight}
use Rattle.fort_laws.specs.Declared.{AreDeclared}
use Rattle.fort_laws.specs.StrictPrograms.{CallIsDeclared, IsReady, StrictProgramsAreCorrect}
use Rattle.fort_laws.proofs.GoodStatements.{typed_are_good}
use Rattle.fort_laws.proofs.Ranks.{Ranked, ranked, all_ranked}
use Rattle.fort_laws.proofs.RightUnits.{safe_units_are_right}
use Rattle.fort_laws.proofs.RulesGive.{has_statement, is_cut_up, none_reaches_itself, clock_parts, clocks_agree}
use Rattle.fort_laws.proofs.RulesKept.{rules_make_sound, rules_pass_smashed_alone, sorts_agree}
use Rattle.fort_laws.proofs.ValidPaths.{valid_conditions_make_paths_safe}

module _ (program : Program) (keeps : KeepsRules program) (table : HoldsSmashed program) (declared : AreDeclared program.units) (calls : (i j : ℕ) (c : Calls program.units i j) → CallIsDeclared c)
    (ready : (i : ℕ) (u : Routine) → slice_get program.units i ≡ Some u → IsReady program i u) (list : List ConditionTree) (exact : IsExact program list) (valid : AreValid program.functions list)
    (p : Processor) (strict : p.lazy ≡ false) (dialects : p.dialect ≡ program.dialect) (bounded : MeetsBound p program.bound) where
  -- units in the order of their calls
  right_by : (i : ℕ) → Ranked program.units i → (u : Routine) → slice_get program.units i ≡ Some u → IsRight p program i u
  right_by i (ranked before) u is =
      let r = ready i u is in
      safe_units_are_right program p i u strict bounded dialects is (rules_make_sound program keeps table declared) table declared.blocks
      (rules_pass_smashed_alone program keeps table declared.blocks).1 r.names r.blocks r.notes r.returns (has_statement program keeps i u is)
      (record {
        agrees = λ j c. record { apart = (calls i j c).apart; dummies = sorts_agree program keeps table declared i j c; commons = (calls i j c).commons };
        names = λ j c. (ready j c.callee c.is_callee).names;
        right = λ j c. right_by j (before j c) c.callee c.is_callee;
      })
      (typed_are_good program.units i u ((rules_make_sound program keeps table declared).units_are i u is) is (IsReferenceTo program i u) (IsCallTo program i u) r.statements) (is_cut_up program keeps i u is) (clock_parts program keeps (notes_of program i).asserts) (clocks_agree program keeps i u is)
      (valid_conditions_make_paths_safe program list exact valid i u is)

  pub right_units : (i : ℕ) (u : Routine) → slice_get program.units i ≡ Some u → IsRight p program i u
  right_units i u is = right_by i (all_ranked program.units (none_reaches_itself program keeps) i) u is

pub strict_programs_are_correct : StrictProgramsAreCorrect
strict_programs_are_correct program keeps table declared calls ready list exact valid p i u env st strict dialects bounded is apart fits met =
    let r = right_units program keeps table declared calls ready list exact valid p strict dialects bounded i u is env st apart fits met in
    record { steps = r.cost + 0; spare = 0; storage = r.after; value = r.value; ended = r.ends 0; met = r.met }
