-- Runs from a point that err, and stocks of steps.
use Rattle.std.proofs.Common.{◌≡◌, ℕ, suc, ◌+◌, ◌-◌, ◌<◌, List, Option, Some, slice_get, sym, ap, ◌∙◌, subst, arith}
use Rattle.fort_syntax.specs.declared.condition.Kind.{Kind}
use Rattle.fort_syntax.specs.declared.unit.Line.{Line}
use Rattle.fort_syntax.specs.declared.unit.Unit.{Unit as Routine}
use Rattle.fort_model.specs.Flow.{leads}
use Rattle.fort_model.specs.Outcome.{Outcome, Ended, Erred, Running, Act, step}
use Rattle.fort_model.specs.Perform.{perform}
use Rattle.fort_model.specs.Processor.{Processor}
use Rattle.fort_model.specs.Run.{run, from_point, go_to, at_line}
use Rattle.fort_model.specs.Sites.{calls_before}
use Rattle.fort_model.specs.Storage.{Storage, Environment}
use Rattle.step_laws.specs.Steps.{IsRunning}
use Rattle.step_laws.specs.Unfolded.{run_from}
use Rattle.fort_laws.proofs.Matching.{followed}
use Rattle.step_laws.proofs.Tied.{Behaves, ends, errs, runs}
use Rattle.step_laws.proofs.TiedRuns.{tied_from}
use Rattle.step_laws.proofs.Unfolding.{from_bounded, runs_unfold}

-- what errs with some stock of steps errs with more
erred_more : {A : Type 0} (act : ℕ → Outcome A) (n more bound : ℕ) → more + n < bound → (kind : Kind) (card : ℕ) (after : Storage) → Behaves bound act n → act n ≡ Erred kind card after → act (more + n) ≡ Erred kind card after
erred_more act n more bound lt kind card after (ends a last used le at before) e = let bad : Ended a last (n - used) ≡ Erred kind card after = sym (at n le (omega arith)) ∙ e in absurd (cc)
erred_more act n more bound lt kind card after (errs k c last used le at before) e = at (more + n) (omega arith) lt ∙ sym (at n le (omega arith)) ∙ e
erred_more act n more bound lt kind card after (runs all) e = absurd (subst IsRunning e (all n (omega arith)))

module _ (p : Processor) (units : List Routine) (u : Routine) (env : Environment) (pc : ℕ) (st : Storage) where
  pub erred_later : (n more : ℕ) (kind : Kind) (card : ℕ) (after : Storage) → run_from p units u env pc st n ≡ Erred kind card after → run_from p units u env pc st (more + n) ≡ Erred kind card after
  erred_later n more kind card after e =
      sym (from_bounded p units (suc (more + n)) u env pc st (more + n) (omega arith)).1
      ∙ erred_more (from_point p units (suc (more + n)) u env pc st) n more (suc (more + n)) (omega arith) kind card after
      (tied_from p units (suc (more + n)) (suc (more + n)) (omega arith) u env pc st n (omega arith)).0
      ((from_bounded p units (suc (more + n)) u env pc st n (omega arith)).1 ∙ e)

  -- with no step at a statement nothing is done
  pub none_done : (line : Line) → slice_get u.lines pc ≡ Some line → run_from p units u env pc st 0 ≡ Running st
  none_done line e = (runs_unfold p units u env st 0).1 pc ∙ ap (λ (o : Option Line). at_line o body st 0) e
    where
      body : Line → Act (Unit {0})
      body l = followed step (λ _. followed (perform (record { processor = p; units = units; unit = u; environment = env }) (run p units) l.card pc (calls_before u pc) l.stmt)
          (λ choices. go_to (leads p.dialect u pc l.stmt choices) (run_from p units u env)))
