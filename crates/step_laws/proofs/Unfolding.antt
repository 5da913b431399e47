-- Runs without fuel.
use Rattle.std.proofs.Common.{ℕ, suc, List, length, slice_get, sym, arith}
use Rattle.fort_syntax.specs.declared.unit.Unit.{Unit as Routine}
use Rattle.fort_model.specs.Outcome.{held}
use Rattle.fort_model.specs.Processor.{Processor}
use Rattle.fort_model.specs.Run.{run, run_within, from_point}
use Rattle.fort_model.specs.Storage.{Environment}
use Rattle.step_laws.specs.Unfolded.{run_from, run_on, run_whole, RunsUnfold}
use Rattle.step_laws.proofs.Tied.{Tied, tied_then, tied_before, tied_give, tied_held, tied_put, tied_after_step, tied_step_then}
use Rattle.step_laws.proofs.TiedParts.{tied_perform}
use Rattle.step_laws.proofs.TiedRuns.{tied_run, tied_from, tied_go_to, tied_at_line, tied_leave}

module _ (p : Processor) (units : List Routine) where
  -- below a bound, a run with the bound as its fuel is the run
  run_bounded : (bound : ℕ) (u : Routine) (env : Environment) → Tied bound (run_within p units bound u env) (run p units u env)
  run_bounded bound u env st n lt =
      ((tied_run p units bound bound (omega arith) u env st n lt).0, sym ((tied_run p units (suc n) bound (omega arith) u env st n (omega arith)).1))

  pub from_bounded : (bound : ℕ) (u : Routine) (env : Environment) (pc : ℕ) → Tied bound (from_point p units bound u env pc) (run_from p units u env pc)
  from_bounded bound u env pc st n lt =
      ((tied_from p units bound bound (omega arith) u env pc st n lt).0, sym ((tied_from p units (suc n) bound (omega arith) u env pc st n (omega arith)).1))

  one_more : (bound : ℕ) (u : Routine) (env : Environment) (pc : ℕ) → Tied (suc bound) (from_point p units (suc bound) u env pc) (run_on p units u env pc)
  one_more bound u env pc =
      tied_at_line (suc bound) (slice_get u.lines pc) _ _ λ line.
      tied_after_step bound _ _
      (tied_then bound _ _ _ _ (tied_perform bound _ _ (run_bounded bound) _ line.card pc _ line.stmt) λ choices.
      tied_go_to bound _ _ _ (from_bounded bound u env))

  whole : (bound : ℕ) (u : Routine) (env : Environment) → Tied (suc bound) (run_within p units (suc bound) u env) (run_whole p units u env)
  whole bound u env =
      tied_then (suc bound) held held _ _ (tied_held (suc bound)) λ before.
      tied_step_then bound _ _ _
      (tied_then bound _ _ _ _ (tied_then bound held held _ _ (tied_held bound) (λ st. tied_before bound _ _ _ _ (tied_put bound _) (tied_give bound _))) λ own.
      tied_before bound _ _ _ _ (from_bounded bound u own 0) (tied_leave bound u own (length before)))

pub runs_unfold : RunsUnfold
runs_unfold p units u env st n =
    ((whole p units n u env st n (omega arith)).1, λ pc. (one_more p units n u env pc st n (omega arith)).1)
