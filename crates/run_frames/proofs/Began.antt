-- Runs of the model go on so.
use Rattle.std.proofs.Common.{◌≡◌, List, refl}
use Rattle.formula.specs.declared.value.Cell.{Cell}
use Rattle.fort_syntax.specs.declared.unit.Unit.{Unit as Routine}
use Rattle.fort_model.specs.Processor.{Processor}
use Rattle.fort_model.specs.Outcome.{Outcome, Ended, Erred, Running, and_then, give}
use Rattle.fort_model.specs.Run.{run}
use Rattle.step_laws.specs.Unfolded.{run_from}
use Rattle.step_laws.proofs.Unfolding.{runs_unfold}
use Rattle.run_frames.specs.Frames.{Runs}
use Rattle.run_frames.specs.Configs.{RunsAreRests}

whole : (o : Outcome Cell) → and_then o (λ v. give v) ≡ o
whole (Ended v st n) = refl
whole (Erred kind card st) = refl
whole (Running st) = refl

pub unfolded : (p : Processor) (units : List Routine) → Runs p units
unfolded p units = record {
  run = run p units;
  from = run_from p units;
  runs = λ u env st n. (runs_unfold p units u env st n).0;
  goes = λ u env pc st n. (runs_unfold p units u env st n).1 pc;
}

pub runs_are_rests : RunsAreRests
unfolding unfolded
runs_are_rests p units = (unfolded p units, λ u env st n. whole (run p units u env st n))
