use Rattle.std.proofs.Common.{◌≡◌, ◌++◌, drop}
use Rattle.way_laws.specs.PathsOf.{turns}
use Rattle.path_fronts.proofs.choosing.turns.Given as goal

abbrev pub invariant-loop-step : goal.invariant-loop-step
invariant-loop-step l = l.choices.items ++ turns (drop l.step-index l.steps) ≡ turns l.steps
