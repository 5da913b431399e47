use Rattle.fort_model.specs.Program.{Program}
use Rattle.path_scene.specs.Scenes.{IsReady}
use Rattle.measure.specs.Sizes.{IsSoFar, sizes_of}
use Rattle.measure.proofs.measuring.measure_units.Given as goal

abbrev pub invariant-loop-number : goal.invariant-loop-number
invariant-loop-number l = (p : Program) → IsReady l.whole.pool.now l.whole.scene.now p → IsSoFar p l.number (sizes_of l.totals)
