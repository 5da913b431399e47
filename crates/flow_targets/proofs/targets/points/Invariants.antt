use Rattle.std.proofs.Common.{◌≡◌, ◌++◌, drop}
use Rattle.fort_model.specs.Graphs.{points_of_labels}
use Rattle.flow_targets.proofs.targets.points.Given as goal

abbrev pub invariant-loop-label : goal.invariant-loop-label
invariant-loop-label l = l.all.items ++ points_of_labels l.known.unit.now (drop l.label-index l.labels) ≡ points_of_labels l.known.unit.now l.labels
