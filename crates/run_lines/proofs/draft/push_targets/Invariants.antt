use Rattle.std.proofs.Common.{◌≡◌, ◌++◌, map, drop}
use Rattle.fort_model.specs.Flow.{target}
use Rattle.run_lines.proofs.draft.push_targets.Given as goal

abbrev pub invariant-loop-label : goal.invariant-loop-label
invariant-loop-label l =
    l.targets.items ++ map (target l.lines) (drop l.label-index l.labels) ≡ l.fn.targets.items ++ map (target l.lines) l.labels
