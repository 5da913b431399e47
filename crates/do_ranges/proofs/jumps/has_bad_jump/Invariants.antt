use Rattle.std.proofs.Common.{◌≡◌, drop}
use Rattle.std.specs.List.{list_any}
use Rattle.fort_model.specs.Flow.{target}
use Rattle.fort_model.specs.Ranges.{is_bad_jump}
use Rattle.do_ranges.proofs.jumps.has_bad_jump.Given as goal

abbrev pub invariant-loop-label : goal.invariant-loop-label
invariant-loop-label l =
    list_any (λ x. is_bad_jump l.unit l.at (target l.unit.lines x)) (drop l.label-index l.labels) ≡ list_any (λ x. is_bad_jump l.unit l.at (target l.unit.lines x)) l.labels
