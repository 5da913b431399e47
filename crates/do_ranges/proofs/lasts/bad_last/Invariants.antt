use Rattle.std.proofs.Common.{◌≡◌, drop}
use Rattle.fort_syntax.specs.declared.rule.Rule.TheVariants.{BadLastOfDo}
use Rattle.fort_model.specs.Ranges.{has_bad_last}
use Rattle.unit_faults.specs.Sooner.{first_at}
use Rattle.do_ranges.proofs.lasts.bad_last.Given as goal

abbrev pub invariant-loop-at : goal.invariant-loop-at
invariant-loop-at l = first_at BadLastOfDo (has_bad_last l.unit) l.at (drop l.at l.unit.lines) ≡ first_at BadLastOfDo (has_bad_last l.unit) 0 l.unit.lines
