use Rattle.std.proofs.Common.{◌≡◌, drop}
use Rattle.fort_syntax.specs.declared.rule.Rule.TheVariants.{CrossedDo}
use Rattle.fort_model.specs.Ranges.{crosses}
use Rattle.unit_faults.specs.Sooner.{first_at}
use Rattle.do_ranges.proofs.crossing.crossed.Given as goal

abbrev pub invariant-loop-at : goal.invariant-loop-at
invariant-loop-at l = first_at CrossedDo (crosses l.unit) l.at (drop l.at l.unit.lines) ≡ first_at CrossedDo (crosses l.unit) 0 l.unit.lines
