use Rattle.std.proofs.Common.{◌≡◌, drop}
use Rattle.fort_syntax.specs.declared.rule.Rule.TheVariants.{JumpIntoDo}
use Rattle.fort_model.specs.Ranges.{jumps_badly}
use Rattle.unit_faults.specs.Sooner.{first_at}
use Rattle.do_ranges.proofs.jumps.bad_jump.Given as goal

abbrev pub invariant-loop-at : goal.invariant-loop-at
invariant-loop-at l = first_at JumpIntoDo (jumps_badly l.unit) l.at (drop l.at l.unit.lines) ≡ first_at JumpIntoDo (jumps_badly l.unit) 0 l.unit.lines
