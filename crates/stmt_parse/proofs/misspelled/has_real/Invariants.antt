use Rattle.std.proofs.Common.{◌≡◌, ◌≤◌, ◌-◌, drop, length}
use Rattle.fort_syntax.specs.Misspelled.{has_real_from}
use Rattle.stmt_parse.proofs.misspelled.has_real.Given as goal

abbrev pub invariant-loop-i : goal.invariant-loop-i
invariant-loop-i l = (l.i ≤ length l.text) × (has_real_from l.skipped l.before (drop l.i l.text) ≡ has_real_from 0 0 l.text)

abbrev pub decreases-loop-i : goal.decreases-loop-i
decreases-loop-i l = length l.text - l.i
