use Rattle.std.proofs.Common.{◌≡◌, drop}
use Rattle.std.specs.List.{list_any}
use Rattle.do_smashes.specs.Clear.{is_do}
use Rattle.do_smashes.proofs.unit.has_do.Given as goal

abbrev pub invariant-loop-line : goal.invariant-loop-line
invariant-loop-line l = list_any (λ line. is_do line.stmt) (drop l.line-index l.lines) ≡ list_any (λ line. is_do line.stmt) l.lines
