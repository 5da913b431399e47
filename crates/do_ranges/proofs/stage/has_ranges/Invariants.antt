use Rattle.std.proofs.Common.{◌≡◌, drop}
use Rattle.std.specs.List.{list_any}
use Rattle.do_ranges.specs.Begun.{begins_range}
use Rattle.do_ranges.proofs.stage.has_ranges.Given as goal

abbrev pub invariant-loop-line : goal.invariant-loop-line
invariant-loop-line l = list_any (λ line. begins_range line.stmt) (drop l.line-index l.lines) ≡ list_any (λ line. begins_range line.stmt) l.lines
