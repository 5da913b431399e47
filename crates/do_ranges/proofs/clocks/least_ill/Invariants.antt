use Rattle.std.proofs.Common.{◌≡◌, drop, None}
use Rattle.do_ranges.specs.Clocks.{least_ill}
use Rattle.do_ranges.proofs.clocks.least_ill.Given as goal

abbrev pub invariant-loop-spec : goal.invariant-loop-spec
invariant-loop-spec l = least_ill l.parts (drop l.spec-index l.asserts) l.best ≡ least_ill l.parts l.asserts None
