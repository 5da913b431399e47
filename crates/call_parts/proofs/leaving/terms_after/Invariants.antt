use Rattle.std.proofs.Common.{◌≡◌, take}
use Rattle.call_parts.proofs.Operated.{AreAfter}
use Rattle.walk_state.specs.Moments.{Follows, moment}
use Rattle.call_parts.proofs.leaving.terms_after.Given as goal

abbrev pub invariant-loop-operand : goal.invariant-loop-operand
invariant-loop-operand l = record {
  on : Follows l.fn.walk l.walk;
  same : moment l.walk ≡ moment l.fn.walk;
  after : AreAfter l.fn.walk.pool l.walk.pool (moment l.fn.walk).now (take l.operand-index l.operands) l.all.items;
}
