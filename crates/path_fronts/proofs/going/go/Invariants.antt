use Rattle.std.proofs.Common.{◌≡◌}
use Rattle.formula.specs.Pool.{Grows}
use Rattle.path_fronts.specs.Fronts.{HasEntry, IsFront, Reaches}
use Rattle.path_fronts.proofs.going.go.Given as goal

abbrev pub invariant-loop-at : goal.invariant-loop-at
invariant-loop-at l = record {
  start : l.front.start ≡ l.fn.front.start;
  grows : Grows l.fn.front.walk.pool l.front.walk.pool;
  front : IsFront l.flow.setting.now l.steps l.at l.front;
  told : HasEntry l.flow.setting.now l.front;
  is : Reaches l.flow.setting.now l.steps l.at l.last l.front;
}
