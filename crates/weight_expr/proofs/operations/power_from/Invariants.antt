use Rattle.std.proofs.Common.{◌≡◌, ◌-◌}
use Rattle.weight_tallies.specs.Tallies.{power_from}
use Rattle.weight_expr.proofs.operations.power_from.Given as goal

abbrev pub invariant-loop : goal.invariant-loop
invariant-loop l = power_from l.base l.product (l.others - l.counter) l.load ≡ power_from l.base l.fn.product l.others l.initial.load
