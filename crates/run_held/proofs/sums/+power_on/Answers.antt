use Rattle.std.proofs.Common.{rules, ◌∙◌, ap}
use Rattle.run_held.specs.Sums.{ranged_to}
use Rattle.run_held.proofs.Exact.{power_next, power_stops}
use Rattle.run_held.proofs.sums.+power_on.Goals as goal

pub returns-in-Ok : goal.returns-in-Ok
returns-in-Ok t c =
    c.power_on.ensures
    ∙ power_next c.args.bounds c.args.base _ c.args.more c.args.product c.in-Ok.next _ (search rules) (search rules) (search rules) (c.in-Ok.ensures ∙ ap (ranged_to c.args.bounds) (search rules))

pub returns-in-Err : goal.returns-in-Err
returns-in-Err t c = power_stops c.args.bounds c.args.base c.args.more c.args.product c.in-Err.kind (search rules) (c.in-Err.ensures ∙ ap (ranged_to c.args.bounds) (search rules))
