use Rattle.std.proofs.Common.{rules, ◌∙◌, ap}
use Rattle.run_held.specs.Sums.{ranged_to}
use Rattle.run_work.proofs.quick.added.Goals as goal

pub returns : goal.returns
returns c = c.ranged.ensures ∙ ap (ranged_to c.args.bounds) (search rules)
