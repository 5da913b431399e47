use Rattle.std.proofs.Common.{rules, ◌∙◌, ap}
use Rattle.formula.specs.Values.{is_between}
use Rattle.run_intrinsics.proofs.loops.spans_beyond.Goals as goal

pub returns : goal.returns
returns c = c.is_within.ensures ∙ ap (is_between c.args.bounds.least c.args.bounds.greatest) (search rules)
