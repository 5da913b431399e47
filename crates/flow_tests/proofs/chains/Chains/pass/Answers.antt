use Rattle.std.proofs.Common.{◌<◌, sym, ◌∙◌, subst, length}
use Rattle.flow_tests.proofs.Testing.{last_inside}
use Rattle.flow_tests.proofs.chains.Chains.pass.Goals as goal

pub put-requires-clause-last : goal.put-requires-clause-last
put-requires-clause-last c =
    subst (λ n. n < length c.args.unit.now.lines) (sym (c.point.ensures ∙ c.requires.labels c.in-Some.label))
    (last_inside c.args.unit.now c.requires.flowing c.args.at c.requires.at c.in-Some.label c.in-Some.ensures)
