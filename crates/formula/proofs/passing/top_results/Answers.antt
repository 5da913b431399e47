use Rattle.std.proofs.Common.{length, sym, subst}
use Rattle.formula.specs.Pool.{AllBelow, HasArguments, trees}
use Rattle.formula.proofs.Growth.{length-trees}
use Rattle.formula.proofs.passing.top_results.Goals as goal

pub function_results-requires : goal.function_results-requires
function_results-requires c =
    let arguments = subst (HasArguments (trees c.args.pool.now)) c.in-Apply.is c.node.ensures.arguments in
    subst (AllBelow (length c.args.pool.now)) (sym c.as_slice.ensures) (subst (λ n. AllBelow n c.in-Apply.args) (length-trees c.args.pool.now) arguments.0)
