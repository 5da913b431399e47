use Rattle.std.proofs.Common.{length, sym, subst}
use Rattle.formula.specs.Pool.{AllBelow, HasArguments, trees}
use Rattle.formula.proofs.Growth.{length-trees}
use Rattle.formula.proofs.passing.is_one_less.Goals as goal

pub are_word_and_one-requires : goal.are_word_and_one-requires
are_word_and_one-requires c =
    let arguments = subst (HasArguments (trees c.args.pool.now)) c.in-Apply-BuiltIn-Difference-default.is c.node.ensures.arguments in
    subst (AllBelow (length c.args.pool.now)) (sym c.as_slice.ensures) (subst (λ n. AllBelow n c.in-Apply-BuiltIn-Difference-default.args) (length-trees c.args.pool.now) arguments.0)
