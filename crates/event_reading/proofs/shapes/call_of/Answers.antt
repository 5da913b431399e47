use Rattle.std.proofs.Common.{length, sym, subst}
use Rattle.formula.specs.Pool.{AllBelow, HasArguments, trees}
use Rattle.formula.proofs.Growth.{length-trees}
use Rattle.event_reading.proofs.shapes.call_of.Goals as goal

pub returns-in-Apply-BuiltIn-default-clause-inside : goal.returns-in-Apply-BuiltIn-default-clause-inside
returns-in-Apply-BuiltIn-default-clause-inside c =
    let arguments = subst (HasArguments (trees c.args.pool.now)) c.in-Apply-BuiltIn-default.is c.node.ensures.arguments in
    subst (AllBelow (length c.args.pool.now)) (sym c.as_slice.ensures) (subst (λ n. AllBelow n c.in-Apply-BuiltIn-default.args) (length-trees c.args.pool.now) arguments.0)
