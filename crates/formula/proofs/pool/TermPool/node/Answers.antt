use Rattle.std.proofs.Common.{◌≡◌, arith, subst}
use Rattle.std.proofs.lemmas.Grind.{common_steps}
use Rattle.formula.specs.Pool.{HasArguments, trees, tree_at, tree_in}
use Rattle.formula.proofs.Growth.{pool_at, below_at, tree_at-trees}
use Rattle.formula.proofs.pool.TermPool.node.Goals as goal

pub returns-clause-tree : goal.returns-clause-tree
returns-clause-tree c =
    subst (λ ns. tree_at (trees ns) c.args.id.place ≡ tree_in (trees ns) c.in-Some.node.now) c.self.view_is
    (tree_at-trees c.self.inside.nodes.keys c.args.id.place c.in-Some.node.now c.self.invariant.pool (grind (arith, common_steps, c.get_index.ensures.key, c.in-Some.is)))

pub returns-clause-arguments : goal.returns-clause-arguments
returns-clause-arguments c =
    subst (λ ns. HasArguments (trees ns) c.in-Some.node.now) c.self.view_is
    (pool_at c.self.inside.nodes.keys c.args.id.place c.in-Some.node.now c.self.invariant.pool (grind (arith, common_steps, c.get_index.ensures.key, c.in-Some.is)))

pub returns-clause-below : goal.returns-clause-below
returns-clause-below c = below_at c.self.inside.nodes.keys c.args.id.place c.in-Some.node.now c.self.invariant.pool (grind (arith, common_steps, c.get_index.ensures.key, c.in-Some.is))
