use Rattle.std.proofs.Common.{◌≡◌, sym, subst, Some, Contains, slice_get}
use Rattle.formula.specs.Pool.{trees, tree_at, tree_in}
use Rattle.formula.proofs.Growth.{tree_at-trees}
use Rattle.formula.proofs.Putting.{absent, known_at, present}
use Rattle.formula.proofs.pool.TermPool.known.Goals as goal

pub returns-in-Some-clause-known : goal.returns-in-Some-clause-known
returns-in-Some-clause-known c =
    subst (λ ns. slice_get ns c.in-Some.place ≡ Some c.args.node.now) c.self.view_is (known_at c.self.inside.nodes.keys c.args.node.now c.in-Some.place c.in-Some.ensures.index)

pub returns-in-Some-clause-tree : goal.returns-in-Some-clause-tree
returns-in-Some-clause-tree c =
    subst (λ ns. tree_at (trees ns) c.in-Some.place ≡ tree_in (trees ns) c.args.node.now) c.self.view_is
    (tree_at-trees c.self.inside.nodes.keys c.in-Some.place c.args.node.now c.self.invariant.pool (known_at c.self.inside.nodes.keys c.args.node.now c.in-Some.place c.in-Some.ensures.index))

pub returns-in-Some-clause-contains : goal.returns-in-Some-clause-contains
returns-in-Some-clause-contains c is =
    subst (λ ns. Contains ns c.args.node.now) c.self.view_is (present c.self.inside.nodes.keys c.args.node.now (sym c.in-Some.ensures.found))

pub returns-in-None-clause-unknown : goal.returns-in-None-clause-unknown
returns-in-None-clause-unknown c there =
    absent c.self.inside.nodes.keys c.args.node.now (sym c.in-None.ensures.found) (subst (λ ns. Contains ns c.args.node.now) (sym c.self.view_is) there)
