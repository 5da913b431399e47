use Rattle.std.proofs.Common.{◌≡◌, ℕ, IfOk, subst, sym}
use Rattle.formula.specs.Pool.{tree_of}
use Rattle.fort_syntax.specs.declared.dialect.RelOp.{RelOp}
use Rattle.fort_syntax.specs.declared.unit.Unit.{Unit as Routine}
use Rattle.fort_model.specs.Conditions.{sight}
use Rattle.fort_model.specs.Program.{Program}
use Rattle.fort_model.specs.Senses.{of_terms}
use Rattle.fort_model.specs.WalkExpr as walks
use Rattle.walk_terms.proofs.relations.relation.Goals as goal

pub returns-in-Ne-clause-tree : goal.returns-in-Ne-clause-tree
returns-in-Ne-clause-tree c =
    subst (λ (o : RelOp).
    IfOk c.apart.result (λ id.
    (p : Program) (i : ℕ) (u : Routine) → tree_of c.apart.new.pool id ≡ walks.relation (sight of_terms p i u) o (tree_of c.args.pool.now c.args.a) (tree_of c.args.pool.now c.args.b)))
    (sym c.in-Ne.is) c.apart.ensures.tree
