use Rattle.std.proofs.Common.{map, subst, sym}
use Rattle.formula.specs.Pool.{tree_of}
use Rattle.fort_model.specs.Conditions.{sight}
use Rattle.fort_model.specs.Senses.{of_terms}
use Rattle.fort_model.specs.WalkExpr as steps
use Rattle.walk_state.specs.Moments.{Did, moment}
use Rattle.walk_intrinsics.specs.declared.words.Function.{Function}
use Rattle.walk_intrinsics.specs.Functions.{meaning}
use Rattle.walk_intrinsics.proofs.functions.intrinsic_value.Goals as goal

pub returns-in_ok-value-in-Greatest-clause-did : goal.returns-in_ok-value-in-Greatest-clause-did
returns-in_ok-value-in-Greatest-clause-did c p i u =
    let w0 = c.args.walk.now in
    let w1 = c.folded_of.new.walk in
    subst (λ (f : Function).
    Did (moment w0) (steps.intrinsic_value (sight of_terms p i u) c.args.card (meaning f) (map (tree_of w0.pool) c.args.values.now)) (moment w1) (tree_of w1.pool c.in_ok-value-in-Greatest.value))
    (sym c.in-Greatest.is) (c.in_ok-value-in-Greatest.ensures.did c.args.card p i u)

pub returns-in_ok-value-in-Least-clause-did : goal.returns-in_ok-value-in-Least-clause-did
returns-in_ok-value-in-Least-clause-did c p i u =
    let w0 = c.args.walk.now in
    let w1 = c.folded_of-in-Least.new.walk in
    subst (λ (f : Function).
    Did (moment w0) (steps.intrinsic_value (sight of_terms p i u) c.args.card (meaning f) (map (tree_of w0.pool) c.args.values.now)) (moment w1) (tree_of w1.pool c.in_ok-value-in-Least.value))
    (sym c.in-Least.is) (c.in_ok-value-in-Least.ensures.did c.args.card p i u)
