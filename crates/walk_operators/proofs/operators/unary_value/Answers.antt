use Rattle.std.proofs.Common.{ap, refl, subst, sym}
use Rattle.formula.specs.Pool.{tree_of}
use Rattle.formula.specs.Tree.{Tree}
use Rattle.formula.specs.declared.function.BuiltIn.TheVariants as f
use Rattle.fort_model.specs.Conditions.{sight}
use Rattle.fort_model.specs.Senses.{make1, negated, of_terms}
use Rattle.fort_model.specs.WalkCalls.{Computed}
use Rattle.fort_model.specs.WalkExpr as steps
use Rattle.walk_state.specs.declared.walk.Walk.{Walk}
use Rattle.walk_state.specs.Moments.{Did, moment}
use Rattle.walk_state.proofs.Parts.{grew}
use Rattle.walk_values.proofs.Checked.{did_see}
use Rattle.walk_operators.specs.Operators.{of_one}
use Rattle.walk_operators.specs.declared.operators.Unary.{Unary as Single}
use Rattle.walk_operators.proofs.Computed.{did_computed}
use Rattle.walk_operators.proofs.operators.unary_value.Goals as goal

pub returns-in_default-clause-on : goal.returns-in_default-clause-on
returns-in_default-clause-on c = (grew c.args.walk.now _ c.requires.well c.negated.ensures.grows refl refl refl).on

pub returns-in_ok-value-in-Negative-clause-did : goal.returns-in_ok-value-in-Negative-clause-did
returns-in_ok-value-in-Negative-clause-did c p i u =
    let s = sight of_terms p i u in
    let w0 = c.args.walk.now in
    let w1 = c.negative.new.walk in
    let a = tree_of w0.pool c.args.a in
    let value = tree_of w1.pool c.in_ok-value-in-Negative.value in
    subst (λ (o : Single). Did (moment w0) (of_one s c.args.card o a) (moment w1) (Computed value)) (sym c.in-Negative.is)
    (did_computed s (moment w0) (moment w1) (steps.ranged s c.args.card (make1 of_terms f.Negative a)) value (c.in_ok-value-in-Negative.ensures.did p i u))

pub returns-in-Ok-clause-on : goal.returns-in-Ok-clause-on
returns-in-Ok-clause-on c = (grew c.args.walk.now _ c.requires.well c.negated.ensures.grows refl refl refl).on

pub returns-in-Ok-clause-did : goal.returns-in-Ok-clause-did
returns-in-Ok-clause-did c p i u =
    let s = sight of_terms p i u in
    let w0 = c.args.walk.now in
    let w1 : Walk = record { pool = c.negated.new.pool; names = w0.names; met = w0.met; calls = w0.calls; alloc = w0.alloc } in
    let a = tree_of w0.pool c.args.a in
    let value = tree_of w1.pool c.in-Ok.value in
    subst (λ (o : Single). Did (moment w0) (of_one s c.args.card o a) (moment w1) (Computed value)) (sym c.in-Not.is)
    (did_see (moment w0) (moment w1) (Computed (negated of_terms a)) (Computed value) (grew w0 w1 c.requires.well c.negated.ensures.grows refl refl refl).same
    (ap (λ (t : Tree). Computed t) c.in-Ok.ensures.tree))
