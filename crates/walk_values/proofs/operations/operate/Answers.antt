use Rattle.std.proofs.Common.{IfOk, subst, sym}
use Rattle.formula.specs.Pool.{tree_of}
use Rattle.fort_syntax.specs.declared.dialect.BinOp.{BinOp}
use Rattle.fort_model.specs.WalkExpr as steps
use Rattle.walk_state.specs.Moments.{moment}
use Rattle.walk_values.specs.Parts.{Does}
use Rattle.walk_values.proofs.operations.operate.Goals as goal

pub returns-in-Add-clause-did : goal.returns-in-Add-clause-did
returns-in-Add-clause-did c =
    let w0 = c.args.walk.now in
    subst (λ (o : BinOp).
    IfOk c.in_range_of.result (λ id.
    Does (moment w0) (λ w. steps.operate w c.args.card o (tree_of w0.pool c.args.a) (tree_of w0.pool c.args.b)) (moment c.in_range_of.new.walk) (tree_of c.in_range_of.new.walk.pool id)))
    (sym c.in-Add.is) c.in_range_of.ensures.did

pub returns-in-Sub-clause-did : goal.returns-in-Sub-clause-did
returns-in-Sub-clause-did c =
    let w0 = c.args.walk.now in
    subst (λ (o : BinOp).
    IfOk c.in_range_of-in-Sub.result (λ id.
    Does (moment w0) (λ w. steps.operate w c.args.card o (tree_of w0.pool c.args.a) (tree_of w0.pool c.args.b)) (moment c.in_range_of-in-Sub.new.walk) (tree_of c.in_range_of-in-Sub.new.walk.pool id)))
    (sym c.in-Sub.is) c.in_range_of-in-Sub.ensures.did

pub returns-in-Mul-clause-did : goal.returns-in-Mul-clause-did
returns-in-Mul-clause-did c =
    let w0 = c.args.walk.now in
    subst (λ (o : BinOp).
    IfOk c.in_range_of-in-Mul.result (λ id.
    Does (moment w0) (λ w. steps.operate w c.args.card o (tree_of w0.pool c.args.a) (tree_of w0.pool c.args.b)) (moment c.in_range_of-in-Mul.new.walk) (tree_of c.in_range_of-in-Mul.new.walk.pool id)))
    (sym c.in-Mul.is) c.in_range_of-in-Mul.ensures.did

pub returns-in-Div-clause-did : goal.returns-in-Div-clause-did
returns-in-Div-clause-did c =
    let w0 = c.args.walk.now in
    subst (λ (o : BinOp).
    IfOk c.quotient.result (λ id.
    Does (moment w0) (λ w. steps.operate w c.args.card o (tree_of w0.pool c.args.a) (tree_of w0.pool c.args.b)) (moment c.quotient.new.walk) (tree_of c.quotient.new.walk.pool id)))
    (sym c.in-Div.is) c.quotient.ensures.did
