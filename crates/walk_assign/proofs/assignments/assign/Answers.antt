use Rattle.std.proofs.Common.{◌∙◌, List, ap, sym}
use Rattle.std.proofs.lemmas.Result.{on_ok_weaker}
use Rattle.formula.specs.Pool.{tree_of}
use Rattle.fort_syntax.specs.declared.expr.Expr.{Expr}
use Rattle.fort_model.specs.Seen.{see}
use Rattle.fort_model.specs.WalkStmt as forms
use Rattle.fort_model.specs.WalkStmt.{with_name}
use Rattle.walk_assign.specs.Parts.{element_assigned}
use Rattle.walk_setting.specs.Settings.{seen_from}
use Rattle.walk_setting.proofs.Done.{performs_as, performs_set}
use Rattle.walk_state.specs.Moments.{moment}
use Rattle.walk_assign.proofs.Sides.{of_element}
use Rattle.walk_assign.proofs.assignments.assign.Goals as goal

pub returns-in-Var-clause-did : goal.returns-in-Var-clause-did
returns-in-Var-clause-did c =
    let s = c.args.card.now.setting.now in
    let card = c.args.card.now.number in
    let w0 = c.args.walk.now in
    let m0 = moment w0 in
    let m1 = moment c.set.new.self in
    let after = with_name m0.now c.in-Var.x (tree_of w0.pool c.args.value) in
    on_ok_weaker c.set.result
    (λ e. performs_as w0.pool s m0 m1 (λ w. see after) (λ w. forms.assign w card m0.now c.args.left.now (tree_of w0.pool c.args.value))
    (λ p r. sym (ap (λ (l : Expr). forms.assign (seen_from s p) card m0.now l (tree_of w0.pool c.args.value)) c.in-Var.is)) (performs_set w0.pool s m0 m1 after e))
    c.set.ensures.set

pub returns-in-Apply-clause-did : goal.returns-in-Apply-clause-did
returns-in-Apply-clause-did c =
    let s = c.args.card.now.setting.now in
    let card = c.args.card.now.number in
    let w0 = c.args.walk.now in
    let m0 = moment w0 in
    let m1 = moment c.assign_element.new.walk in
    let a = c.in-Apply.a in
    let v = tree_of w0.pool c.args.value in
    on_ok_weaker c.assign_element.result
    (λ h. performs_as w0.pool s m0 m1 (λ w. element_assigned w card m0.now a c.as_slice.result.now v) (λ w. forms.assign w card m0.now c.args.left.now v)
    (λ p r.
    ap (λ (args : List Expr). element_assigned (seen_from s p) card m0.now a args v) c.as_slice.ensures
    ∙ sym (ap (λ (l : Expr). forms.assign (seen_from s p) card m0.now l v) c.in-Apply.is ∙ of_element (seen_from s p) card m0.now a c.in-Apply.args v))
    h)
    c.assign_element.ensures.did
