use Rattle.std.proofs.Common.{List, length, map, subst, sym}
use Rattle.std.proofs.lemmas.Result.{on_ok_weaker}
use Rattle.formula.specs.Pool.{AllBelow, tree_of}
use Rattle.formula.specs.Tree.{Tree}
use Rattle.formula.specs.declared.node.TermId.{TermId}
use Rattle.formula.proofs.Grown.{IsIn-Grows, tree_of-Grows}
use Rattle.fort_syntax.specs.TreePatterns.{row_of}
use Rattle.fort_model.specs.WalkExpr as steps
use Rattle.walk_assign.specs.Parts.{stored}
use Rattle.walk_setting.specs.Settings.{PerformsIn}
use Rattle.walk_setting.proofs.Done.{performs_then}
use Rattle.walk_state.specs.Moments.{moment}
use Rattle.walk_assign.proofs.assignments.assign_element.Goals as goal

pub store-requires-clause-subscripts : goal.store-requires-clause-subscripts
store-requires-clause-subscripts c = subst (AllBelow (length c.values.new.walk.pool)) (sym c.as_slice.ensures.value) c.in_ok-subscripts.ensures.is_in

pub store-requires-clause-value : goal.store-requires-clause-value
store-requires-clause-value c = IsIn-Grows c.args.walk.now.pool c.values.new.walk.pool c.args.value c.values.ensures.on.grows c.requires.value

pub returns-clause-did : goal.returns-clause-did
returns-clause-did c =
    let s = c.args.card.now.setting.now in
    let card = c.args.card.now.number in
    let w0 = c.args.walk.now in
    let w1 = c.values.new.walk in
    let w2 = c.store.new.walk in
    let m1 = moment w1 in
    let a = c.args.array.now in
    let v = tree_of w0.pool c.args.value in
    let ids = c.in_ok-subscripts.subscripts.items in
    let kept = tree_of-Grows w0.pool w1.pool c.args.value c.values.ensures.on.grows c.requires.value in
    on_ok_weaker c.store.result
    (λ h. performs_then s w0 w1 w2 (λ w. steps.values w card (moment w0).now (row_of c.args.args.now)) (λ w now is. stored w card now a is v) (map (tree_of w1.pool) ids) c.values.ensures.on.grows
    c.in_ok-subscripts.ensures.did
    (subst (λ (them : List TermId). PerformsIn w1.pool s m1 (λ w. stored w card m1.now a (map (tree_of w1.pool) them) v) (moment w2)) c.as_slice.ensures.value
    (subst (λ (t : Tree). PerformsIn w1.pool s m1 (λ w. stored w card m1.now a (map (tree_of w1.pool) c.as_slice.result.now) t) (moment w2)) kept h)))
    c.store.ensures.did
