use Rattle.std.proofs.Common.{◌≡◌, ℕ, suc, ◌+◌, ◌≤◌, ◌∙◌, List, Option, length, map, refl, subst, sym, arith}
use Rattle.std.proofs.lemmas.Grind.{common_steps}
use Rattle.std.proofs.lemmas.Result.{IfOk-weaker}
use Rattle.formula.specs.Pool.{tree_of}
use Rattle.formula.specs.Tree.{Tree}
use Rattle.formula.specs.declared.node.TermId.{TermId}
use Rattle.formula.proofs.Grown.{tree_of-Grows}
use Rattle.fort_syntax.specs.Names.{dims_of, function}
use Rattle.fort_syntax.specs.TreePatterns.{row_of}
use Rattle.fort_syntax.specs.declared.expr.Expr.TheVariants.{Const, Truth, Var}
use Rattle.fort_syntax.specs.declared.expr.Expr.TheViews as view
use Rattle.fort_syntax.specs.declared.stmt.Dim.{Dim}
use Rattle.fort_syntax.specs.declared.unit.Unit.{Unit as Routine}
use Rattle.fort_model.specs.Seen.{◌>>=◌, see}
use Rattle.fort_model.specs.WalkCalls.{Bare, Computed, call}
use Rattle.fort_model.specs.WalkExpr as steps
use Rattle.path_scene.proofs.Staying.{ready_stays}
use Rattle.walk_calls.specs.Calls.{value_of_call}
use Rattle.walk_intrinsics.specs.Functions.{meaning}
use Rattle.walk_operands.specs.Operands.{AreOperandsIn, operand_tree, operand_trees}
use Rattle.walk_operands.specs.declared.operand.Operand.{Operand as Code}
use Rattle.walk_operators.specs.Operators.{element_of, of_one, of_two}
use Rattle.walk_operators.specs.declared.operators.Binary.TheVariants.{Number, Truth as Tested}
use Rattle.walk_operators.specs.declared.operators.Unary.TheVariants.{Kept, Negative, Power, Not}
use Rattle.walk_operators.specs.declared.relations.Test.TheVariants.{Relation, And, Or}
use Rattle.walk_operators.proofs.Computed.{did_computed}
use Rattle.walk_setting.specs.Settings.{DoesIn, seen_from}
use Rattle.walk_setting.proofs.Done.{does_as, does_here, does_then}
use Rattle.walk_setting.proofs.Ready.{ready_on}
use Rattle.walk_state.specs.Moments.{Did, moment}
use Rattle.walk_state.proofs.Parts.{follows_not, follows_then}
use Rattle.walk_expr.specs.Parts as parts
use Rattle.walk_expr.proofs.Arms.{by_applied, by_does, by_one, by_two, by_within, did_computed_call}
use Rattle.walk_expr.proofs.Forms.{applied_built_in, applied_element, applied_reference, of_and, of_apply, of_bin, of_neg, of_not, of_or, of_paren, of_pos, of_power, of_rel}
use Rattle.walk_expr.proofs.Rows.{first_all, first_at, no_operands, none_below, operands_more, operands_row, operands_within, values_more, values_row, values_within}
use Rattle.walk_expr.proofs.expressions.+evaluate.Goals as goal

pub part_value-returns-clause-did : goal.part_value-returns-clause-did
part_value-returns-clause-did t c =
    let s = c.args.card.now.setting.now in
    let card = c.args.card.now.number in
    let w0 = c.args.walk.now in
    let w1 = c.operand.new.walk in
    let w2 = c.read_operand.new.walk in
    let x = operand_tree w1.pool c.in_ok-part.part in
    let v = tree_of w2.pool c.in_ok-id.id in
    does_then s w0 w1 w2 (λ w. steps.operand w card (moment w0).now c.args.e.now) (λ w now y. steps.read_operand w card y) x v c.operand.ensures.on.grows c.in_ok-part.ensures.did
    (does_here w1.pool s (moment w1) (moment w2) (λ w. steps.read_operand w card x) v c.in_ok-id.ensures.did)

pub single-returns-clause-did : goal.single-returns-clause-did
single-returns-clause-did t c =
    let s = c.args.card.now.setting.now in
    let card = c.args.card.now.number in
    let w0 = c.args.walk.now in
    let w1 = c.part_value.new.walk in
    let w2 = c.unary_value.new.walk in
    let first = tree_of w1.pool c.in_ok-first.first in
    let x = Computed (tree_of w2.pool c.in_ok-id.id) in
    does_then s w0 w1 w2 (λ w. steps.value w card (moment w0).now c.args.a.now) (λ w now v. of_one w card c.args.op v) first x c.part_value.ensures.on.grows c.in_ok-first.ensures.did
    (does_here w1.pool s (moment w1) (moment w2) (λ w. of_one w card c.args.op first) x c.in_ok-id.ensures.did)

pub part_value-returns-clause-ready : goal.part_value-returns-clause-ready
part_value-returns-clause-ready t c =
    let w0 = c.args.walk.now in
    let w1 = c.operand.new.walk in
    let w2 = c.read_operand.new.walk in
    let scene = c.args.card.now.setting.now.scene.now in
    ready_on w1.pool w2.pool scene c.read_operand.ensures.on.grows (ready_on w0.pool w1.pool scene c.operand.ensures.on.grows c.requires.ready)

pub second-returns-clause-did : goal.second-returns-clause-did
second-returns-clause-did t c =
    let s = c.args.card.now.setting.now in
    let card = c.args.card.now.number in
    let w0 = c.args.walk.now in
    let w1 = c.part_value.new.walk in
    let w2 = c.binary_value.new.walk in
    let op = c.args.op in
    let other = tree_of w1.pool c.in_ok-other.other in
    let x = Computed (tree_of w2.pool c.in_ok-id.id) in
    let same = tree_of-Grows w0.pool w1.pool c.args.first c.part_value.ensures.on.grows c.requires.first in
    does_then s w0 w1 w2 (λ w. steps.value w card (moment w0).now c.args.b.now) (λ w now z. of_two w card op (tree_of w0.pool c.args.first) z) other x c.part_value.ensures.on.grows c.in_ok-other.ensures.did
    (λ p r. subst (λ (v : Tree). Did (moment w1) (of_two (seen_from s p) card op v other) (moment w2) x) same
    (does_here w1.pool s (moment w1) (moment w2) (λ w. of_two w card op (tree_of w1.pool c.args.first) other) x c.in_ok-id.ensures.did p r))

pub operand-returns-in-Paren-clause-did : goal.operand-returns-in-Paren-clause-did
operand-returns-in-Paren-clause-did t c =
    let s = c.args.card.now.setting.now in
    let card = c.args.card.now.number in
    let w0 = c.args.walk.now in
    let w1 = c.single.new.walk in
    by_one w0.pool w1.pool s card (moment w0) (moment w1) c.single.result c.args.e.now (view.Paren c.in-Paren.a) Kept c.in-Paren.a c.get.result.now c.in-Paren.is
    (λ w. of_paren w card (moment w0).now c.in-Paren.a) c.get.ensures c.single.ensures.did

pub operand-returns-in-Pos-clause-did : goal.operand-returns-in-Pos-clause-did
operand-returns-in-Pos-clause-did t c =
    let s = c.args.card.now.setting.now in
    let card = c.args.card.now.number in
    let w0 = c.args.walk.now in
    let w1 = c.single-in-Pos.new.walk in
    by_one w0.pool w1.pool s card (moment w0) (moment w1) c.single-in-Pos.result c.args.e.now (view.Pos c.in-Pos.a) Kept c.in-Pos.a c.get-in-Pos.result.now c.in-Pos.is
    (λ w. of_pos w card (moment w0).now c.in-Pos.a) c.get-in-Pos.ensures c.single-in-Pos.ensures.did

pub operand-returns-in-Neg-clause-did : goal.operand-returns-in-Neg-clause-did
operand-returns-in-Neg-clause-did t c =
    let s = c.args.card.now.setting.now in
    let card = c.args.card.now.number in
    let w0 = c.args.walk.now in
    let w1 = c.single-in-Neg.new.walk in
    by_one w0.pool w1.pool s card (moment w0) (moment w1) c.single-in-Neg.result c.args.e.now (view.Neg c.in-Neg.a) Negative c.in-Neg.a c.get-in-Neg.result.now c.in-Neg.is
    (λ w. of_neg w card (moment w0).now c.in-Neg.a) c.get-in-Neg.ensures c.single-in-Neg.ensures.did

pub operand-returns-in-Not-clause-did : goal.operand-returns-in-Not-clause-did
operand-returns-in-Not-clause-did t c =
    let s = c.args.card.now.setting.now in
    let card = c.args.card.now.number in
    let w0 = c.args.walk.now in
    let w1 = c.single-in-Not.new.walk in
    by_one w0.pool w1.pool s card (moment w0) (moment w1) c.single-in-Not.result c.args.e.now (view.Not c.in-Not.a) Not c.in-Not.a c.get-in-Not.result.now c.in-Not.is
    (λ w. of_not w card (moment w0).now c.in-Not.a) c.get-in-Not.ensures c.single-in-Not.ensures.did

pub operand-returns-in-Power-clause-did : goal.operand-returns-in-Power-clause-did
operand-returns-in-Power-clause-did t c =
    let s = c.args.card.now.setting.now in
    let card = c.args.card.now.number in
    let w0 = c.args.walk.now in
    let w1 = c.single-in-Power.new.walk in
    by_one w0.pool w1.pool s card (moment w0) (moment w1) c.single-in-Power.result c.args.e.now (view.Power c.in-Power.a c.in-Power.n) (Power c.in-Power.n) c.in-Power.a c.get-in-Power.result.now c.in-Power.is
    (λ w. of_power w card (moment w0).now c.in-Power.a c.in-Power.n) c.get-in-Power.ensures c.single-in-Power.ensures.did

pub operand-returns-in_ok-first-in-Bin-clause-did : goal.operand-returns-in_ok-first-in-Bin-clause-did
operand-returns-in_ok-first-in-Bin-clause-did t c =
    let s = c.args.card.now.setting.now in
    let card = c.args.card.now.number in
    let w0 = c.args.walk.now in
    let w1 = c.part_value.new.walk in
    let w2 = c.second.new.walk in
    let x = c.in-Bin in
    by_two w0 w1 w2 s card c.second.result c.args.e.now (view.Bin x.op x.a x.b) (Number c.in-Bin.op) c.in_ok-first-in-Bin.first x.a x.b c.get-in-Bin.result.now c.get-in-Bin-2.result.now x.is
    (λ w. of_bin w card (moment w0).now x.op x.a x.b) c.get-in-Bin.ensures c.get-in-Bin-2.ensures c.part_value.ensures.on.grows c.in_ok-first-in-Bin.ensures.did c.second.ensures.did

pub operand-returns-in_ok-first-in-Rel-clause-did : goal.operand-returns-in_ok-first-in-Rel-clause-did
operand-returns-in_ok-first-in-Rel-clause-did t c =
    let s = c.args.card.now.setting.now in
    let card = c.args.card.now.number in
    let w0 = c.args.walk.now in
    let w1 = c.part_value-in-Rel.new.walk in
    let w2 = c.second-in-Rel.new.walk in
    let x = c.in-Rel in
    by_two w0 w1 w2 s card c.second-in-Rel.result c.args.e.now (view.Rel x.op x.a x.b) (Tested (Relation c.in-Rel.op)) c.in_ok-first-in-Rel.first x.a x.b c.get-in-Rel.result.now c.get-in-Rel-2.result.now x.is
    (λ w. of_rel w card (moment w0).now x.op x.a x.b) c.get-in-Rel.ensures c.get-in-Rel-2.ensures c.part_value-in-Rel.ensures.on.grows c.in_ok-first-in-Rel.ensures.did c.second-in-Rel.ensures.did

pub operand-returns-in_ok-first-in-And-clause-did : goal.operand-returns-in_ok-first-in-And-clause-did
operand-returns-in_ok-first-in-And-clause-did t c =
    let s = c.args.card.now.setting.now in
    let card = c.args.card.now.number in
    let w0 = c.args.walk.now in
    let w1 = c.part_value-in-And.new.walk in
    let w2 = c.second-in-And.new.walk in
    let x = c.in-And in
    by_two w0 w1 w2 s card c.second-in-And.result c.args.e.now (view.And x.a x.b) (Tested And) c.in_ok-first-in-And.first x.a x.b c.get-in-And.result.now c.get-in-And-2.result.now x.is
    (λ w. of_and w card (moment w0).now x.a x.b) c.get-in-And.ensures c.get-in-And-2.ensures c.part_value-in-And.ensures.on.grows c.in_ok-first-in-And.ensures.did c.second-in-And.ensures.did

pub operand-returns-in_ok-first-in-Or-clause-did : goal.operand-returns-in_ok-first-in-Or-clause-did
operand-returns-in_ok-first-in-Or-clause-did t c =
    let s = c.args.card.now.setting.now in
    let card = c.args.card.now.number in
    let w0 = c.args.walk.now in
    let w1 = c.part_value-in-Or.new.walk in
    let w2 = c.second-in-Or.new.walk in
    let x = c.in-Or in
    by_two w0 w1 w2 s card c.second-in-Or.result c.args.e.now (view.Or x.a x.b) (Tested Or) c.in_ok-first-in-Or.first x.a x.b c.get-in-Or.result.now c.get-in-Or-2.result.now x.is
    (λ w. of_or w card (moment w0).now x.a x.b) c.get-in-Or.ensures c.get-in-Or-2.ensures c.part_value-in-Or.ensures.on.grows c.in_ok-first-in-Or.ensures.did c.second-in-Or.ensures.did

pub operand-returns-in-Const-clause-did : goal.operand-returns-in-Const-clause-did
operand-returns-in-Const-clause-did t c =
    let s = c.args.card.now.setting.now in
    let card = c.args.card.now.number in
    let w0 = c.args.walk.now in
    let w1 = c.constant_of.new.walk in
    by_within w0.pool w1.pool s card (moment w0) (moment w1) c.constant_of.result c.args.e.now (Const c.in-Const.c) (λ w. steps.computed w (steps.constant w card c.in-Const.c)) c.in-Const.is (λ w. refl) c.constant_of.ensures.did

pub operand-returns-in-Truth-clause-did : goal.operand-returns-in-Truth-clause-did
operand-returns-in-Truth-clause-did t c =
    let s = c.args.card.now.setting.now in
    let card = c.args.card.now.number in
    let w0 = c.args.walk.now in
    let w1 = c.truth_of.new.walk in
    by_does w0.pool w1.pool s card (moment w0) (moment w1) c.truth_of.result c.args.e.now (Truth c.in-Truth.b) (λ w. see (Computed (w.sense.truth_value c.in-Truth.b))) c.in-Truth.is (λ w. refl) c.truth_of.ensures.did

pub operand-returns-in-Var-clause-did : goal.operand-returns-in-Var-clause-did
operand-returns-in-Var-clause-did t c =
    let s = c.args.card.now.setting.now in
    let card = c.args.card.now.number in
    let w0 = c.args.walk.now in
    let w1 = c.name_of.new.walk in
    by_does w0.pool w1.pool s card (moment w0) (moment w1) c.name_of.result c.args.e.now (Var c.in-Var.x) (λ w. see (Bare c.in-Var.x ((moment w0).now c.in-Var.x))) c.in-Var.is (λ w. refl) c.name_of.ensures.did

pub operand-returns-in-Apply-clause-did : goal.operand-returns-in-Apply-clause-did
operand-returns-in-Apply-clause-did t c =
    let s = c.args.card.now.setting.now in
    let card = c.args.card.now.number in
    let w0 = c.args.walk.now in
    let w1 = c.applied.new.walk in
    by_applied w0.pool w1.pool s card (moment w0) (moment w1) c.applied.result c.args.e.now (view.Apply c.in-Apply.a c.in-Apply.args) c.in-Apply.a c.in-Apply.args c.as_slice.result.now c.in-Apply.is
    (λ w. of_apply w card (moment w0).now c.in-Apply.a c.in-Apply.args) c.as_slice.ensures c.applied.ensures.did

-- ---- expressions one after another

pub values-loop-e-init : goal.values-loop-e-init
values-loop-e-init t c =
    let s = c.args.card.now.setting.now in
    let w0 = c.args.walk.now in
    record {
      on = follows_not w0 c.requires.well;
      ready = c.requires.ready;
      inside = none_below (length w0.pool) c.new-all.result.items c.new-all.ensures.items;
      did = λ p r. first_at (values_row (seen_from s p) c.args.card.now.number (moment w0).now) c.args.args.now (moment w0) (tree_of w0.pool) c.new-all.result.items c.new-all.ensures.items;
    }

pub values-loop-e-preserved : goal.values-loop-e-preserved
values-loop-e-preserved t c =
    let s = c.args.card.now.setting.now in
    let card = c.args.card.now.number in
    let w0 = c.args.walk.now in
    let w1 = c.loop-e.walk in
    let w2 = c.part_value.new.walk in
    let k = c.loop-e.e-index in
    let next : k + 1 ≡ suc k = omega arith in
    let old = c.loop-e.all.items in
    let new = c.push.new.self.items in
    let id = c.in_ok-id.id in
    record {
      on = follows_then w0 w1 w2 c.loop-e.invariant.on c.part_value.ensures.on;
      ready = c.in_ok-id.ensures.ready;
      inside = values_within w1.pool w2.pool old new id c.part_value.ensures.on.grows c.loop-e.invariant.inside c.in_ok-id.ensures.is_in c.in-Ok.ensures.items;
      did =
          λ p r.
          values_more (seen_from s p) card (moment w0).now c.args.args.now w0 w1 w2 k (k + 1) c.e-item.result old new id (c.loop-e.invariant.did p r) refl c.part_value.ensures.on.grows c.loop-e.invariant.inside
          c.loop-e-test.true c.e-item.is next (c.in_ok-id.ensures.did p (ready_stays w0.pool w1.pool c.loop-e.invariant.on.grows s.scene.now p r)) c.in-Ok.ensures.items;
    }

pub values-returns-clause-did : goal.values-returns-clause-did
values-returns-clause-did t c =
    let s = c.args.card.now.setting.now in
    let w0 = c.args.walk.now in
    let w1 = c.loop-e.walk in
    let past : length c.args.args.now ≤ c.loop-e.e-index = grind (arith, common_steps, c.loop-e-test.false) in
    λ p r.
    first_all (values_row (seen_from s p) c.args.card.now.number (moment w0).now) c.args.args.now (moment w0) (moment w1) c.loop-e.e-index (map (tree_of w1.pool) c.loop-e.all.items) refl (c.loop-e.invariant.did p r) past

pub operands-loop-e-init : goal.operands-loop-e-init
operands-loop-e-init t c =
    let s = c.args.card.now.setting.now in
    let w0 = c.args.walk.now in
    record {
      on = follows_not w0 c.requires.well;
      ready = c.requires.ready;
      inside = no_operands (length w0.pool) c.new-all.result.items c.new-all.ensures.items;
      did = λ p r. first_at (operands_row (seen_from s p) c.args.card.now.number (moment w0).now) c.args.args.now (moment w0) (operand_tree w0.pool) c.new-all.result.items c.new-all.ensures.items;
    }

pub operands-loop-e-preserved : goal.operands-loop-e-preserved
operands-loop-e-preserved t c =
    let s = c.args.card.now.setting.now in
    let card = c.args.card.now.number in
    let w0 = c.args.walk.now in
    let w1 = c.loop-e.walk in
    let w2 = c.operand.new.walk in
    let k = c.loop-e.e-index in
    let next : k + 1 ≡ suc k = omega arith in
    let old = c.loop-e.all.items in
    let new = c.push.new.self.items in
    let x = c.in_ok-part.part in
    record {
      on = follows_then w0 w1 w2 c.loop-e.invariant.on c.operand.ensures.on;
      ready = ready_on w1.pool w2.pool s.scene.now c.operand.ensures.on.grows c.loop-e.invariant.ready;
      inside = operands_within w1.pool w2.pool old new x c.operand.ensures.on.grows c.loop-e.invariant.inside c.in_ok-part.ensures.is_in c.in-Ok.ensures.items;
      did =
          λ p r.
          operands_more (seen_from s p) card (moment w0).now c.args.args.now w0 w1 w2 k (k + 1) c.e-item.result old new x (c.loop-e.invariant.did p r) refl c.operand.ensures.on.grows c.loop-e.invariant.inside
          c.in_ok-part.ensures.is_in c.loop-e-test.true c.e-item.is next (c.in_ok-part.ensures.did p (ready_stays w0.pool w1.pool c.loop-e.invariant.on.grows s.scene.now p r)) c.in-Ok.ensures.items;
    }

pub operands-returns-clause-did : goal.operands-returns-clause-did
operands-returns-clause-did t c =
    let s = c.args.card.now.setting.now in
    let w0 = c.args.walk.now in
    let w1 = c.loop-e.walk in
    let past : length c.args.args.now ≤ c.loop-e.e-index = grind (arith, common_steps, c.loop-e-test.false) in
    λ p r.
    first_all (operands_row (seen_from s p) c.args.card.now.number (moment w0).now) c.args.args.now (moment w0) (moment w1) c.loop-e.e-index (operand_trees w1.pool c.loop-e.all.items) refl (c.loop-e.invariant.did p r) past

-- ---- what a name before a bracket is

pub element-returns-clause-did : goal.element-returns-clause-did
element-returns-clause-did t c =
    let s = c.args.card.now.setting.now in
    let card = c.args.card.now.number in
    let u = s.book.now.unit.now in
    let w0 = c.args.walk.now in
    let w1 = c.values.new.walk in
    let w2 = c.element_at.new.walk in
    let a = c.args.a.now in
    let ids = c.in_ok-subscripts.subscripts.items in
    let vs = map (tree_of w1.pool) ids in
    let x = operand_tree w2.pool c.in_ok-part.part in
    does_then s w0 w1 w2 (λ w. steps.values w card (moment w0).now (row_of c.args.args.now)) (λ w now xs. element_of w card now a (dims_of w.unit a) xs) vs x c.values.ensures.on.grows c.in_ok-subscripts.ensures.did
    (λ p r.
    subst (λ (ds : List Dim). Did (moment w1) (element_of (seen_from s p) card (moment w1).now a ds vs) (moment w2) x) c.dims-dims.ensures
    (subst (λ (them : List TermId). Did (moment w1) (element_of (seen_from s p) card (moment w1).now a c.dims-dims.result.now (map (tree_of w1.pool) them)) (moment w2) x) c.as_slice.ensures.value
    (c.in_ok-part.ensures.did p s.number u)))

pub built_in-returns-clause-did : goal.built_in-returns-clause-did
built_in-returns-clause-did t c =
    let s = c.args.card.now.setting.now in
    let card = c.args.card.now.number in
    let u = s.book.now.unit.now in
    let w0 = c.args.walk.now in
    let w1 = c.values.new.walk in
    let w2 = c.intrinsic_value.new.walk in
    let f = meaning c.args.function in
    let vs = map (tree_of w1.pool) c.in_ok-given.given.items in
    let v = tree_of w2.pool c.in_ok-id.id in
    does_then s w0 w1 w2 (λ w. steps.values w card (moment w0).now (row_of c.args.args.now)) (λ w now xs. steps.computed w (steps.intrinsic_value w card f xs)) vs (Computed v) c.values.ensures.on.grows
    c.in_ok-given.ensures.did
    (λ p r.
    did_computed (seen_from s p) (moment w1) (moment w2) (steps.intrinsic_value (seen_from s p) card f vs) v
    (subst (λ (them : List TermId). Did (moment w1) (steps.intrinsic_value (seen_from s p) card f (map (tree_of w1.pool) them)) (moment w2) v) c.as_slice.ensures.value (c.in_ok-id.ensures.did p s.number u)))

pub reference-refer-requires-clause-ready : goal.reference-refer-requires-clause-ready
reference-refer-requires-clause-ready t c = ready_on c.args.walk.now.pool c.operands.new.walk.pool c.args.card.now.setting.now.scene.now c.operands.ensures.on.grows c.requires.ready

pub reference-refer-requires-clause-operands : goal.reference-refer-requires-clause-operands
reference-refer-requires-clause-operands t c = subst (AreOperandsIn (length c.operands.new.walk.pool)) (sym c.as_slice.ensures.value) c.in_ok-actuals.ensures.is_in

pub reference-refer-requires-clause-function : goal.reference-refer-requires-clause-function
reference-refer-requires-clause-function t c = (c.args.a.now, c.function-callee.ensures.number)

pub reference-returns-clause-did : goal.reference-returns-clause-did
reference-returns-clause-did t c =
    let s = c.args.card.now.setting.now in
    let card = c.args.card.now.number in
    let w0 = c.args.walk.now in
    let w1 = c.operands.new.walk in
    let w2 = c.refer.new.walk in
    let a = c.args.a.now in
    let xs = operand_trees w1.pool c.in_ok-actuals.actuals.items in
    let v = tree_of w2.pool c.in_ok-id.id in
    does_then s w0 w1 w2 (λ w. steps.operands w card (moment w0).now (row_of c.args.args.now)) (λ w now ys. call w card (function w.program.units a) now ys >>= λ c. see (Computed (c.1))) xs (Computed v)
    c.operands.ensures.on.grows c.in_ok-actuals.ensures.did
    (λ p r.
    did_computed_call (moment w1) (moment w2) (call (seen_from s p) card (function p.units a) (moment w1).now xs) v
    (subst (λ (units : List Routine). Did (moment w1) (value_of_call (seen_from s p) card (function units a) (moment w1).now xs) (moment w2) v) r.is_scene.units
    (subst (λ (callee : Option ℕ). Did (moment w1) (value_of_call (seen_from s p) card callee (moment w1).now xs) (moment w2) v) c.function-callee.ensures.number
    (subst (λ (them : List Code). Did (moment w1) (value_of_call (seen_from s p) card c.function-callee.result (moment w1).now (operand_trees w1.pool them)) (moment w2) v) c.as_slice.ensures.value
    (c.in_ok-id.ensures.did p r)))))

pub applied-returns-then-not-is_empty-clause-did : goal.applied-returns-then-not-is_empty-clause-did
applied-returns-then-not-is_empty-clause-did t c =
    let s = c.args.card.now.setting.now in
    let card = c.args.card.now.number in
    let w0 = c.args.walk.now in
    let w1 = c.element.new.walk in
    let a = c.args.a.now in
    let args = c.args.args.now in
    IfOk-weaker c.element.result (λ x. DoesIn w0.pool s (moment w0) (λ w. parts.of_element w card (moment w0).now a args) (moment w1) (operand_tree w1.pool x))
    (λ x. DoesIn w0.pool s (moment w0) (λ w. parts.of_applied w card (moment w0).now a args) (moment w1) (operand_tree w1.pool x))
    (λ x d.
    does_as w0.pool s (moment w0) (moment w1) (λ w. parts.of_element w card (moment w0).now a args) (λ w. parts.of_applied w card (moment w0).now a args) (operand_tree w1.pool x)
    (λ p r. applied_element (seen_from s p) card (moment w0).now a args c.dims.result.now c.dims.ensures (sym c.is_empty.ensures ∙ c.if-not-is_empty.true)) d)
    c.element.ensures.did

pub applied-returns-in-Some-clause-did : goal.applied-returns-in-Some-clause-did
applied-returns-in-Some-clause-did t c =
    let s = c.args.card.now.setting.now in
    let card = c.args.card.now.number in
    let w0 = c.args.walk.now in
    let w1 = c.built_in.new.walk in
    let a = c.args.a.now in
    let args = c.args.args.now in
    let f = meaning c.in-Some.function in
    IfOk-weaker c.built_in.result (λ x. DoesIn w0.pool s (moment w0) (λ w. parts.of_built_in w card (moment w0).now f args) (moment w1) (operand_tree w1.pool x))
    (λ x. DoesIn w0.pool s (moment w0) (λ w. parts.of_applied w card (moment w0).now a args) (moment w1) (operand_tree w1.pool x))
    (λ x d.
    does_as w0.pool s (moment w0) (moment w1) (λ w. parts.of_built_in w card (moment w0).now f args) (λ w. parts.of_applied w card (moment w0).now a args) (operand_tree w1.pool x)
    (λ p r. applied_built_in (seen_from s p) card (moment w0).now a args c.dims.result.now f c.dims.ensures (sym c.is_empty.ensures ∙ c.if-not-is_empty.false) c.in-Some.ensures) d)
    c.built_in.ensures.did

pub applied-returns-in-None-clause-did : goal.applied-returns-in-None-clause-did
applied-returns-in-None-clause-did t c =
    let s = c.args.card.now.setting.now in
    let card = c.args.card.now.number in
    let w0 = c.args.walk.now in
    let w1 = c.reference.new.walk in
    let a = c.args.a.now in
    let args = c.args.args.now in
    IfOk-weaker c.reference.result (λ x. DoesIn w0.pool s (moment w0) (λ w. parts.of_reference w card (moment w0).now a args) (moment w1) (operand_tree w1.pool x))
    (λ x. DoesIn w0.pool s (moment w0) (λ w. parts.of_applied w card (moment w0).now a args) (moment w1) (operand_tree w1.pool x))
    (λ x d.
    does_as w0.pool s (moment w0) (moment w1) (λ w. parts.of_reference w card (moment w0).now a args) (λ w. parts.of_applied w card (moment w0).now a args) (operand_tree w1.pool x)
    (λ p r. applied_reference (seen_from s p) card (moment w0).now a args c.dims.result.now c.dims.ensures (sym c.is_empty.ensures ∙ c.if-not-is_empty.false) c.in-None.ensures) d)
    c.reference.ensures.did
