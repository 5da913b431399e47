use Rattle.std.proofs.Common.{ap, refl, subst}
use Rattle.formula.specs.Pool.{tree_of}
use Rattle.formula.specs.Tree.{Tree}
use Rattle.formula.proofs.Grown.{IsIn-Grows, tree_of-Grows}
use Rattle.fort_syntax.specs.declared.dialect.BinOp.TheVariants.{Add}
use Rattle.fort_model.specs.Conditions.{sight}
use Rattle.fort_model.specs.Seen.{Named, ◌>>=◌}
use Rattle.fort_model.specs.Senses.{of_terms}
use Rattle.fort_model.specs.WalkExpr as steps
use Rattle.fort_model.specs.WalkStmt as forms
use Rattle.walk_state.specs.Moments.{Did, Moment, moment}
use Rattle.walk_state.proofs.Parts.{did_then, follows_then}
use Rattle.walk_values.proofs.Checked.{did_after}
use Rattle.walk_loops.proofs.loops.next_sum.Goals as goal

pub operate-requires-clause-a : goal.operate-requires-clause-a
operate-requires-clause-a c = IsIn-Grows _ _ c.in_ok-value.value c.step_value.ensures.on.grows c.in_ok-value.ensures.is_in

pub returns-in_err-by-clause-on : goal.returns-in_err-by-clause-on
returns-in_err-by-clause-on c = follows_then c.args.walk.now c.read_name.new.walk c.step_value.new.walk c.read_name.ensures.on c.step_value.ensures.on

pub returns-in_err-sum-clause-on : goal.returns-in_err-sum-clause-on
returns-in_err-sum-clause-on c =
    follows_then c.args.walk.now c.step_value.new.walk c.operate.new.walk (follows_then c.args.walk.now c.read_name.new.walk c.step_value.new.walk c.read_name.ensures.on c.step_value.ensures.on) c.operate.ensures.on

pub returns-clause-on : goal.returns-clause-on
returns-clause-on c =
    follows_then c.args.walk.now c.step_value.new.walk c.operate.new.walk (follows_then c.args.walk.now c.read_name.new.walk c.step_value.new.walk c.read_name.ensures.on c.step_value.ensures.on) c.operate.ensures.on

pub returns-clause-did : goal.returns-clause-did
returns-clause-did c p i u e =
    let s = sight of_terms p i u in
    let card = c.args.card in
    let m0 = moment c.args.walk.now in
    let w1 = c.read_name.new.walk in
    let w2 = c.step_value.new.walk in
    let w3 = c.operate.new.walk in
    let value = tree_of w1.pool c.in_ok-value.value in
    let by = tree_of w2.pool c.in_ok-by.by in
    let sum = tree_of w3.pool c.in_ok-sum.sum in
    let first = c.in_ok-value.ensures.did p i u in
    let second = subst (λ (now : Named Tree). Did (moment w1) (forms.step_value s card now c.args.step) (moment w2) by) (ap (λ (m : Moment). m.now) first.is) (c.in_ok-by.ensures.did p i u e) in
    let third = did_after (moment w2) (moment w2) (moment w3) (λ (t : Tree). steps.operate s card Add t by) value (tree_of w2.pool c.in_ok-value.value) sum sum refl
    (tree_of-Grows w1.pool w2.pool c.in_ok-value.value c.step_value.ensures.on.grows c.in_ok-value.ensures.is_in) refl (c.in_ok-sum.ensures.did p i u) in
    let rest = did_then (moment w1) (moment w2) (moment w3) (forms.step_value s card m0.now c.args.step) (λ (b : Tree). steps.operate s card Add value b) by sum second third in
    did_then m0 (moment w1) (moment w3) (steps.read s card (m0.now c.args.variable.now)) (λ (v : Tree). forms.step_value s card m0.now c.args.step >>= λ b. steps.operate s card Add v b) value sum first rest
