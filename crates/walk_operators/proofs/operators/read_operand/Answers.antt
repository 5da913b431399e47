use Rattle.std.proofs.Common.{◌<◌, ap, length, refl, subst, sym}
use Rattle.formula.specs.Pool.{tree_of}
use Rattle.formula.specs.Tree.{Tree}
use Rattle.formula.proofs.Grown.{tree_of-Grows}
use Rattle.fort_model.specs.Conditions.{sight}
use Rattle.fort_model.specs.Senses.{of_terms}
use Rattle.fort_model.specs.WalkCalls.{Bare, Part, Operand}
use Rattle.fort_model.specs.WalkExpr as steps
use Rattle.walk_operands.specs.Operands.{IsOperandIn, operand_tree}
use Rattle.walk_state.specs.Moments.{moment}
use Rattle.walk_values.proofs.Checked.{did_after}
use Rattle.walk_operators.proofs.operators.read_operand.Goals as goal

pub returns-in_ok-read-in-Bare-clause-did : goal.returns-in_ok-read-in-Bare-clause-did
returns-in_ok-read-in-Bare-clause-did c p i u =
    let s = sight of_terms p i u in
    let w0 = c.args.walk.now in
    let w1 = c.read.new.walk in
    let id = c.in-Bare.value in
    let inside = subst (IsOperandIn (length w0.pool)) c.in-Bare.is c.requires.operand in
    did_after (moment w0) (moment w0) (moment w1) (λ (x : Operand Tree). steps.read_operand s c.args.card x) (operand_tree w0.pool c.args.operand) (Bare c.in-Bare.field-0 (tree_of w0.pool id)) (tree_of w1.pool id) (tree_of w0.pool id)
    refl (sym (ap (operand_tree w0.pool) c.in-Bare.is)) (tree_of-Grows w0.pool w1.pool id c.read.ensures.on.grows inside) (c.in_ok-read-in-Bare.ensures.did p i u)

pub returns-in_ok-read-in-Part-clause-did : goal.returns-in_ok-read-in-Part-clause-did
returns-in_ok-read-in-Part-clause-did c p i u =
    let s = sight of_terms p i u in
    let w0 = c.args.walk.now in
    let w1 = c.read-in-Part.new.walk in
    let id = c.in-Part.value in
    let inside = subst (IsOperandIn (length w0.pool)) c.in-Part.is c.requires.operand in
    did_after (moment w0) (moment w0) (moment w1) (λ (x : Operand Tree). steps.read_operand s c.args.card x) (operand_tree w0.pool c.args.operand) (Part (tree_of w0.pool id)) (tree_of w1.pool id) (tree_of w0.pool id)
    refl (sym (ap (operand_tree w0.pool) c.in-Part.is)) (tree_of-Grows w0.pool w1.pool id c.read-in-Part.ensures.on.grows inside) (c.in_ok-read-in-Part.ensures.did p i u)
