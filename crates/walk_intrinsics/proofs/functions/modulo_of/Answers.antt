use Rattle.std.proofs.Common.{◌≡◌, ◌∙◌, List, arith, length, map, subst, sym}
use Rattle.formula.specs.declared.node.TermId.{TermId}
use Rattle.formula.specs.Pool.{tree_of}
use Rattle.formula.specs.Tree.{Tree}
use Rattle.fort_syntax.specs.Names as names
use Rattle.fort_model.specs.Conditions.{sight}
use Rattle.fort_model.specs.Seen.{See}
use Rattle.fort_model.specs.Senses.{of_terms}
use Rattle.fort_model.specs.WalkExpr as steps
use Rattle.walk_state.specs.Moments.{Did, moment}
use Rattle.walk_intrinsics.proofs.Counts.{length_trees, not_two, two_of}
use Rattle.walk_intrinsics.proofs.functions.modulo_of.Goals as goal

pub returns-then-count-ne2-clause-did : goal.returns-then-count-ne2-clause-did
returns-then-count-ne2-clause-did c p i u =
    let w0 = c.args.walk.now in
    let ids = c.args.values.now in
    let w1 = c.nothing.new.walk in
    subst (λ (part : See Tree Tree). Did (moment w0) part (moment w1) (tree_of w1.pool c.in_ok-none.none))
    (not_two p i u c.args.card (map (tree_of w0.pool) ids)
    (λ e.
    let count : length ids ≡ 2 = sym (length_trees w0.pool ids) ∙ e in
    omega (arith, count, c.if-count-ne2.true)))
    (c.in_ok-none.ensures.did p i u)

pub returns-clause-did : goal.returns-clause-did
returns-clause-did c p i u =
    let w0 = c.args.walk.now in
    let ids = c.args.values.now in
    let w1 = c.modulo.new.walk in
    let count : length ids ≡ 2 = omega (arith, c.if-count-ne2.false) in
    subst (λ (l : List TermId). Did (moment w0) (steps.intrinsic_value (sight of_terms p i u) c.args.card names.Modulo (map (tree_of w0.pool) l)) (moment w1) (tree_of w1.pool c.in_ok-value.value))
    (sym (two_of ids (record { place = 0 }) count)) (c.in_ok-value.ensures.did p i u)
