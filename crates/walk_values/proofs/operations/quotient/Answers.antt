use Rattle.std.proofs.Common.{refl, subst}
use Rattle.formula.specs.Pool.{tree_of}
use Rattle.formula.specs.Tree.{Tree}
use Rattle.formula.specs.declared.function.BuiltIn.TheVariants.{Quotient}
use Rattle.formula.proofs.Grown.{IsIn-Grows, tree_of-Grows}
use Rattle.fort_model.specs.Conditions.{sight}
use Rattle.fort_model.specs.Senses.{make2, of_terms}
use Rattle.fort_model.specs.WalkExpr as steps
use Rattle.walk_state.specs.Moments.{Did, moment}
use Rattle.walk_state.proofs.Parts.{did_then, follows_then}
use Rattle.walk_values.proofs.Checked.{did_after}
use Rattle.walk_values.proofs.operations.quotient.Goals as goal

pub in_range_of-requires-clause-a : goal.in_range_of-requires-clause-a
in_range_of-requires-clause-a c = IsIn-Grows _ _ c.args.a c.divisor.ensures.on.grows c.requires.a

pub in_range_of-requires-clause-b : goal.in_range_of-requires-clause-b
in_range_of-requires-clause-b c = IsIn-Grows _ _ c.args.b c.divisor.ensures.on.grows c.requires.b

pub returns-in_err-value-clause-on : goal.returns-in_err-value-clause-on
returns-in_err-value-clause-on c = follows_then c.args.walk.now c.divisor.new.walk _ c.divisor.ensures.on c.in_range_of.ensures.on

pub returns-clause-on : goal.returns-clause-on
returns-clause-on c = follows_then c.args.walk.now c.divisor.new.walk _ c.divisor.ensures.on c.in_range_of.ensures.on

pub returns-clause-did : goal.returns-clause-did
returns-clause-did c p i u =
    let s = sight of_terms p i u in
    let p0 = c.args.walk.now.pool in
    let p1 = c.divisor.new.walk.pool in
    let g = c.divisor.ensures.on.grows in
    let ta = tree_of-Grows p0 p1 c.args.a g c.requires.a in
    let tb = tree_of-Grows p0 p1 c.args.b g c.requires.b in
    let m1 = moment c.divisor.new.walk in
    let value = tree_of c.in_range_of.new.walk.pool c.in_ok-value.value in
    let second = did_after m1 m1 (moment c.in_range_of.new.walk) (λ (t : Tree). steps.ranged s c.args.card t) (make2 of_terms Quotient (tree_of p0 c.args.a) (tree_of p0 c.args.b))
    (make2 of_terms Quotient (tree_of p1 c.args.a) (tree_of p1 c.args.b)) value value refl (λ j. make2 of_terms Quotient (ta j) (tb j)) refl (c.in_ok-value.ensures.did p i u) in
    did_then (moment c.args.walk.now) m1 (moment c.in_range_of.new.walk) (steps.divisor s c.args.card (tree_of p0 c.args.b))
    (λ _. steps.ranged s c.args.card (make2 of_terms Quotient (tree_of p0 c.args.a) (tree_of p0 c.args.b))) tt value (c.in_ok-divisor.ensures.did p i u) second
