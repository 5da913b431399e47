use Rattle.std.proofs.Common.{◌≡◌, ◌-◌, suc, ℕ, arith, refl, subst}
use Rattle.formula.specs.Pool.{tree_of}
use Rattle.formula.specs.Tree.{Tree}
use Rattle.formula.specs.declared.function.BuiltIn.TheVariants.{Times}
use Rattle.formula.proofs.Grown.{tree_of-Grows}
use Rattle.fort_model.specs.Conditions.{sight}
use Rattle.fort_model.specs.Senses.{make2, of_terms}
use Rattle.fort_model.specs.WalkExpr as steps
use Rattle.walk_state.specs.Moments.{Did, moment}
use Rattle.walk_state.proofs.Parts.{did_then}
use Rattle.walk_values.proofs.Checked.{did_after}
use Rattle.walk_values.proofs.powers.+power_from.Goals as goal

pub returns-clause-did : goal.returns-clause-did
returns-clause-did t c p i u =
    let s = sight of_terms p i u in
    let card = c.args.card in
    let w0 = c.args.walk.now in
    let w1 = c.in_range_of.new.walk in
    let w2 = c.power_from.new.walk in
    let k : ℕ = c.args.more - 1 in
    let base = tree_of-Grows w0.pool w1.pool c.args.base c.in_range_of.ensures.on.grows c.requires.base in
    let product = tree_of w1.pool c.in_ok-next.next in
    let whole = tree_of w2.pool c.in_ok-whole.whole in
    let second = did_after (moment w1) (moment w1) (moment w2) (λ (b : Tree). steps.power_from s card b k product) (tree_of w0.pool c.args.base) (tree_of w1.pool c.args.base) whole whole refl base refl
    (c.in_ok-whole.ensures.did p i u) in
    let both = did_then (moment w0) (moment w1) (moment w2) (steps.ranged s card (make2 of_terms Times (tree_of w0.pool c.args.product) (tree_of w0.pool c.args.base)))
    (λ (q : Tree). steps.power_from s card (tree_of w0.pool c.args.base) k q) product whole (c.in_ok-next.ensures.did p i u) second in
    let count : suc k ≡ c.args.more = omega (arith, c.if-more-eq0.false) in
    subst (λ (n : ℕ). Did (moment w0) (steps.power_from s card (tree_of w0.pool c.args.base) n (tree_of w0.pool c.args.product)) (moment w2) whole) count both
