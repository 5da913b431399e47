use Rattle.std.proofs.Common.{◌≡◌, suc, ◌+◌, ◌∙◌, ap, arith}
use Rattle.formula.proofs.Grown.{IsIn-Grows, tree_of-Grows}
use Rattle.note_terms.proofs.Added.{below_at, made_more, makes_more}
use Rattle.note_terms.specs.Stated.{at_least_0}
use Rattle.note_terms.proofs.clocks.at_least_zero.Goals as goal

pub not_negative-requires : goal.not_negative-requires
not_negative-requires c = IsIn-Grows c.args.pool.now c.loop-number.pool _ c.loop-number.invariant.grows (below_at _ c.args.numbers.now c.loop-number.number-index (record { place = 0 }) c.requires c.loop-number-test.true)

pub loop-number-preserved : goal.loop-number-preserved
loop-number-preserved c =
    let k = c.loop-number.number-index in
    let next : k + 1 ≡ suc k = omega arith in
    let same = tree_of-Grows c.args.pool.now c.loop-number.pool _ c.loop-number.invariant.grows (below_at _ c.args.numbers.now k (record { place = 0 }) c.requires c.loop-number-test.true) in
    makes_more c.args.pool.now c.loop-number.pool c.not_negative.new.pool _ _ c.in_ok-term.term _ _ _ c.loop-number.invariant c.not_negative.ensures.grows c.in_ok-term.ensures.is_in
    (c.in_ok-term.ensures.tree ∙ ap at_least_0 same) c.in_ok-push.ensures.items (made_more at_least_0 c.args.pool.now c.args.numbers.now k (k + 1) (record { place = 0 }) c.loop-number-test.true next)
