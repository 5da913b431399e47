use Rattle.std.proofs.Common.{◌≡◌, length, subst, arith}
use Rattle.formula.proofs.Digits.{Spells, one_more, figures_all, figures_short, figures_spell}
use Rattle.formula.proofs.atoms.spelled.Goals as goal

pub overflow_mul-n : goal.overflow_mul-n
overflow_mul-n c =
    let figures = c.without_zeros-figures.result.now in
    let few = figures_short c.args.digits.now figures c.without_zeros-figures.ensures c.requires.short in
    let all = figures_all c.args.digits.now figures c.without_zeros-figures.ensures c.requires.digits in
    let h = one_more figures c.loop-b.b-index c.loop-b.n all c.loop-b-test.true few c.loop-b.invariant in
    let low = h.0 in omega arith

pub overflow_sub-n : goal.overflow_sub-n
overflow_sub-n c =
    let figures = c.without_zeros-figures.result.now in
    let few = figures_short c.args.digits.now figures c.without_zeros-figures.ensures c.requires.short in
    let all = figures_all c.args.digits.now figures c.without_zeros-figures.ensures c.requires.digits in
    (one_more figures c.loop-b.b-index c.loop-b.n all c.loop-b-test.true few c.loop-b.invariant).1

pub overflow_add-n : goal.overflow_add-n
overflow_add-n c =
    let figures = c.without_zeros-figures.result.now in
    let few = figures_short c.args.digits.now figures c.without_zeros-figures.ensures c.requires.short in
    let all = figures_all c.args.digits.now figures c.without_zeros-figures.ensures c.requires.digits in
    let h = one_more figures c.loop-b.b-index c.loop-b.n all c.loop-b-test.true few c.loop-b.invariant in
    let low = h.0 in
    let high = h.2 in
    omega arith

pub loop-b-preserved : goal.loop-b-preserved
loop-b-preserved c =
    let figures = c.without_zeros-figures.result.now in
    let few = figures_short c.args.digits.now figures c.without_zeros-figures.ensures c.requires.short in
    let all = figures_all c.args.digits.now figures c.without_zeros-figures.ensures c.requires.digits in
    (one_more figures c.loop-b.b-index c.loop-b.n all c.loop-b-test.true few c.loop-b.invariant).3

pub returns-clause-small : goal.returns-clause-small
returns-clause-small c =
    let figures = c.without_zeros-figures.result.now in
    let few = figures_short c.args.digits.now figures c.without_zeros-figures.ensures c.requires.short in
    let e : c.loop-b.b-index ≡ length figures = omega arith in
    (figures_spell c.args.digits.now figures c.loop-b.n c.without_zeros-figures.ensures few (subst (λ k. Spells figures k c.loop-b.n) e c.loop-b.invariant)).1
