use Rattle.std.proofs.Common.{◌++◌, ◌≤◌, min, length, drop, arith}
use Rattle.formula.specs.Atoms.{is_among}
use Rattle.call_hits.specs.Hits.{actual_hits}
use Rattle.call_hits.proofs.Smashed.{at_end, all_pushed}
use Rattle.call_hits.proofs.hits.push_actuals.Goals as goal

pub returns : goal.returns
returns c =
    let over : min (length c.args.dummies.now) (length c.args.bare.now) ≤ c.loop-i.i = omega (arith, c.min-count.ensures, c.loop-i-test.false) in
    all_pushed c.loop-i.all.items (actual_hits (λ x. is_among x c.args.smashed.now) (drop c.loop-i.i c.args.dummies.now) (drop c.loop-i.i c.args.bare.now))
    (c.args.all.now.items ++ actual_hits (λ x. is_among x c.args.smashed.now) c.args.dummies.now c.args.bare.now)
    (at_end (λ x. is_among x c.args.smashed.now) c.args.dummies.now c.args.bare.now c.loop-i.i over) c.loop-i.invariant
