use Rattle.std.proofs.Common.{rules, ◌≡◌, true, false}
use Rattle.std.specs.Prelude.{codes}
use Rattle.formula.specs.Atoms.{same_bytes}
use Rattle.note_forms.proofs.steps.step_of.Goals as goal

pub returns-then-is_same-clause-form : goal.returns-then-is_same-clause-form
returns-then-is_same-clause-form c =
    let yes : same_bytes (codes "HYP") c.args.word.now ≡ true = search rules in
    rw (yes) (c.hyp.ensures.form c.args.pool.now)

pub returns-then-is_same-clause-is_in : goal.returns-then-is_same-clause-is_in
returns-then-is_same-clause-is_in c = c.hyp.ensures.is_in _

pub returns-then-is_same-4-clause-form : goal.returns-then-is_same-4-clause-form
returns-then-is_same-4-clause-form c =
    let no_0 : same_bytes (codes "HYP") c.args.word.now ≡ false = search rules in
    let no_1 : same_bytes (codes "SAME") c.args.word.now ≡ false = search rules in
    let no_2 : same_bytes (codes "GROUND") c.args.word.now ≡ false = search rules in
    let yes : same_bytes (codes "SUM") c.args.word.now ≡ true = search rules in
    rw (no_0, no_1, no_2, yes) (c.sum.ensures.form c.args.pool.now)

pub returns-then-is_same-4-clause-is_in : goal.returns-then-is_same-4-clause-is_in
returns-then-is_same-4-clause-is_in c = c.sum.ensures.is_in _
