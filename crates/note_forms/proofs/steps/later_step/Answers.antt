use Rattle.std.proofs.Common.{rules, ◌≡◌, true, false}
use Rattle.std.specs.Prelude.{codes}
use Rattle.formula.specs.Atoms.{same_bytes}
use Rattle.note_forms.proofs.steps.later_step.Goals as goal

pub returns-then-is_same-2-clause-form : goal.returns-then-is_same-2-clause-form
returns-then-is_same-2-clause-form c =
    let no_0 : same_bytes (codes "CASES") c.args.word.now ≡ false = search rules in
    let yes : same_bytes (codes "TAKE") c.args.word.now ≡ true = search rules in
    rw (c.requires.hyp, c.requires.same, c.requires.closed, c.requires.sum, c.requires.split, c.requires.suppose, no_0, yes) (c.take.ensures.form c.args.pool.now)

pub returns-then-is_same-2-clause-is_in : goal.returns-then-is_same-2-clause-is_in
returns-then-is_same-2-clause-is_in c = c.take.ensures.is_in _

pub returns-then-is_same-3-clause-form : goal.returns-then-is_same-3-clause-form
returns-then-is_same-3-clause-form c =
    let no_0 : same_bytes (codes "CASES") c.args.word.now ≡ false = search rules in
    let no_1 : same_bytes (codes "TAKE") c.args.word.now ≡ false = search rules in
    let yes : same_bytes (codes "CELL") c.args.word.now ≡ true = search rules in
    rw (c.requires.hyp, c.requires.same, c.requires.closed, c.requires.sum, c.requires.split, c.requires.suppose, no_0, no_1, yes) (c.cell.ensures.form c.args.pool.now)

pub returns-then-is_same-3-clause-is_in : goal.returns-then-is_same-3-clause-is_in
returns-then-is_same-3-clause-is_in c = c.cell.ensures.is_in _

pub returns-then-is_same-6-clause-form : goal.returns-then-is_same-6-clause-form
returns-then-is_same-6-clause-form c =
    let no_0 : same_bytes (codes "CASES") c.args.word.now ≡ false = search rules in
    let no_1 : same_bytes (codes "TAKE") c.args.word.now ≡ false = search rules in
    let no_2 : same_bytes (codes "CELL") c.args.word.now ≡ false = search rules in
    let no_3 : same_bytes (codes "UNFOLD") c.args.word.now ≡ false = search rules in
    let no_4 : same_bytes (codes "BRANCH") c.args.word.now ≡ false = search rules in
    let yes : same_bytes (codes "USE") c.args.word.now ≡ true = search rules in
    rw (c.requires.hyp, c.requires.same, c.requires.closed, c.requires.sum, c.requires.split, c.requires.suppose, no_0, no_1, no_2, no_3, no_4, yes) (c.rewriting.ensures.form c.args.pool.now)

pub returns-then-is_same-6-clause-is_in : goal.returns-then-is_same-6-clause-is_in
returns-then-is_same-6-clause-is_in c = c.rewriting.ensures.is_in _
