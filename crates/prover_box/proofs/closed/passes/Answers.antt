use Rattle.std.proofs.Common.{refl, sym, ◌∙◌, ap, Err, false}
use Rattle.formula.specs.Bounded.{beyond, spent}
use Rattle.formula.specs.Pool.{tree_of}
use Rattle.formula.specs.Worth.{functions_of}
use Rattle.formula.proofs.Added.{added_sound}
use Rattle.prover_box.proofs.ClosedGoals.{passed_by, unpassed_by}
use Rattle.prover_box.proofs.closed.passes.Goals as goal

pub worth-requires-clause-bodies : goal.worth-requires-clause-bodies
worth-requires-clause-bodies c = (added_sound c.args.pool.now c.args.definitions.now c.requires.added).0

pub returns-in-Ok : goal.returns-in-Ok
returns-in-Ok c =
    passed_by (functions_of c.args.pool.now c.args.definitions.now) (tree_of c.args.pool.now c.args.goal) _ c.is_true.result c.new-sheet.ensures _ c.in-Ok.ensures.value.0
    (sym c.has_symbol.ensures ∙ c.if-has_symbol.false) c.in-Ok.ensures.value.1 c.is_true.ensures

pub returns-in-Err-Beyond : goal.returns-in-Err-Beyond
returns-in-Err-Beyond c =
    unpassed_by (functions_of c.args.pool.now c.args.definitions.now) (tree_of c.args.pool.now c.args.goal) _ false c.new-sheet.ensures beyond refl
    (sym c.has_symbol.ensures ∙ c.if-has_symbol.false) (c.worth.ensures.beyond (c.in-Err-Beyond.is ∙ ap Err c.in-Err-Beyond.field-0-is))

pub returns-in-Err-Spent : goal.returns-in-Err-Spent
returns-in-Err-Spent c =
    unpassed_by (functions_of c.args.pool.now c.args.definitions.now) (tree_of c.args.pool.now c.args.goal) _ false c.new-sheet.ensures spent refl
    (sym c.has_symbol.ensures ∙ c.if-has_symbol.false) (c.worth.ensures.spent (c.in-Err-Spent.is ∙ ap Err c.in-Err-Spent.field-0-is))
