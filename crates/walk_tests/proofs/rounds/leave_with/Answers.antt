use Rattle.std.proofs.Common.{◌∙◌, sym}
use Rattle.std.proofs.lemmas.Result.{on_ok_weaker}
use Rattle.formula.specs.Pool.{tree_of}
use Rattle.fort_model.specs.Senses.{undefined}
use Rattle.fort_model.specs.WalkStmt.{left_with, with_name}
use Rattle.walk_state.specs.Moments.{moment, with_names}
use Rattle.walk_tests.proofs.rounds.leave_with.Goals as goal

pub returns-in-SeventySeven-clause-did : goal.returns-in-SeventySeven-clause-did
returns-in-SeventySeven-clause-did c =
    let m0 = moment c.args.walk.now in
    let sum = tree_of c.args.walk.now.pool c.args.sum in
    on_ok_weaker c.set.result (λ e w is. e ∙ (λ i. with_names m0 (with_name m0.now c.args.variable.now (left_with w (sym c.in-SeventySeven.is i) sum)))) c.set.ensures.set

pub returns-in-Common-clause-did : goal.returns-in-Common-clause-did
returns-in-Common-clause-did c =
    let m0 = moment c.args.walk.now in
    let sum = tree_of c.args.walk.now.pool c.args.sum in
    on_ok_weaker c.leave_undefined.result
    (λ e w is. e ∙ (λ i. with_names m0 (with_name m0.now c.args.variable.now (undefined (sym is i)))) ∙ (λ i. with_names m0 (with_name m0.now c.args.variable.now (left_with w (sym c.in-Common.is i) sum))))
    c.leave_undefined.ensures.did
