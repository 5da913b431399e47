use Rattle.std.proofs.Common.{not, refl, ap, ◌∙◌}
use Rattle.std.proofs.lemmas.Result.{on_ok_weaker}
use Rattle.walk_state.specs.Moments.{moment}
use Rattle.walk_stmt.proofs.Parts.{returned_nothing, returned_value}
use Rattle.walk_stmt.proofs.statements.perform_return.Goals as goal

pub returns-then-is_none-clause-did : goal.returns-then-is_none-clause-did
returns-then-is_none-clause-did c =
    let at = c.args.at.now in
    let w0 = c.args.walk.now in
    returned_nothing w0.pool at.flow.now.setting.now at.card at.point (moment w0) (moment w0) (c.is_none.ensures ∙ ap not c.if-is_none.true) refl

pub returns-clause-did : goal.returns-clause-did
returns-clause-did c =
    let at = c.args.at.now in
    let w0 = c.args.walk.now in
    on_ok_weaker c.check_result.result (returned_value w0.pool at.flow.now.setting.now at.card at.point (moment w0) (moment c.check_result.new.walk) (c.is_none.ensures ∙ ap not c.if-is_none.false)) c.check_result.ensures.did
