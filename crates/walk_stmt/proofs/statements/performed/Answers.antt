use Rattle.std.proofs.Common.{subst}
use Rattle.std.proofs.lemmas.Result.{on_ok_weaker}
use Rattle.fort_syntax.specs.declared.unit.Line.{Line}
use Rattle.fort_model.specs.WalkStmt as forms
use Rattle.walk_setting.specs.Settings.{PerformsIn}
use Rattle.walk_state.specs.Moments.{moment}
use Rattle.walk_stmt.proofs.Stands.{same_line}
use Rattle.walk_stmt.proofs.statements.performed.Goals as goal

pub perform-requires-clause-target : goal.perform-requires-clause-target
perform-requires-clause-target c = c.start.ensures c.line-line.result.now c.line-line.ensures

pub returns-clause-did : goal.returns-clause-did
returns-clause-did c =
    let s = c.args.flow.now.setting.now in
    let w0 = c.args.walk.now in
    let w1 = c.perform.new.walk in
    on_ok_weaker c.perform.result
    (λ d line here. subst (λ (l : Line). PerformsIn w0.pool s (moment w0) (λ w. forms.performed w l.card c.args.point (moment w0).now l.stmt c.args.choices.now) (moment w1)) (same_line c.line-line.result.now line c.line-line.ensures here) d)
    c.perform.ensures.did
