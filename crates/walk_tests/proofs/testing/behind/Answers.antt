use Rattle.std.proofs.lemmas.Result.{on_ok_weaker}
use Rattle.fort_model.specs.Flow.{loops_at, next_point}
use Rattle.walk_flow.proofs.Stands.{loops_stand}
use Rattle.walk_tests.proofs.testing.behind.Goals as goal

pub returns-clause-did : goal.returns-clause-did
returns-clause-did c =
    let at = c.args.at.now in
    let u = at.flow.now.setting.now.book.now.unit.now in
    on_ok_weaker c.tests_from.result (λ h. h (next_point u at.point) (loops_at u at.point) c.requires.target (loops_stand u at.point)) c.tests_from.ensures.did
