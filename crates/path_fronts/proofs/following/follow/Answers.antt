use Rattle.std.proofs.Common.{subst, sym}
use Rattle.formula.proofs.Grown.{Grows-trans}
use Rattle.fort_model.specs.Program.{Program}
use Rattle.path_scene.proofs.Staying.{ready_stays}
use Rattle.path_scene.specs.Scenes.{IsReady}
use Rattle.walk_setting.proofs.Ready.{ready_on}
use Rattle.walk_setting.specs.declared.setting.Setting.{Setting}
use Rattle.path_fronts.proofs.following.follow.Goals as goal

pub go-requires-clause-ready : goal.go-requires-clause-ready
go-requires-clause-ready c =
    subst (λ (s : Setting). (p : Program) × IsReady c.in-Ok.standing.front.walk.pool s.scene.now p) (sym c.requires.same)
    (ready_on c.args.front.walk.pool _ c.args.plan.now.setting.now.scene.now c.in-Ok.ensures.grows c.requires.ready)

pub finish-requires-clause-ready : goal.finish-requires-clause-ready
finish-requires-clause-ready c =
    ready_on c.args.front.walk.pool _ c.args.plan.now.setting.now.scene.now (Grows-trans c.args.front.walk.pool _ _ c.in-Ok.ensures.grows c.in-Ok-go.ensures.grows) c.requires.ready

pub returns-clause-grows : goal.returns-clause-grows
returns-clause-grows c =
    Grows-trans c.args.front.walk.pool _ _ (Grows-trans c.args.front.walk.pool _ _ c.in-Ok.ensures.grows c.in-Ok-go.ensures.grows) c.in-Ok-finish.ensures.grows

pub returns-clause-along : goal.returns-clause-along
returns-clause-along c p r =
    c.in-Ok-finish.ensures.along p
    (ready_stays c.args.front.walk.pool _ (Grows-trans c.args.front.walk.pool _ _ c.in-Ok.ensures.grows c.in-Ok-go.ensures.grows) c.args.plan.now.setting.now.scene.now p r)
