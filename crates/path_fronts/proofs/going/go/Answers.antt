use Rattle.std.proofs.Common.{◌≡◌, ◌+◌, ◌≤◌, ◌∙◌, suc, List, drop, length, slice_get, None, subst, sym, arith}
use Rattle.formula.proofs.Grown.{Grows-trans}
use Rattle.formula.specs.Pool.{Grows}
use Rattle.formula.specs.declared.node.Node.{Node}
use Rattle.fort_model.specs.Program.{Program}
use Rattle.fort_model.specs.WalkStmt.{performed}
use Rattle.fort_syntax.specs.declared.unit.Line.{Line}
use Rattle.path_cut.specs.declared.step.Step.TheVariants.{At, Choice}
use Rattle.path_fronts.proofs.Carrying.{front_below}
use Rattle.path_fronts.proofs.Leading.{all_gone, gone_beyond}
use Rattle.path_fronts.proofs.OneMore.{behind_one, over_choice}
use Rattle.path_fronts.proofs.Stepped.{all_behind, none_beyond}
use Rattle.path_fronts.specs.Fronts.{set_out_at}
use Rattle.path_scene.specs.Scenes.{IsReady}
use Rattle.path_starts.proofs.Begun.{frame_on}
use Rattle.shared_fronts.proofs.Firsts.{got}
use Rattle.walk_setting.proofs.Ready.{ready_on}
use Rattle.walk_setting.specs.Settings.{performed_at, seen_from}
use Rattle.walk_state.specs.Moments.{moment}
use Rattle.way_laws.specs.PathsOf.{turns}
use Rattle.path_fronts.proofs.going.go.Goals as goal

pub loop-at-preserved-in_default : goal.loop-at-preserved-in_default
loop-at-preserved-in_default c =
    let s = c.args.flow.now.setting.now in
    let steps = c.args.steps.now in
    let k = c.loop-at.at in
    let inv = c.loop-at.invariant in
    let next : k + 1 ≡ suc k = omega arith in
    let le : k ≤ k + 1 = omega arith in
    record {
      start = inv.start;
      grows = inv.grows;
      front = front_below s steps k (k + 1) c.loop-at.front le inv.front;
      told = inv.told;
      is = over_choice s steps k (k + 1) c.loop-at.last c.in_default.field-0 c.in_default.field-1 c.loop-at.front next (got steps k _ (Choice c.in_default.field-0 c.in_default.field-1) c.loop-at-test.true c.in_default.is) inv.is;
    }

pub returns-then-point-lines-clause-front : goal.returns-then-point-lines-clause-front
returns-then-point-lines-clause-front c =
    let lt = c.loop-at-test.true in
    let le : c.loop-at.at ≤ length c.args.steps.now = omega (arith, lt) in
    front_below c.args.flow.now.setting.now c.args.steps.now c.loop-at.at (length c.args.steps.now) c.loop-at.front le c.loop-at.invariant.front

pub returns-then-point-lines-clause-gone : goal.returns-then-point-lines-clause-gone
returns-then-point-lines-clause-gone c p r =
    let w = seen_from c.args.flow.now.setting.now p in
    let f = c.loop-at.front in
    let point = c.in-At.point in
    let past : length w.unit.lines ≤ point = subst (λ (xs : List Line). length xs ≤ point) c.as_slice-lines.ensures c.if-point-lines.true in
    let none : slice_get w.unit.lines point ≡ None = none_beyond w.unit.lines point past in
    gone_beyond w (set_out_at w f.start) (moment f.walk) c.args.steps.now c.loop-at.at c.loop-at.last point _ c.loop-at-test.true c.in-At.is none (c.loop-at.invariant.is p r)

pub perform_at-requires-clause-well : goal.perform_at-requires-clause-well
perform_at-requires-clause-well c =
    let s = c.args.flow.now.setting.now in
    let steps = c.args.steps.now in
    let inv = c.loop-at.invariant in
    (c.in-Ok.ensures.front s steps inv.told inv.front inv.is (c.in-At.point, got steps c.loop-at.at _ (At c.in-At.point) c.loop-at-test.true c.in-At.is)).well

pub perform_at-requires-clause-ready : goal.perform_at-requires-clause-ready
perform_at-requires-clause-ready c =
    let scene = c.args.flow.now.setting.now.scene.now in
    let r = ready_on c.args.front.now.walk.pool c.loop-at.front.walk.pool scene c.loop-at.invariant.grows c.requires.ready in
    (r.0, subst (λ (nodes : List Node). IsReady nodes scene r.0) (sym c.in-Ok.ensures.pool) r.1)

pub loop-at-preserved : goal.loop-at-preserved
loop-at-preserved c =
    let s = c.args.flow.now.setting.now in
    let steps = c.args.steps.now in
    let k = c.loop-at.at in
    let point = c.in-At.point in
    let line = c.line.result.now in
    let inv = c.loop-at.invariant in
    let f = c.set_mark.new.front in
    let m = moment f.walk in
    let w = c.perform_at.new.walk in
    let next : k + 1 ≡ suc k = omega arith in
    let at = got steps k _ (At point) c.loop-at-test.true c.in-At.is in
    let r = ready_on c.args.front.now.walk.pool c.loop-at.front.walk.pool s.scene.now inv.grows c.requires.ready in
    let ready : (p : Program) × IsReady f.walk.pool s.scene.now p = (r.0, subst (λ (nodes : List Node). IsReady nodes s.scene.now r.0) (sym c.in-Ok.ensures.pool) r.1) in
    let stands = behind_one s steps k (k + 1) c.loop-at.last point line f w next at c.line.ensures ready
    (c.in-Ok.ensures.front s steps inv.told inv.front inv.is (point, at)) (c.in-Ok.ensures.at s steps inv.front inv.is) c.in-Ok-perform_at.ensures.on
    (λ p r.
    c.in-Ok-perform_at.ensures.did line c.line.ensures p r
    ∙ (λ i. performed_at m (performed (seen_from s p) line.card point m.now line.stmt (turns ((all_behind steps (k + 1) ∙ (λ j. drop (next j) steps)) i))))) in
    record {
      start = c.in-Ok.ensures.start ∙ inv.start;
      grows =
          Grows-trans c.args.front.now.walk.pool f.walk.pool w.pool (subst (λ (nodes : List Node). Grows c.args.front.now.walk.pool nodes) (sym c.in-Ok.ensures.pool) inv.grows)
          c.in-Ok-perform_at.ensures.on.grows;
      front = stands.front;
      told = frame_on f.walk w s.book.now.unit.now f.entry.items m.now c.in-Ok-perform_at.ensures.on (c.in-Ok.ensures.told s inv.told);
      is = stands.reaches;
    }

pub returns-clause-gone : goal.returns-clause-gone
returns-clause-gone c p r =
    let w = seen_from c.args.flow.now.setting.now p in
    let f = c.loop-at.front in
    all_gone w (set_out_at w f.start) (moment f.walk) c.args.steps.now c.loop-at.at c.loop-at.last (omega arith) (c.loop-at.invariant.is p r)
