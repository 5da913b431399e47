use Rattle.std.proofs.Common.{◌≡◌, ◌+◌, suc, List, length, take, Some, option_map, sym, ap, ◌∙◌, subst, arith}
use Rattle.path_cond.proofs.Paths.{Passed, checks_fit, graph_known, none_passed, number_fits, one_passed, start_of}
use Rattle.path_cond.proofs.Seen.{steps_seen}
use Rattle.path_cond.specs.Found.{drafts_of}
use Rattle.path_cond.specs.declared.found.Drafts.{Drafts}
use Rattle.path_cut.specs.Cursor.{way_at, way_seen, ways_left}
use Rattle.path_cut.specs.declared.step.Step.{Step}
use Rattle.path_fronts.specs.Fronts.{IsFront}
use Rattle.path_scene.proofs.Staying.{ready_stays}
use Rattle.path_cond.proofs.along.add_paths.Goals as goal

pub overflow_add-number : goal.overflow_add-number
overflow_add-number c =
    let here : way_at c.loop-more.paths ≡ Some (way_seen c.in-Some.path) = sym c.view.ensures.way ∙ ap (option_map way_seen) c.in-Some.is in
    let fits = number_fits c.args.plan.now c.args.flow.now.graph.now c.args.drafts (drafts_of c.loop-more.walked) c.loop-more.number c.loop-more.more (way_at c.loop-more.paths) (way_seen c.in-Some.path)
    (ways_left c.loop-more.paths) c.requires.ready.0 c.requires.ready.1 c.requires.few c.loop-more.invariant.passed here in
    omega (arith, fits)

pub loop-more-init : goal.loop-more-init
loop-more-init c =
    let plan = c.args.plan.now in
    let graph = c.args.flow.now.graph.now in
    let more = c.advance-more.result in
    let paths = c.advance-more.new.self in
    record {
      passed = subst (λ (d : Drafts). Passed plan graph c.args.drafts d 0 more (way_at paths) (ways_left paths)) (sym c.new-walked.ensures.same)
          (none_passed plan graph c.args.drafts more (way_at paths) (ways_left c.in-Ok.paths) (ways_left paths) c.requires.drafts c.in-Ok.ensures c.advance-more.ensures.found
          c.advance-more.ensures.way c.advance-more.ensures.left);
      front = (
        c.in-Ok.paths.course.steps.items,
        c.advance-more.ensures.shared.front,
        c.new-walked.ensures.front plan.setting.now c.in-Ok.paths.course.steps.items (length c.in-Ok.paths.course.steps.items),
      );
    }

pub add_path-requires-clause-graph : goal.add_path-requires-clause-graph
add_path-requires-clause-graph c =
    graph_known c.args.plan.now c.args.flow.now.setting.now c.args.flow.now.graph.now c.args.drafts.pool c.requires.ready.0 c.requires.same c.requires.ready.1 c.requires.graph

pub add_path-requires-clause-ready : goal.add_path-requires-clause-ready
add_path-requires-clause-ready c = (
  c.requires.ready.0,
  ready_stays c.args.drafts.pool c.loop-more.walked.front.walk.pool c.loop-more.invariant.passed.grows c.args.plan.now.setting.now.scene.now c.requires.ready.0 c.requires.ready.1,
)

pub add_path-requires-clause-start : goal.add_path-requires-clause-start
add_path-requires-clause-start c =
    let here : way_at c.loop-more.paths ≡ Some (way_seen c.in-Some.path) = sym c.view.ensures.way ∙ ap (option_map way_seen) c.in-Some.is in
    start_of c.args.plan.now c.args.flow.now.graph.now c.args.drafts (drafts_of c.loop-more.walked) c.loop-more.number c.loop-more.more (way_at c.loop-more.paths) (way_seen c.in-Some.path)
    (ways_left c.loop-more.paths) c.requires.ready.0 c.requires.ready.1 c.requires.graph c.loop-more.invariant.passed here

pub add_path-requires-clause-few : goal.add_path-requires-clause-few
add_path-requires-clause-few c =
    let here : way_at c.loop-more.paths ≡ Some (way_seen c.in-Some.path) = sym c.view.ensures.way ∙ ap (option_map way_seen) c.in-Some.is in
    checks_fit c.args.plan.now c.args.flow.now.graph.now c.args.drafts (drafts_of c.loop-more.walked) c.loop-more.number c.loop-more.more (way_at c.loop-more.paths) (way_seen c.in-Some.path)
    (ways_left c.loop-more.paths) c.requires.ready.0 c.requires.ready.1 c.requires.graph c.requires.few c.loop-more.invariant.passed here

pub add_path-requires-clause-front : goal.add_path-requires-clause-front
add_path-requires-clause-front c =
    let here : way_at c.loop-more.paths ≡ Some (way_seen c.in-Some.path) = sym c.view.ensures.way ∙ ap (option_map way_seen) c.in-Some.is in
    let front = c.loop-more.invariant.front in (
      front.0,
      (λ i. take (c.in-Some.ensures.shared i) (sym (steps_seen c.loop-more.paths (way_seen c.in-Some.path) here) i))
          ∙ (front.1 ∙ (λ i. take (sym c.in-Some.ensures.shared i) front.0)),
      front.2,
    )

pub loop-more-preserved : goal.loop-more-preserved
loop-more-preserved c =
    let here : way_at c.loop-more.paths ≡ Some (way_seen c.in-Some.path) = sym c.view.ensures.way ∙ ap (option_map way_seen) c.in-Some.is in
    let one : c.loop-more.number + 1 ≡ suc c.loop-more.number = omega arith in
    let after = c.in-Ok-add_path.after in
    record {
      passed =
          one_passed c.args.plan.now c.args.flow.now.graph.now c.args.drafts (drafts_of c.loop-more.walked) (drafts_of after) c.loop-more.number (c.loop-more.number + 1) c.loop-more.more
          c.advance-next.result (way_at c.loop-more.paths) (way_at c.advance-next.new.self) (way_seen c.in-Some.path) (ways_left c.loop-more.paths)
          (ways_left c.advance-next.new.self) c.loop-more.invariant.passed here one c.in-Ok-add_path.ensures.adds c.advance-next.ensures.found c.advance-next.ensures.way
          c.advance-next.ensures.left;
      front = (
        c.loop-more.paths.course.steps.items,
        c.advance-next.ensures.shared.front,
        subst (λ (steps : List Step). IsFront c.args.plan.now.setting.now steps (length steps) after.front) (sym (steps_seen c.loop-more.paths (way_seen c.in-Some.path) here))
            c.in-Ok-add_path.ensures.front,
      );
    }
