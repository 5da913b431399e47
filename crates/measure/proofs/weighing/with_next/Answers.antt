use Rattle.weight_calls.specs.Subjects.{sight_of}
use Rattle.measure.proofs.Fronts.{front_seen, shares}
use Rattle.measure.proofs.weighing.with_next.Goals as goal

pub follow-requires : goal.follow-requires
follow-requires c = (
  c.args.paths.now.course.steps.items,
  shares c.args.paths.now c.advance.new.self c.in-Some.view c.advance.ensures.shared c.in-Some.ensures.way
      c.in-Some.ensures.shared,
  c.requires.front,
)

pub returns-clause-front : goal.returns-clause-front
returns-clause-front c = front_seen (sight_of c.args.course.now.subject.now) c.advance.new.self c.in-Some.view c.follow.new.front
    c.in-Some.ensures.way c.in-Ok.ensures.front
