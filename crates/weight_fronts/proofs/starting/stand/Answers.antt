use Rattle.std.proofs.Common.{◌≡◌, length, ◌∙◌, arith}
use Rattle.weight_calls.specs.Subjects.{sight_of}
use Rattle.weight_fronts.proofs.Marks.{moved}
use Rattle.weight_fronts.proofs.starting.stand.Goals as goal

pub returns-in-Some-clause-some : goal.returns-in-Some-clause-some
returns-in-Some-clause-some c =
    let w = sight_of c.args.subject.now in
    let before = c.requires.front.0 in
    let same : c.args.front.now.start ≡ c.args.path.now.start = omega arith in
    moved w c.args.path.now.shared c.args.path.now.start before c.args.path.now.steps.now c.in-Some.mark c.back_to.new.front c.tell.new.load
    c.in-Some.ensures.before c.requires.front.1 (c.in-Some.ensures.start ∙ same) c.tell.ensures
    (c.in-Some.ensures.at w before (length before) c.requires.front.2)
