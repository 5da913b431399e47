use Rattle.std.proofs.Common.{◌∙◌, sym, arith}
use Rattle.std.proofs.lemmas.Option.{slice_get_within}
use Rattle.weight_calls.specs.Subjects.{sight_of}
use Rattle.weight_terms.specs.Held.{held}
use Rattle.way_laws.specs.PathsOf.{turns}
use Rattle.weight_tallies.specs.Tallies as tally
use Rattle.weight_path.proofs.statements.perform_at.Goals as goal

pub performed-requires : goal.performed-requires
performed-requires c =
    let inside = slice_get_within c.args.course.now.subject.now.book.now.unit.now.lines c.args.point c.in-Some.line.now (sym c.in-Some.ensures) in
    omega arith

pub returns-in_default-clause-load : goal.returns-in_default-clause-load
returns-in_default-clause-load c =
    λ i. (tally.perform_line (sight_of c.args.course.now.subject.now) (c.in_default.ensures i) c.args.point (held c.args.names.now) (turns c.args.behind.now) c.args.load.now).load

pub returns-in_default-clause-names : goal.returns-in_default-clause-names
returns-in_default-clause-names c =
    λ i. (tally.perform_line (sight_of c.args.course.now.subject.now) (c.in_default.ensures i) c.args.point (held c.args.names.now) (turns c.args.behind.now) c.args.load.now).value

pub returns-clause-load : goal.returns-clause-load
returns-clause-load c =
    let w = sight_of c.args.course.now.subject.now in
    c.in-Ok-performed.ensures.load
    ∙ ((λ i. (tally.performed w c.args.point (held c.args.names.now) c.in-Some.line.now.stmt ((c.as_slice.ensures.value ∙ c.in-Ok.ensures) i) c.args.load.now).load)
    ∙ (λ i. (tally.perform_line w (c.in-Some.ensures i) c.args.point (held c.args.names.now) (turns c.args.behind.now) c.args.load.now).load))

pub returns-clause-names : goal.returns-clause-names
returns-clause-names c =
    let w = sight_of c.args.course.now.subject.now in
    c.in-Ok-performed.ensures.names
    ∙ ((λ i. (tally.performed w c.args.point (held c.args.names.now) c.in-Some.line.now.stmt ((c.as_slice.ensures.value ∙ c.in-Ok.ensures) i) c.args.load.now).value)
    ∙ (λ i. (tally.perform_line w (c.in-Some.ensures i) c.args.point (held c.args.names.now) (turns c.args.behind.now) c.args.load.now).value))
