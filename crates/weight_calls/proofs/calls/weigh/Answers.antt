use Rattle.std.proofs.Common.{map, ap, ◌∙◌, length}
use Rattle.weight_caps.specs.Capped.{capped}
use Rattle.weight_terms.specs.Held.{held}
use Rattle.weight_tallies.specs.Tallies as tally
use Rattle.weight_calls.specs.Operands.{operand_of}
use Rattle.weight_calls.specs.Programs.{seen_program}
use Rattle.weight_calls.specs.Seen.{changed_by}
use Rattle.weight_calls.specs.Subjects.{sight_of}
use Rattle.weight_calls.proofs.CallSteps.{weighed_so}
use Rattle.weight_calls.proofs.calls.weigh.Goals as goal

pub returns : goal.returns
returns c =
    weighed_so (seen_program c.args.subject.now.pool.now c.args.subject.now.scene.now) c.args.subject.now.number c.args.callee.now.number c.args.subject.now.book.now.unit.now c.args.callee.now.book.now.unit.now
    c.args.subject.now.pool.now (held c.args.names.now) (held c.in-Ok.before) (held c.in-Ok-seen_behind.behind) (map operand_of c.args.operands.now) c.input-input.result.now c.output-output.result.now
    c.in-Ok-smashed_by.smashed c.args.load.now c.test_terms.new.load c.add.new.self c.add-2.new.self c.count_of.result c.in-Ok-sum_terms.sum
    c.in-Ok.ensures c.input-input.ensures.terms c.in-Ok-test_terms.ensures c.in-Ok-smashed_by.ensures (c.count_of.ensures ∙ ap (λ ns. capped (length ns)) c.as_slice.ensures) c.add.ensures
    (c.in-Ok-seen_behind.ensures
    ∙ ap (λ ns. tally.seen_after (sight_of c.args.subject.now) c.args.callee.now.book.now.unit.now (changed_by ns (held c.args.names.now)) (map operand_of c.args.operands.now)) c.as_slice-2.ensures)
    c.output-output.ensures.terms c.in-Ok-sum_terms.ensures c.add-2.ensures
