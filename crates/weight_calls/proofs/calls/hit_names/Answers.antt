use Rattle.std.proofs.Common.{map, ◌∙◌}
use Rattle.weight_calls.specs.Operands.{operand_of}
use Rattle.weight_calls.specs.Programs.{seen_program}
use Rattle.weight_calls.proofs.HitNames.{hits_so}
use Rattle.weight_calls.proofs.calls.hit_names.Goals as goal

pub returns : goal.returns
returns c =
    hits_so (seen_program c.args.subject.now.pool.now c.args.subject.now.scene.now) c.args.subject.now.number c.args.callee.now.number c.args.subject.now.book.now.unit.now c.args.callee.now.book.now.unit.now
    c.args.smashed.now c.as_slice.result.now (map operand_of c.args.operands.now) c.in-Ok-call_hits.names c.in-Ok-call_hits.ensures c.requires (c.as_slice.ensures.value ∙ c.in-Ok.ensures)
