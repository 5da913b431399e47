use Rattle.std.proofs.Common.{Err, ap}
use Rattle.prover_box.proofs.Asked.{kept_itself}
use Rattle.vcg_top.proofs.Texts.{command_can_run, found_fault, found_fault_part, found_part, found_reply}
use Rattle.vcg_top.proofs.answering.answer.Goals as goal

pub reply-requires-clause-runs : goal.reply-requires-clause-runs
reply-requires-clause-runs g c = command_can_run c.args.command _ c.args.bytes.now c.in-Ok.found c.dialect.ensures c.in-Ok.ensures.judged

pub returns-in-Ok-clause-done : goal.returns-in-Ok-clause-done
returns-in-Ok-clause-done g c is = found_reply c.args.command _ c.args.bytes.now _ _ c.dialect.ensures c.in-Ok.found _ _ c.in-Ok.ensures.judged (c.reply.ensures.done is)

pub returns-in-Ok-clause-part : goal.returns-in-Ok-clause-part
returns-in-Ok-clause-part g c is = found_part c.args.command _ c.args.bytes.now _ _ c.dialect.ensures c.in-Ok.found _ _ c.in-Ok.ensures.judged (c.reply.ensures.part is)

pub returns-in-Err-clause-refused : goal.returns-in-Err-clause-refused
returns-in-Err-clause-refused g c is =
    let told = c.deny.ensures.refused is in
    found_fault c.args.command _ c.args.bytes.now _ _ c.dialect.ensures told.0 (c.in-Err.ensures.broken told.0 (ap Err told.1)) told.2

pub returns-in-Err-clause-part : goal.returns-in-Err-clause-part
returns-in-Err-clause-part g c is =
    let told = c.deny.ensures.part is in
    found_fault_part c.args.command _ c.args.bytes.now _ _ c.dialect.ensures told.0 _ _ (c.in-Err.ensures.broken told.0 (ap Err told.1)) told.2

pub returns-in-Err-clause-kept : goal.returns-in-Err-clause-kept
returns-in-Err-clause-kept g c = kept_itself _
