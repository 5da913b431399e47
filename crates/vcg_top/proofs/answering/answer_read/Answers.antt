use Rattle.std.proofs.Common.{◌∙◌, inr}
use Rattle.prover_box.proofs.Asked.{kept_itself}
use Rattle.vcg_top.specs.Commands.{dialect_of}
use Rattle.vcg_top.proofs.Texts.{front_part, front_refused, front_reply}
use Rattle.vcg_top.proofs.answering.answer_read.Goals as goal

pub returns-clause-only : goal.returns-clause-only
returns-clause-only g c = inr c.answer.ensures.only

pub returns-clause-taken : goal.returns-clause-taken
returns-clause-taken g c bytes told is = (c.in-Ok.ensures.told bytes told).1

pub returns-clause-done : goal.returns-clause-done
returns-clause-done g c bytes told is =
    let read = c.in-Ok.ensures.told bytes told in
    front_reply _ bytes (c.deref.ensures.value ∙ read.0) _ _ c.args.command _ _ (c.answer.ensures.done is)

pub returns-clause-refused : goal.returns-clause-refused
returns-clause-refused g c bytes told is =
    let read = c.in-Ok.ensures.told bytes told in
    front_refused _ bytes (c.deref.ensures.value ∙ read.0) (dialect_of c.args.command) _ _ (c.answer.ensures.refused is)

pub returns-clause-part : goal.returns-clause-part
returns-clause-part g c bytes told is =
    let read = c.in-Ok.ensures.told bytes told in
    front_part _ bytes (c.deref.ensures.value ∙ read.0) _ _ c.args.command _ _ (c.answer.ensures.part is)

pub returns-in-Err-Fault-clause-kept : goal.returns-in-Err-Fault-clause-kept
returns-in-Err-Fault-clause-kept g c = kept_itself _

pub returns-in-Err-NoMemory-clause-kept : goal.returns-in-Err-NoMemory-clause-kept
returns-in-Err-NoMemory-clause-kept g c = kept_itself _
