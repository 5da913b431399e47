use Rattle.prover_box.proofs.Asked.{kept_itself}
use Rattle.vcg_top.proofs.answering.answer_made.Goals as goal

pub returns-in-Err-BadNumber-clause-kept : goal.returns-in-Err-BadNumber-clause-kept
returns-in-Err-BadNumber-clause-kept g c = kept_itself _

pub returns-in-Err-NoMemory-clause-kept : goal.returns-in-Err-NoMemory-clause-kept
returns-in-Err-NoMemory-clause-kept g c = kept_itself _
