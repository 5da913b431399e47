use Rattle.prover_box.proofs.Asked.{kept_itself}
use Rattle.vcg_top.proofs.replies.reply.Goals as goal

pub returns-in-Deck-Check-default-clause-kept : goal.returns-in-Deck-Check-default-clause-kept
returns-in-Deck-Check-default-clause-kept g c = kept_itself _

pub returns-in-Deck-Run-default-clause-kept : goal.returns-in-Deck-Run-default-clause-kept
returns-in-Deck-Run-default-clause-kept g c = kept_itself _

pub returns-in-Deck-Try-default-clause-kept : goal.returns-in-Deck-Try-default-clause-kept
returns-in-Deck-Try-default-clause-kept g c = kept_itself _
