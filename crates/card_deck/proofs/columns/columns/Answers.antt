use Rattle.std.proofs.Common.{arith}
use Rattle.std.proofs.lemmas.Grind.{common_steps}
use Rattle.card_deck.proofs.Filled.{filled}
use Rattle.card_deck.proofs.columns.columns.Goals as goal

pub returns : goal.returns
returns c = filled c.args.bytes.now c.copy_from_slice.new.self c.min-len.result (grind arith) (grind (arith, common_steps))
