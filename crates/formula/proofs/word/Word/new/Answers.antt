use Rattle.std.proofs.Common.{arith}
use Rattle.std.proofs.lemmas.Grind.{common_steps}
use Rattle.formula.proofs.Padded.{padded}
use Rattle.formula.proofs.word.Word.new.Goals as goal

pub invariant_of-result : goal.invariant_of-result
invariant_of-result c = padded 24 c.args.bytes.now c.copy_from_slice.new.self (grind (arith, common_steps)) (grind (arith, common_steps)) (omega arith)
