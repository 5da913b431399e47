use Rattle.std.proofs.Common.{◌∙◌}
use Rattle.std.proofs.lemmas.Int.{rem_is}
use Rattle.run_intrinsics.proofs.Reckoned.{remainder_is}
use Rattle.run_intrinsics.proofs.functions.left_over.Goals as goal

pub returns-in_default : goal.returns-in_default
returns-in_default c = rem_is _ c.args.a c.args.b c.ranges.a c.ranges.b ∙ remainder_is c.args.a c.args.b
