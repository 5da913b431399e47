use Rattle.std.proofs.Common.{◌-◌, length, arith}
use Rattle.formula.proofs.Growth.{argument_at}
use Rattle.formula.proofs.facts.row_facts.Goals as goal

pub facts_at-requires : goal.facts_at-requires
facts_at-requires c = argument_at (length c.args.facts.now) c.args.args.now (c.loop-left.left - 1) (record { place = 0 }) c.requires (omega arith)
