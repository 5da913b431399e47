use Rattle.run_ranks.proofs.Whole.{if_runnable}
use Rattle.run_ranks.proofs.ranks.Ranks.new.Goals as goal

pub returns : goal.returns
returns c = if_runnable c.args.units.now c.args.code.now c.args.order.now c.ranked.result c.requires.coded c.requires.runs c.ranked.ensures
