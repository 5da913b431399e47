use Rattle.weight_terms.proofs.Undone.{popped}
use Rattle.weight_terms.proofs.names.forget.Goals as goal

pub returns : goal.returns
returns c = popped c.args.map.now.entries c.pop.new.self.entries c.pop.result c.pop.ensures.entries c.pop.ensures.found.1
