use Rattle.flow_tests.proofs.Testing.{skip_all}
use Rattle.flow_tests.proofs.chains.Chains.skip.Goals as goal

pub returns : goal.returns
returns c =
    skip_all c.args.unit.now c.args.at c.requires.at c.args.self.now.forks.items c.args.self.now.behind.items c.args.self.now.over.items c.push.new.self.items
    c.requires.chains c.requires.label c.in-Ok.ensures.items
