use Rattle.flow_tests.proofs.Testing.{put_all}
use Rattle.flow_tests.proofs.chains.Chains.put.Goals as goal

pub returns : goal.returns
returns c =
    put_all c.args.unit.now c.args.at c.requires.at c.args.self.now.forks.items c.put_fork.new.forks.items c.args.self.now.behind.items c.args.self.now.over.items
    c.as_slice.result.now c.push.new.self.items c.in_ok-targets.targets c.args.last c.in_ok-test.test c.target_at-over.result
    c.requires.chains c.requires.label c.as_slice.ensures.value c.target_at-over.ensures c.in_ok-targets.ensures c.in_ok-test.ensures.fork c.in_ok-test.ensures.grown c.in-Ok.ensures.items
