use Rattle.std.proofs.Common.{◌≡◌, ap, subst, length, arith}
use Rattle.flow_tests.specs.Tests.{AreChains}
use Rattle.flow_tests.proofs.chains.chains_of.Goals as goal

pub returns : goal.returns
returns c =
    let long = ap length c.as_slice-at-end.ensures in
    let all : c.loop-at.at ≡ length c.args.unit.now.lines = omega (arith, long) in
    subst (λ n. AreChains c.args.unit.now n c.loop-at.chains.forks.items c.loop-at.chains.behind.items c.loop-at.chains.over.items) all c.loop-at.invariant
