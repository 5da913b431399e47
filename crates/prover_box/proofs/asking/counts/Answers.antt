use Rattle.prover_box.proofs.Asked.{told_more}
use Rattle.prover_box.proofs.asking.counts.Goals as goal

pub loop-prover-preserved : goal.loop-prover-preserved
loop-prover-preserved g c = record {
  told = told_more _ _ _ _ _ _ _ _ c.loop-prover-test.true c.prover-item.is c.told_of.ensures c.in-Ok.ensures.items c.loop-prover.invariant.told;
}
