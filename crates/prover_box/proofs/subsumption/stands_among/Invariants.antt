use Rattle.std.proofs.Common.{ℕ, ◌<◌, get_or}
use Rattle.formula.specs.Pool.{tree_of}
use Rattle.prover_box.proofs.Standing.{Stands}
use Rattle.prover_box.proofs.subsumption.stands_among.Given as goal

-- none of the hypotheses so far is the goal or F
abbrev pub invariant-loop-hyp : goal.invariant-loop-hyp
invariant-loop-hyp l = record {
  none : (k : ℕ) → k < l.hyp-index → Stands l.pool l.hyps (tree_of l.pool l.goal) (get_or l.hyps k (record { place = 0 })) → ⊥;
}
