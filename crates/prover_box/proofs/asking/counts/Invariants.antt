use Rattle.std.proofs.Common.{◌≡◌, map, take}
use Rattle.prover_box.specs.Answers.{told}
use Rattle.prover_box.proofs.asking.counts.Given as goal

-- the provers so far are told
abbrev pub invariant-loop-prover : goal.invariant-loop-prover
invariant-loop-prover g l = record {
  told : l.asked.items ≡ map told (map (λ b. (goal.Prover-dyn g (b.vtable, b.value)).seen b.value) (take l.prover-index l.prover-items));
}
