use Rattle.std.proofs.Common.{map}
use Rattle.prover_box.specs.Answers.{AreKept}
use Rattle.prover_box.proofs.Asked.{Leads}
use Rattle.prover_box.proofs.asking.close_one.Given as goal

-- those asked so far said no, and nothing else happened
abbrev pub invariant-loop-i : goal.invariant-loop-i
invariant-loop-i g l = record {
  leads : Leads l.pool l.definitions l.c (map (λ b. (goal.Prover-dyn g (b.vtable, b.value)).seen b.value) l.fn.provers.items) l.i (map (λ b. (goal.Prover-dyn g (b.vtable, b.value)).seen b.value) l.provers.items);
  kept : AreKept (map (λ b. (goal.Prover-dyn g (b.vtable, b.value)).seen b.value) l.fn.provers.items) (map (λ b. (goal.Prover-dyn g (b.vtable, b.value)).seen b.value) l.provers.items);
}
