use Rattle.std.proofs.Common.{map, take}
use Rattle.prover_box.specs.Answers.{AreAsked, AreKept}
use Rattle.prover_box.proofs.asking.close_all.Given as goal

-- the conditions so far have their marks
abbrev pub invariant-loop-c : goal.invariant-loop-c
invariant-loop-c g l = record {
  asked : AreAsked l.pool l.definitions (map (λ b. (goal.Prover-dyn g (b.vtable, b.value)).seen b.value) l.fn.provers.items) (take l.c-index l.conditions) (map (λ b. (goal.Prover-dyn g (b.vtable, b.value)).seen b.value) l.provers.items) l.letters.items;
  kept : AreKept (map (λ b. (goal.Prover-dyn g (b.vtable, b.value)).seen b.value) l.fn.provers.items) (map (λ b. (goal.Prover-dyn g (b.vtable, b.value)).seen b.value) l.provers.items);
}
