use Rattle.std.proofs.Common.{◌≡◌, ◌++◌, drop}
use Rattle.run_lines.proofs.draft.push_all.Given as goal

abbrev pub invariant-loop-instr : goal.invariant-loop-instr
invariant-loop-instr l = l.out.items ++ drop l.instr-index l.more ≡ l.fn.out.items ++ l.more
