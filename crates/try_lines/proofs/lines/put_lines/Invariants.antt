use Rattle.std.proofs.Common.{◌≡◌, ◌++◌, ◌+◌, map, drop}
use Rattle.event_text.specs.Conditions.{condition_tree}
use Rattle.formula.specs.Pool.{Grows}
use Rattle.formula.specs.Worth.{functions_of}
use Rattle.try_lines.specs.Tries.{try_text}
use Rattle.try_lines.proofs.lines.put_lines.Given as goal

abbrev pub invariant-loop-done : goal.invariant-loop-done
invariant-loop-done l =
    let fs = functions_of l.fn.pool l.desk.definitions.now in
    let cs = map (condition_tree l.fn.pool) l.desk.conditions.now in
    record {
      grows : Grows l.fn.pool l.pool;
      lines : l.text.items ++ try_text fs cs (l.done + 1) (drop l.done l.tries) ≡ l.fn.text.items ++ try_text fs cs 1 l.tries;
    }
