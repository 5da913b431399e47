use Rattle.std.proofs.Common.{◌≡◌, ◌++◌, drop}
use Rattle.run_texts.specs.Told.{listed_text}
use Rattle.run_texts.proofs.outcomes.put_entries.Given as goal

abbrev pub invariant-loop-done : goal.invariant-loop-done
invariant-loop-done l = l.text.items ++ listed_text (drop l.done l.entries) l.cells.items ≡ l.fn.text.items ++ listed_text l.entries l.cells.items
