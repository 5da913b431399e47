use Rattle.std.proofs.Common.{◌≡◌, ◌++◌, ◌+◌, drop}
use Rattle.run_texts.specs.Runs.{run_text}
use Rattle.run_texts.proofs.lines.put_lines.Given as goal

abbrev pub invariant-loop-done : goal.invariant-loop-done
invariant-loop-done l =
    let deck = l.desk.deck.now in
    l.text.items ++ run_text deck.code.now.dialect deck.units.now l.desk.bound (l.done + 1) (drop l.done l.cards) ≡ l.fn.text.items ++ run_text deck.code.now.dialect deck.units.now l.desk.bound 1 l.cards
