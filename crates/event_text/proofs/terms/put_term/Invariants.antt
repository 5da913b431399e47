use Rattle.std.proofs.Common.{◌≤◌, length, map}
use Rattle.formula.specs.Pool.{tree_of}
use Rattle.event_text.specs.Rests.{pending, IsNested}
use Rattle.event_text.specs.Sending.{Nears}
use Rattle.event_text.specs.TermText.{term_text}
use Rattle.event_text.proofs.terms.put_term.Given as goal

abbrev pub invariant-loop-bracket : goal.invariant-loop-bracket
invariant-loop-bracket g l =
    let names = map (λ d. d.name) l.definitions in
    record {
      room : l.fn.stack.room ≤ l.stack.room;
      nested : IsNested l.pool l.stack.brackets;
      nears : Nears (g.K.Sink.written l.fn.sink) (g.K.Sink.written l.sink) (g.K.Sink.faults l.fn.sink) (g.K.Sink.faults l.sink) l.fn.out l.out
          (term_text names (tree_of l.pool l.fn.id)) (pending names l.pool l.stack.brackets);
    }

abbrev pub decreases-loop-bracket : goal.decreases-loop-bracket
decreases-loop-bracket g l = length (pending (map (λ d. d.name) l.definitions) l.pool l.stack.brackets)
