use Rattle.std.proofs.Common.{◌≤◌, map, take}
use Rattle.formula.specs.Pool.{row_in, trees}
use Rattle.event_text.specs.Sending.{Goes}
use Rattle.event_text.specs.TermText.{row_text}
use Rattle.event_text.proofs.terms.put_terms.Given as goal

abbrev pub invariant-loop-id : goal.invariant-loop-id
invariant-loop-id g l = record {
  room : l.fn.stack.room ≤ l.stack.room;
  goes : Goes (g.K.Sink.written l.fn.sink) (g.K.Sink.written l.sink) (g.K.Sink.faults l.fn.sink) (g.K.Sink.faults l.sink) l.fn.out l.out
      (row_text (map (λ d. d.name) l.definitions) (row_in (trees l.pool) (take l.id-index l.ids)));
}
