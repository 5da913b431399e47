use Rattle.std.proofs.Common.{◌≤◌, map, take}
use Rattle.std.specs.List.{flat_map}
use Rattle.formula.specs.Worth.{function_of}
use Rattle.event_text.specs.EventText.{definition_line}
use Rattle.event_text.specs.Sending.{Goes}
use Rattle.event_text.proofs.definition.put_definitions.Given as goal

abbrev pub invariant-loop-k : goal.invariant-loop-k
invariant-loop-k g l = record {
  room : l.fn.stack.room ≤ l.stack.room;
  goes : Goes (g.K.Sink.written l.fn.sink) (g.K.Sink.written l.sink) (g.K.Sink.faults l.fn.sink) (g.K.Sink.faults l.sink) l.fn.out l.out
      (flat_map (λ d. definition_line (map (λ e. e.name) l.fn.definitions) (function_of l.fn.pool d)) (take l.k l.fn.definitions));
}
