use Rattle.std.proofs.Common.{length, map}
use Rattle.formula.specs.Adding.{AreAdded}
use Rattle.formula.specs.Pool.{Grows}
use Rattle.formula.specs.Worth.{function_of}
use Rattle.event_reading.specs.Fronts.{AreDefinitions}
use Rattle.event_reading.proofs.reading.definitions_at.Given as goal

-- these lines were read
abbrev pub invariant-loop-behind : goal.invariant-loop-behind
invariant-loop-behind l = record {
  lines : AreDefinitions l.text (map (function_of l.pool) l.definitions) l.rest;
  added : AreAdded l.pool l.definitions;
  grows : Grows l.fn.pool l.pool;
}

abbrev pub decreases-loop-behind : goal.decreases-loop-behind
decreases-loop-behind l = length l.rest
