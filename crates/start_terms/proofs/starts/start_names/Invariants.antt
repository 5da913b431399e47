use Rattle.std.proofs.Common.{take}
use Rattle.formula.specs.Pool.{Grows}
use Rattle.start_terms.specs.Starts.{IsStarted}
use Rattle.start_terms.proofs.starts.start_names.Given as goal

abbrev pub invariant-loop-name : goal.invariant-loop-name
invariant-loop-name l = record {
  grows : Grows l.fn.pool l.pool;
  started : IsStarted l.fn.pool l.fn.names l.pool l.names (take l.name-index l.smashed);
}
