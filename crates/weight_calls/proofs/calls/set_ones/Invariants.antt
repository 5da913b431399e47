use Rattle.std.proofs.Common.{◌≡◌, drop}
use Rattle.weight_terms.specs.Held.{held, marked}
use Rattle.weight_calls.specs.Calls.{ones_set}
use Rattle.weight_calls.proofs.calls.set_ones.Given as goal

abbrev pub invariant-loop-name : goal.invariant-loop-name
invariant-loop-name l = record {
  names : ones_set (drop l.name-index l.smashed) (held l.names) ≡ ones_set l.smashed (held l.fn.names);
  marks : marked l.names ≡ marked l.fn.names;
}
