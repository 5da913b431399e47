use Rattle.std.proofs.Common.{◌≡◌, drop, length}
use Rattle.formula.proofs.TableTerms.{BelowSoFar, FoundSoFar}
use Rattle.formula.proofs.substitution.table_of.Given as goal

abbrev pub invariant-loop-b : goal.invariant-loop-b
invariant-loop-b l = record {
  count : length l.names ≡ length l.terms.items;
  found : FoundSoFar l.names l.terms.items (drop l.b-index l.bindings) l.bindings;
  below : BelowSoFar l.terms.items (drop l.b-index l.bindings) l.bindings;
}
