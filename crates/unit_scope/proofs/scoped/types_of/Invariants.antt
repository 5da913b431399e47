use Rattle.std.proofs.Common.{◌≡◌, [], drop}
use Rattle.unit_scope.specs.Tellings.{typed_from}
use Rattle.unit_scope.proofs.scoped.types_of.Given as goal

abbrev pub invariant-loop-line : goal.invariant-loop-line
invariant-loop-line l = typed_from l.table (drop l.line-index l.unit) ≡ typed_from [] l.unit
