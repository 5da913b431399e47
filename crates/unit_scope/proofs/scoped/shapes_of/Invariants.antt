use Rattle.std.proofs.Common.{◌≡◌, [], drop}
use Rattle.unit_scope.specs.Tellings.{shaped_from}
use Rattle.unit_scope.proofs.scoped.shapes_of.Given as goal

abbrev pub invariant-loop-line : goal.invariant-loop-line
invariant-loop-line l = shaped_from l.table (drop l.line-index l.unit) ≡ shaped_from [] l.unit
