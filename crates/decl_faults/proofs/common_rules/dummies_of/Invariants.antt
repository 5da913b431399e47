use Rattle.std.proofs.Common.{◌≡◌, [], drop}
use Rattle.fort_syntax.specs.Units.{dummies_by}
use Rattle.decl_faults.specs.Commons.{given_from}
use Rattle.decl_faults.proofs.common_rules.dummies_of.Given as goal

abbrev pub invariant-loop-line : goal.invariant-loop-line
invariant-loop-line l = given_from dummies_by l.names (drop l.line-index l.unit) ≡ given_from dummies_by [] l.unit
