use Rattle.std.proofs.Common.{◌≡◌, [], drop}
use Rattle.decl_faults.specs.Commons.{given_from}
use Rattle.fort_syntax.specs.NameRules.{commons_by}
use Rattle.use_faults.proofs.roles.commons_of.Given as goal

abbrev pub invariant-loop-line : goal.invariant-loop-line
invariant-loop-line l = given_from commons_by l.names (drop l.line-index l.unit) ≡ given_from commons_by [] l.unit
