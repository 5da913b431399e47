use Rattle.std.proofs.Common.{◌≡◌, drop}
use Rattle.fort_syntax.specs.Scopes.{is_integer_scalar}
use Rattle.std.specs.List.{list_any}
use Rattle.unit_scope.specs.Scoping.{scope_by}
use Rattle.std.specs.Prelude.{◌||◌, ◌&&◌, not}
use Rattle.formula.specs.Atoms.{is_among}
use Rattle.fort_syntax.specs.Units.{names_in_dims}
use Rattle.decl_faults.proofs.name_rules.has_bad_name.Given as goal

abbrev pub invariant-loop-dim : goal.invariant-loop-dim
invariant-loop-dim l = list_any (λ x. not l.is_dummy || not (is_among x l.dummies && is_integer_scalar (scope_by l.scope) x)) (names_in_dims (drop l.dim-index l.dims)) ≡ list_any (λ x. not l.is_dummy || not (is_among x l.dummies && is_integer_scalar (scope_by l.scope) x)) (names_in_dims l.dims)
