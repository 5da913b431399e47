use Rattle.std.proofs.Common.{◌≡◌, ◌||◌, drop}
use Rattle.fort_syntax.specs.Units.{names_in, references_in}
use Rattle.fort_syntax.specs.Uses.{uses_of}
use Rattle.decl_faults.specs.Commons.{given_from}
use Rattle.unit_scope.specs.Scoping.{scope_by}
use Rattle.use_faults.specs.UseScans.{assigned_from}
use Rattle.use_faults.proofs.roles.gather.Given as goal

abbrev pub invariant-loop-line : goal.invariant-loop-line
invariant-loop-line l = record {
  names : given_from names_in l.gathered.names (drop l.line-index l.unit) ≡ given_from names_in l.initial.gathered.names l.unit;
  references : given_from (λ s. references_in (scope_by l.scope) (uses_of s)) l.gathered.references (drop l.line-index l.unit)
      ≡ given_from (λ s. references_in (scope_by l.scope) (uses_of s)) l.initial.gathered.references l.unit;
  assigned : (l.gathered.assigned || assigned_from l.own (drop l.line-index l.unit)) ≡ (l.initial.gathered.assigned || assigned_from l.own l.unit);
}
