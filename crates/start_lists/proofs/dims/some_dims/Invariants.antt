use Rattle.std.proofs.Common.{◌≡◌, ◌||◌, drop}
use Rattle.std.specs.List.{list_any}
use Rattle.formula.specs.Atoms.{is_among}
use Rattle.fort_model.specs.Walk.{is_dim, is_some_dim}
use Rattle.fort_syntax.specs.declared.name.Name.{Name}
use Rattle.start_lists.proofs.dims.some_dims.Given as goal

abbrev pub invariant-loop-data : goal.invariant-loop-data
invariant-loop-data l = (x : Name) → (is_among x l.set || list_any (λ d. list_any (is_dim x) d.dims) (drop l.data-index l.names)) ≡ is_some_dim l.unit x
