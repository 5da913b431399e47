use Rattle.std.proofs.Common.{◌≡◌, ◌||◌, drop}
use Rattle.std.specs.List.{list_any}
use Rattle.formula.specs.Atoms.{is_among}
use Rattle.fort_model.specs.Walk.{is_dim}
use Rattle.fort_syntax.specs.declared.name.Name.{Name}
use Rattle.start_lists.proofs.dims.add_dims.Given as goal

abbrev pub invariant-loop-dim : goal.invariant-loop-dim
invariant-loop-dim l = (x : Name) → (is_among x l.set || list_any (is_dim x) (drop l.dim-index l.dims)) ≡ (is_among x l.fn.set || list_any (is_dim x) l.dims)
