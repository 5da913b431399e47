use Rattle.std.proofs.Common.{◌≡◌, ◌++◌, drop}
use Rattle.std.specs.List.{filter}
use Rattle.fort_model.specs.Walk.{dim_dummies, is_some_dim}
use Rattle.start_lists.proofs.dims.dim_dummies.Given as goal

abbrev pub invariant-loop-name : goal.invariant-loop-name
invariant-loop-name l = l.names.items ++ filter (is_some_dim l.unit) (drop l.name-index l.dummies) ≡ dim_dummies l.unit
