use Rattle.std.proofs.Common.{◌≡◌, ◌++◌, drop}
use Rattle.fort_syntax.specs.Units.{names_of_items}
use Rattle.fort_syntax.specs.Scopes.{kept, is_given_dims}
use Rattle.stmt_names.proofs.items.dimensioned.Given as goal

abbrev pub invariant-loop-item : goal.invariant-loop-item
invariant-loop-item l = (l.all.items ++ names_of_items (kept (λ x. is_given_dims x.dims) (drop l.item-index l.items))) ≡ names_of_items (kept (λ x. is_given_dims x.dims) l.items)
