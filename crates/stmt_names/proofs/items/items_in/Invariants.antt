use Rattle.std.proofs.Common.{◌≡◌, ◌++◌, drop}
use Rattle.std.specs.Prelude.{flat_map}
use Rattle.stmt_names.proofs.items.items_in.Given as goal

abbrev pub invariant-loop-group : goal.invariant-loop-group
invariant-loop-group l = (l.all.items ++ flat_map (λ g. g.items) (drop l.group-index l.groups)) ≡ flat_map (λ g. g.items) l.groups
