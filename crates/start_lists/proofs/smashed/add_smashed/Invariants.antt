use Rattle.std.proofs.Common.{◌≡◌, ◌++◌, drop}
use Rattle.std.specs.List.{filter}
use Rattle.formula.specs.Atoms.{is_among}
use Rattle.start_lists.proofs.smashed.add_smashed.Given as goal

abbrev pub invariant-loop-name : goal.invariant-loop-name
invariant-loop-name l = l.all.items ++ filter (λ x. is_among x l.smashed) (drop l.name-index l.names) ≡ l.fn.all.items ++ filter (λ x. is_among x l.smashed) l.names
