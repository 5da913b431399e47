use Rattle.std.proofs.Common.{◌≡◌, ◌++◌, drop}
use Rattle.std.specs.List.{filter}
use Rattle.formula.specs.Atoms.{is_among}
use Rattle.start_lists.specs.Smashed.{names_of_kind}
use Rattle.start_lists.proofs.smashed.add_of_kind.Given as goal

abbrev pub invariant-loop-data : goal.invariant-loop-data
invariant-loop-data l =
    l.all.items ++ filter (λ x. is_among x l.smashed) (names_of_kind l.value (drop l.data-index l.names))
    ≡ l.fn.all.items ++ filter (λ x. is_among x l.smashed) (names_of_kind l.value l.names)
