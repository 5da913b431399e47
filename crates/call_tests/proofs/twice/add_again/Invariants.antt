use Rattle.std.proofs.Common.{◌≡◌, drop}
use Rattle.std.specs.List.{filter}
use Rattle.formula.specs.Atoms.{is_among}
use Rattle.name_tables.specs.Sets.{with_names}
use Rattle.call_tests.proofs.twice.add_again.Given as goal

abbrev pub invariant-loop-name : goal.invariant-loop-name
invariant-loop-name l =
    with_names l.again (filter (λ x. is_among x l.before) (drop l.name-index l.names)) ≡ with_names l.initial.again (filter (λ x. is_among x l.before) l.names)
