use Rattle.std.proofs.Common.{◌≡◌, [], drop, map}
use Rattle.std.specs.List.{filter}
use Rattle.formula.specs.Atoms.{is_among}
use Rattle.name_tables.specs.Sets.{with_names}
use Rattle.smash_table.proofs.rows.kept.Given as goal

abbrev pub invariant-loop-data : goal.invariant-loop-data
invariant-loop-data l =
    with_names l.row (filter (λ x. is_among x l.smashed) (map (λ d. d.name) (drop l.data-index l.names))) ≡ with_names [] (filter (λ x. is_among x l.smashed) (map (λ d. d.name) l.names))
