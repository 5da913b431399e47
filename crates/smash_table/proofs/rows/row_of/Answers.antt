use Rattle.std.proofs.Common.{[], List, map, ap, ◌∙◌}
use Rattle.std.specs.List.{filter}
use Rattle.formula.specs.Atoms.{is_among}
use Rattle.fort_syntax.specs.declared.unit.DataName.{DataName}
use Rattle.name_tables.specs.Sets.{with_names}
use Rattle.smash_table.proofs.Told.{row_told}
use Rattle.smash_table.proofs.rows.row_of.Goals as goal

pub returns : goal.returns
returns c =
    row_told c.requires.well.0 c.args.deck.now.units.now c.args.rows.now c.args.number c.book-book.result.now.unit.now c.in_ok-smashed.smashed c.in_ok-row.row c.requires.well.1 c.book-book.ensures
    c.in_ok-smashed.ensures
    (c.in_ok-row.ensures ∙ ap (λ (names : List DataName). with_names [] (filter (λ x. is_among x c.in_ok-smashed.smashed) (map (λ d. d.name) names))) c.as_slice.ensures)
