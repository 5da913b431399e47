use Rattle.std.proofs.Common.{◌≡◌, ◌<◌, ◌+◌, true, Some, length, sym, ◌∙◌, arith}
use Rattle.std.specs.Prelude.{◌&&◌}
use Rattle.formula.specs.Atoms.{same_bytes}
use Rattle.fort_syntax.specs.Names.{first_unit}
use Rattle.unit_tables.specs.Tables.{is_of_kind}
use Rattle.unit_tables.proofs.Firsts.{unit_below}
use Rattle.unit_tables.proofs.unit_numbers.UnitNumbers.function.Goals as goal

pub prove-unreachable-requires : goal.prove-unreachable-requires
prove-unreachable-requires c =
    let found : first_unit (λ u. is_of_kind true u && same_bytes u.name c.args.name.now) c.args.units.now 0 ≡ Some c.in-Some.number =
    sym (c.requires.0 c.args.name.now) ∙ sym (c.in-Some.ensures) in
    let below : c.in-Some.number < 0 + length c.args.units.now = unit_below (λ u. is_of_kind true u && same_bytes u.name c.args.name.now) c.args.units.now 0 c.in-Some.number found in
    let high = c.if-prove.true in
    grind arith
