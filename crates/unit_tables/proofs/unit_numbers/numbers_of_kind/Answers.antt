use Rattle.std.proofs.Common.{◌≡◌, ◌-◌, suc, arith}
use Rattle.std.specs.Prelude.{◌&&◌}
use Rattle.formula.specs.Atoms.{same_bytes}
use Rattle.unit_tables.specs.Tables.{is_of_kind}
use Rattle.unit_tables.proofs.Firsts.{unit_step}
use Rattle.unit_tables.proofs.unit_numbers.numbers_of_kind.Goals as goal

pub loop-left-preserved : goal.loop-left-preserved
loop-left-preserved c =
    let next : c.loop-left.left ≡ suc (c.loop-left.left - 1) = omega arith in
    unit_step (λ x u. is_of_kind c.args.of_functions u && same_bytes u.name x) c.args.units.now c.loop-left.table c.put_unit.new.self
    (c.loop-left.left - 1) c.loop-left.left c.index-units-left.result next c.loop-left.invariant.0 c.index-units-left.is
    c.loop-left.invariant.1 (c.in_ok-put_unit.ensures)
