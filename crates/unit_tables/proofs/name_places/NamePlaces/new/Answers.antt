use Rattle.std.proofs.Common.{◌≡◌, ◌-◌, suc, cond, Some, ap, sym, ◌∙◌, arith}
use Rattle.formula.specs.Atoms.{same_bytes}
use Rattle.fort_syntax.specs.declared.unit.DataName.{DataName}
use Rattle.unit_tables.specs.Tables.{told}
use Rattle.unit_tables.proofs.Firsts.{name_step}
use Rattle.unit_tables.proofs.name_places.NamePlaces.new.Goals as goal

pub loop-left-preserved : goal.loop-left-preserved
loop-left-preserved c =
    let next : c.loop-left.left ≡ suc (c.loop-left.left - 1) = omega arith in
    name_step c.as_slice-names.result.now c.loop-left.table c.put.new.self
    (c.loop-left.left - 1) c.loop-left.left c.index-names-left.result next c.loop-left.invariant.0 c.index-names-left.is
    c.loop-left.invariant.1
    (λ x. c.in_ok-put.ensures x ∙ ap (λ (d : DataName). cond (same_bytes d.name x) (Some (c.loop-left.left - 1)) (told c.loop-left.table x)) (sym c.index-names-left.is))
