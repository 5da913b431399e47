use Rattle.std.proofs.Common.{sym, subst}
use Rattle.run_shapes.specs.Coded.{IsUnitCodeOf}
use Rattle.run_units.specs.Parts.{HasParts}
use Rattle.run_units.proofs.unit.Deck.code.Goals as goal

pub returns : goal.returns
returns c =
    let u = c.args.unit.now in
    let units = c.args.self.now.units.now in
    let common = c.args.self.now.commons.now.names.now in
    let parts = c.in_ok-parts.parts in
    subst (IsUnitCodeOf units common u) (sym c.joined.ensures)
    (c.parts_are_code.ensures c.requires.well.0 u units c.in_ok-names.names.items common parts c.requires.well.1 c.requires.shared c.in_ok-names.ensures
    (subst (λ xs. HasParts u units xs common parts) c.as_slice.ensures.value c.in_ok-parts.ensures))
