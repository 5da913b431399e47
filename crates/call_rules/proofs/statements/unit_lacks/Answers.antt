use Rattle.std.proofs.Common.{◌≡◌, false, refl, sym, subst, ◌∙◌}
use Rattle.std.specs.Prelude.{Some}
use Rattle.fort_model.specs.CallRules.{lacks_block}
use Rattle.call_rules.specs.Cleared.{AreCleared, unit_lacks}
use Rattle.call_rules.proofs.ClearedUnits.{cleared_with}
use Rattle.call_rules.proofs.ScannedUnits.{at_unit}
use Rattle.call_rules.proofs.statements.unit_lacks.Goals as goal

pub returns-then-lacks_block-clause-lacks : goal.returns-then-lacks_block-clause-lacks
returns-then-lacks_block-clause-lacks c =
    sym c.if-lacks_block.true
    ∙ c.lacks_block.ensures c.args.number
    ∙ sym (at_unit c.args.deck.now.units.now (Some c.args.number) c.args.number c.book.result.now.unit.now (lacks_block c.args.caller.now.unit.now) refl c.book.ensures)

pub returns-clause-lacks : goal.returns-clause-lacks
returns-clause-lacks c =
    sym c.if-lacks_block.false
    ∙ c.lacks_block.ensures c.args.number
    ∙ sym (at_unit c.args.deck.now.units.now (Some c.args.number) c.args.number c.book.result.now.unit.now (lacks_block c.args.caller.now.unit.now) refl c.book.ensures)

pub returns-clause-cleared : goal.returns-clause-cleared
returns-clause-cleared c =
    let units = c.args.deck.now.units.now in
    let u = c.args.caller.now.unit.now in
    let lacks : false ≡ unit_lacks units u c.args.number =
    sym c.if-lacks_block.false
    ∙ c.lacks_block.ensures c.args.number
    ∙ sym (at_unit units (Some c.args.number) c.args.number c.book.result.now.unit.now (lacks_block u) refl c.book.ensures) in
    subst (AreCleared units u) (sym c.in-Ok.ensures) (cleared_with units u c.args.number c.args.cleared.now c.requires.cleared (sym lacks))
