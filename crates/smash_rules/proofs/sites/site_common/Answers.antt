use Rattle.std.proofs.Common.{sym, ◌∙◌, arith}
use Rattle.fort_model.specs.CallRules.{passes_common}
use Rattle.smash_laws.specs.Ordered.{with_table}
use Rattle.smash_rules.proofs.OfCalls.{nobody, common_at_call}
use Rattle.smash_rules.proofs.sites.site_common.Goals as goal

pub returns-in_ok-found-in-Some : goal.returns-in_ok-found-in-Some
returns-in_ok-found-in-Some c =
    c.in_ok-found-in-Some.ensures
    ∙ common_at_call c.args.deck.now.units.now c.args.rows.now c.args.site.now c.in-Some.number c.book-callee.result.now.unit.now c.index-rows-number.result (sym c.in-Some.ensures.value) c.book-callee.ensures
    (omega (arith, c.in-Some.ensures.within)) c.index-rows-number.is c.requires.well.0 c.args.caller.now.unit.now c.requires.well.1 c.actuals.result.now c.actuals.ensures

pub returns-in-None : goal.returns-in-None
returns-in-None c =
    nobody c.args.deck.now.units.now c.args.rows.now c.args.site.now (passes_common (with_table c.args.deck.now.units.now c.args.rows.now) c.args.caller.now.unit.now c.args.site.now) (sym c.in-None.ensures.value)
