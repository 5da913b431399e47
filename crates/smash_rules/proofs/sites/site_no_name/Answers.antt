use Rattle.std.proofs.Common.{sym, ◌∙◌, arith}
use Rattle.fort_model.specs.CallRules.{passes_no_name}
use Rattle.smash_laws.specs.Ordered.{with_table}
use Rattle.smash_rules.proofs.OfCalls.{nobody, no_name_told}
use Rattle.smash_rules.proofs.sites.site_no_name.Goals as goal

pub returns-in-Some : goal.returns-in-Some
returns-in-Some c =
    c.passes_no_name.ensures
    ∙ no_name_told c.args.deck.now.units.now c.args.rows.now c.args.site.now c.in-Some.number c.book.result.now.unit.now c.index-rows-number.result (sym c.in-Some.ensures.value) c.book.ensures
    (omega (arith, c.in-Some.ensures.within)) c.index-rows-number.is c.as_slice-dummies.result.now c.actuals.result.now c.as_slice-dummies.ensures c.actuals.ensures

pub returns-in-None : goal.returns-in-None
returns-in-None c = nobody c.args.deck.now.units.now c.args.rows.now c.args.site.now (passes_no_name (with_table c.args.deck.now.units.now c.args.rows.now) c.args.site.now) (sym c.in-None.ensures.value)
