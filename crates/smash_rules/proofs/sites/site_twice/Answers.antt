use Rattle.std.proofs.Common.{sym, ◌∙◌, arith}
use Rattle.fort_model.specs.CallRules.{passes_twice}
use Rattle.smash_laws.specs.Ordered.{with_table}
use Rattle.smash_rules.proofs.OfCalls.{nobody, twice_told}
use Rattle.smash_rules.proofs.sites.site_twice.Goals as goal

pub returns-in_ok-found-in-Some : goal.returns-in_ok-found-in-Some
returns-in_ok-found-in-Some c =
    c.in_ok-found-in-Some.ensures
    ∙ twice_told c.args.deck.now.units.now c.args.rows.now c.args.site.now c.in-Some.number c.book.result.now.unit.now c.index-rows-number.result (sym c.in-Some.ensures.value) c.book.ensures
    (omega (arith, c.in-Some.ensures.within)) c.index-rows-number.is c.as_slice-dummies.result.now c.actuals.result.now c.as_slice-dummies.ensures c.actuals.ensures

pub returns-in-None : goal.returns-in-None
returns-in-None c = nobody c.args.deck.now.units.now c.args.rows.now c.args.site.now (passes_twice (with_table c.args.deck.now.units.now c.args.rows.now) c.args.site.now) (sym c.in-None.ensures.value)
