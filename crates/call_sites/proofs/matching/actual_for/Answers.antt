use Rattle.std.proofs.Common.{ap, sym, ◌∙◌}
use Rattle.call_sites.specs.Books.{expr_at}
use Rattle.call_sites.proofs.Matched.{actual_found}
use Rattle.call_sites.proofs.matching.actual_for.Goals as goal

pub returns-in-Some : goal.returns-in-Some
returns-in-Some c =
    c.expr_at.ensures
    ∙ ap (expr_at c.args.actuals.now) (sym c.in-Some.is ∙ c.dummy.ensures)
    ∙ actual_found c.args.callee.now.unit.now.dummies c.args.actuals.now c.args.name.now

pub returns-in-None : goal.returns-in-None
returns-in-None c =
    ap (expr_at c.args.actuals.now) (sym c.in-None.is ∙ c.dummy.ensures)
    ∙ actual_found c.args.callee.now.unit.now.dummies c.args.actuals.now c.args.name.now
