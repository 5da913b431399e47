use Rattle.std.proofs.Common.{◌≡◌, true, rules, sym, ◌∙◌}
use Rattle.std.specs.Prelude.{None}
use Rattle.use_faults.specs.Roles.{use_facts_by}
use Rattle.use_faults.specs.UseScans.{nothing_used, use_scan}
use Rattle.use_faults.proofs.UseSteps.{scan_some, scan_none}
use Rattle.use_faults.proofs.use_rules.scan_uses.Goals as goal

pub returns-in-Some : goal.returns-in-Some
returns-in-Some c =
    let f = use_facts_by c.args.roles.now c.args.own.now in
    scan_some c.args.dialect f c.loop-line.first c.loop-line.used c.args.unit.now c.loop-line.line-index c.line-item.result (search rules) (search rules)
    (use_scan c.args.dialect f true nothing_used c.args.unit.now) c.loop-line.invariant c.in-Some.rule (sym c.in-Some.is ∙ c.in-Ok.ensures.rule)

pub loop-line-preserved : goal.loop-line-preserved
loop-line-preserved c =
    let f = use_facts_by c.args.roles.now c.args.own.now in
    let none : c.in-Ok.rule ≡ None = search rules in
    scan_none c.args.dialect f c.loop-line.first c.loop-line.used c.args.unit.now c.loop-line.line-index c.line-item.result (search rules) (search rules)
    (use_scan c.args.dialect f true nothing_used c.args.unit.now) c.loop-line.invariant c.use_rule.new.used (sym none ∙ c.in-Ok.ensures.rule) c.in-Ok.ensures.used
