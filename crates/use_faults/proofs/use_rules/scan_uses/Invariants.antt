use Rattle.std.proofs.Common.{◌≡◌, drop, true}
use Rattle.use_faults.specs.UseScans.{nothing_used, use_scan}
use Rattle.use_faults.specs.Roles.{use_facts_by}
use Rattle.use_faults.proofs.use_rules.scan_uses.Given as goal

abbrev pub invariant-loop-line : goal.invariant-loop-line
invariant-loop-line l =
    use_scan l.dialect (use_facts_by l.roles l.own) l.first l.used (drop l.line-index l.unit)
    ≡ use_scan l.dialect (use_facts_by l.roles l.own) true nothing_used l.unit
