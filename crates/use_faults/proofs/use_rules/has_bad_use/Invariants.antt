use Rattle.std.proofs.Common.{◌≡◌, drop}
use Rattle.use_faults.specs.UseScans.{has_bad_use}
use Rattle.use_faults.specs.Roles.{use_facts_by}
use Rattle.use_faults.proofs.use_rules.has_bad_use.Given as goal

abbrev pub invariant-loop-seen : goal.invariant-loop-seen
invariant-loop-seen l = has_bad_use (use_facts_by l.roles l.own) l.used (drop l.seen-index l.uses) ≡ has_bad_use (use_facts_by l.roles l.own) l.used l.uses
