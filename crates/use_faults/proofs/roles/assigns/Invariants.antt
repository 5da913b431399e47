use Rattle.std.proofs.Common.{◌≡◌, drop}
use Rattle.fort_syntax.specs.UseRules.{assigns}
use Rattle.use_faults.proofs.roles.assigns.Given as goal

abbrev pub invariant-loop-seen : goal.invariant-loop-seen
invariant-loop-seen l = assigns l.own (drop l.seen-index l.uses) ≡ assigns l.own l.uses
