use Rattle.std.proofs.Common.{◌≡◌, drop}
use Rattle.std.specs.Prelude.{not}
use Rattle.std.specs.List.{list_any}
use Rattle.fort_model.specs.CallRules.{declares}
use Rattle.call_sites.proofs.matching.lacks_block.Given as goal

abbrev pub invariant-loop-group : goal.invariant-loop-group
invariant-loop-group l = list_any (λ group. not (declares l.caller.unit.now group.block)) (drop l.group-index l.groups) ≡ list_any (λ group. not (declares l.caller.unit.now group.block)) l.groups
