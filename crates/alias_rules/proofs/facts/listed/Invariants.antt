use Rattle.std.proofs.Common.{◌≡◌, take}
use Rattle.alias_rules.proofs.facts.listed.Given as goal

abbrev pub invariant-loop-name : goal.invariant-loop-name
invariant-loop-name l = l.all.items ≡ take l.name-index l.names
