use Rattle.std.proofs.Common.{◌≡◌, drop}
use Rattle.call_sites.specs.Books.{has_blank}
use Rattle.call_sites.proofs.telling.has_blank.Given as goal

abbrev pub invariant-loop-group : goal.invariant-loop-group
invariant-loop-group l = has_blank (drop l.group-index l.groups) ≡ has_blank l.groups
