use Rattle.std.proofs.Common.{◌≡◌, ◌++◌, drop}
use Rattle.fort_model.specs.CallFacts.{sites_of_lines}
use Rattle.call_sites.proofs.sites.sites_of_unit.Given as goal

abbrev pub invariant-loop-line : goal.invariant-loop-line
invariant-loop-line l = (l.all.items ++ sites_of_lines l.book.unit.now (drop l.line-index l.lines)) ≡ sites_of_lines l.book.unit.now l.lines
