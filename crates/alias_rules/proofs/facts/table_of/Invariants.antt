use Rattle.std.proofs.Common.{◌≡◌, take}
use Rattle.alias_rules.proofs.facts.table_of.Given as goal

abbrev pub invariant-loop-row : goal.invariant-loop-row
invariant-loop-row l = l.table.items ≡ take l.row-index l.rows
