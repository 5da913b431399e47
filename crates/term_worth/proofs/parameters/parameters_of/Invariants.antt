use Rattle.std.proofs.Common.{◌≡◌, take}
use Rattle.term_worth.proofs.parameters.parameters_of.Given as goal

-- the names so far are in the table
abbrev pub invariant-loop-place : goal.invariant-loop-place
invariant-loop-place l = l.table ≡ take l.place l.names
