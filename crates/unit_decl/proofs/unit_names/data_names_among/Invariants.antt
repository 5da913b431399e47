use Rattle.std.proofs.Common.{◌≡◌, ◌++◌, drop}
use Rattle.unit_decl.specs.UnitParts.{data_names_in}
use Rattle.unit_decl.proofs.unit_names.data_names_among.Given as goal

abbrev pub invariant-loop-name : goal.invariant-loop-name
invariant-loop-name l = (l.all.items ++ data_names_in l.roles l.own (drop l.name-index l.names)) ≡ data_names_in l.roles l.own l.names
