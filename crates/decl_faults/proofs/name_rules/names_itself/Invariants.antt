use Rattle.std.proofs.Common.{◌≡◌, drop}
use Rattle.formula.specs.Atoms.{is_among}
use Rattle.decl_faults.proofs.name_rules.names_itself.Given as goal

abbrev pub invariant-loop-name : goal.invariant-loop-name
invariant-loop-name l = is_among l.own (drop l.name-index l.names) ≡ is_among l.own l.names
