use Rattle.std.proofs.Common.{◌≡◌, drop}
use Rattle.std.specs.List.{list_any}
use Rattle.formula.specs.Atoms.{is_among}
use Rattle.decl_faults.proofs.name_rules.meets.Given as goal

abbrev pub invariant-loop-name : goal.invariant-loop-name
invariant-loop-name l = list_any (λ x. is_among x l.set) (drop l.name-index l.names) ≡ list_any (λ x. is_among x l.set) l.names
