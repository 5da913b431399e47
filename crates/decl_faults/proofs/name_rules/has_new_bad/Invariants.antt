use Rattle.std.proofs.Common.{◌≡◌, drop}
use Rattle.decl_faults.specs.NameScans.{has_new_bad}
use Rattle.std.specs.Prelude.{map}
use Rattle.formula.specs.Atoms.{is_among}
use Rattle.fort_syntax.specs.Units.{name_of_block}
use Rattle.decl_faults.proofs.name_rules.has_new_bad.Given as goal

abbrev pub invariant-loop-group : goal.invariant-loop-group
invariant-loop-group l = has_new_bad (λ b. is_among b l.bad) l.blocks (map (λ g. name_of_block g.block) (drop l.group-index l.groups)) ≡ has_new_bad (λ b. is_among b l.bad) l.blocks (map (λ g. name_of_block g.block) l.groups)
