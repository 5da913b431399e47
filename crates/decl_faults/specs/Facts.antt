-- What the tables of a unit tell of it.
use Rattle.std.specs.Prelude.{List, map}
use Rattle.formula.specs.Atoms.{is_among}
use Rattle.fort_syntax.specs.NameRules.{Member, member_of}
use Rattle.fort_syntax.specs.declared.name.Name.{Name}
use Rattle.decl_faults.specs.declared.name_rules.Known.{Known}
use Rattle.decl_faults.specs.NameScans.{Facts}
use Rattle.decl_faults.specs.Commons.{listed}
use Rattle.unit_scope.specs.Scoping.{scope_by}

abbrev pub facts_by : Known → Name → Facts
facts_by known own = record {
  own = own;
  scope = scope_by known.scope;
  is_dummy = λ x. is_among x known.dummies;
  is_bad_block = λ b. is_among b known.bad_blocks;
}

-- the members of a block
abbrev pub members_by : Known → Name → List Member
members_by known b = map (member_of (scope_by known.scope)) (listed known.commons b)
