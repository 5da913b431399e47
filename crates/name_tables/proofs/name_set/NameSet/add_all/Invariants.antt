use Rattle.std.proofs.Common.{◌≡◌, drop}
use Rattle.std.specs.Prelude.{◌||◌}
use Rattle.name_tables.specs.Sets.{with_names, repeats}
use Rattle.name_tables.proofs.name_set.NameSet.add_all.Given as goal

abbrev pub invariant-loop-name : goal.invariant-loop-name
invariant-loop-name l = record {
  after : with_names l.self (drop l.name-index l.names) ≡ with_names l.initial.self l.names;
  again : (l.again || repeats l.self (drop l.name-index l.names)) ≡ repeats l.initial.self l.names;
}
