use Rattle.std.proofs.Common.{◌≡◌, drop}
use Rattle.std.specs.Prelude.{flat_map}
use Rattle.name_tables.specs.Sets.{with_names}
use Rattle.smash_table.specs.Callers.{unit_of, program_of}
use Rattle.smash_table.specs.Seen.{AreSeen}
use Rattle.smash_table.specs.Smashed.{site_names}
use Rattle.smash_table.proofs.sites.add_sites.Given as goal

abbrev pub invariant-loop-site : goal.invariant-loop-site
invariant-loop-site l = record {
  names : with_names l.found.set (flat_map (site_names (program_of l.caller) (unit_of l.caller)) (drop l.site-index l.sites))
      ≡ with_names l.initial.found.set (flat_map (site_names (program_of l.caller) (unit_of l.caller)) l.sites);
  seen : AreSeen (program_of l.caller) (unit_of l.caller) l.found.seen l.found.set;
}
