use Rattle.std.proofs.Common.{◌≡◌, drop}
use Rattle.std.specs.Prelude.{flat_map}
use Rattle.std.specs.List.{list_any}
use Rattle.smash_table.specs.Smashed.{site_names}
use Rattle.do_smashes.specs.Clear.{AreClear}
use Rattle.do_smashes.specs.Guards.{is_kept}
use Rattle.do_smashes.specs.Hits.{unit_of, program_of}
use Rattle.do_smashes.proofs.calls.hits_sites.Given as goal

abbrev pub invariant-loop-site : goal.invariant-loop-site
invariant-loop-site l = record {
  left : list_any (is_kept l.kept.guards.now l.kept.at) (flat_map (site_names (program_of l.caller) (unit_of l.caller)) (drop l.site-index l.sites))
      ≡ list_any (is_kept l.kept.guards.now l.kept.at) (flat_map (site_names (program_of l.caller) (unit_of l.caller)) l.sites);
  clear : AreClear (program_of l.caller) (unit_of l.caller) l.kept.guards.now l.kept.at l.clear;
}
