use Rattle.std.proofs.Common.{arith}
use Rattle.smash_table.specs.Callers.{unit_of, program_of}
use Rattle.smash_table.specs.Smashed.{site_names}
use Rattle.smash_table.proofs.Steps.{given_more}
use Rattle.smash_table.proofs.sites.add_sites.Goals as goal

pub loop-site-preserved : goal.loop-site-preserved
loop-site-preserved c = record {
  names = given_more (site_names (program_of c.args.caller.now) (unit_of c.args.caller.now)) c.loop-site.found.set c.add_site.new.found.set _ c.args.sites.now c.loop-site.site-index c.site-item.result
      (omega arith) c.site-item.is c.in-Ok.ensures.names c.loop-site.invariant.names;
  seen = c.in-Ok.ensures.seen;
}
