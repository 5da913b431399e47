use Rattle.std.proofs.Common.{◌≡◌, drop}
use Rattle.std.specs.List.{list_any}
use Rattle.run_state.specs.Settings.{is_site}
use Rattle.run_calls.proofs.manners.is_listed.Given as goal

abbrev pub invariant-loop-site : goal.invariant-loop-site
invariant-loop-site l = list_any (is_site l.unit l.call l.place) (drop l.site-index l.sites) ≡ list_any (is_site l.unit l.call l.place) l.sites
