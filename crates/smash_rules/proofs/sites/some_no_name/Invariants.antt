use Rattle.std.proofs.Common.{◌≡◌, drop}
use Rattle.std.specs.List.{list_any}
use Rattle.smash_laws.specs.Ordered.{with_table}
use Rattle.smash_rules.specs.Judged.{is_no_name}
use Rattle.smash_rules.proofs.sites.some_no_name.Given as goal

abbrev pub invariant-loop-site : goal.invariant-loop-site
invariant-loop-site l =
    list_any (is_no_name (with_table l.deck.units.now l.rows)) (drop l.site-index l.sites) ≡ list_any (is_no_name (with_table l.deck.units.now l.rows)) l.sites
