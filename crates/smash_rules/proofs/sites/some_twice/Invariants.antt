use Rattle.std.proofs.Common.{◌≡◌, drop}
use Rattle.std.specs.List.{list_any}
use Rattle.smash_laws.specs.Ordered.{with_table}
use Rattle.smash_rules.specs.Judged.{is_twice}
use Rattle.smash_rules.proofs.sites.some_twice.Given as goal

abbrev pub invariant-loop-site : goal.invariant-loop-site
invariant-loop-site l =
    list_any (is_twice (with_table l.deck.units.now l.rows)) (drop l.site-index l.sites) ≡ list_any (is_twice (with_table l.deck.units.now l.rows)) l.sites
