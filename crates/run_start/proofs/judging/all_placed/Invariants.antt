use Rattle.std.proofs.Common.{◌≡◌, ◌&&◌, drop}
use Rattle.run_start.specs.Decks.{all_coded}
use Rattle.run_start.proofs.judging.all_placed.Given as goal

abbrev pub invariant-loop-site : goal.invariant-loop-site
invariant-loop-site l = (l.all && all_coded l.callers.units.now l.callers.codes.now (drop l.site-index l.sites)) ≡ all_coded l.callers.units.now l.callers.codes.now l.sites
