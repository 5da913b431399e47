use Rattle.run_held.proofs.sums.+power_on.Given as goal

abbrev pub decreases-power_on : goal.decreases-power_on
decreases-power_on l = l.more
