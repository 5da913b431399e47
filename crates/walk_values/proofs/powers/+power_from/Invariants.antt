use Rattle.walk_values.proofs.powers.+power_from.Given as goal

abbrev pub decreases-power_from : goal.decreases-power_from
decreases-power_from l = l.more
