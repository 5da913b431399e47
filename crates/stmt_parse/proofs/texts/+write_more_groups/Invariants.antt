use Rattle.std.proofs.Common.{◌-◌, length}
use Rattle.stmt_parse.proofs.texts.+write_more_groups.Given as goal

abbrev pub decreases-write_more_groups : goal.decreases-write_more_groups
decreases-write_more_groups l = length l.groups.now - l.i
