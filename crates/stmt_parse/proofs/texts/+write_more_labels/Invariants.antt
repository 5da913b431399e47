use Rattle.std.proofs.Common.{◌-◌, length}
use Rattle.stmt_parse.proofs.texts.+write_more_labels.Given as goal

abbrev pub decreases-write_more_labels : goal.decreases-write_more_labels
decreases-write_more_labels l = length l.labels.now - l.i
