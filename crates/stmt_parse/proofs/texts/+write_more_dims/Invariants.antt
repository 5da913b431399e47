use Rattle.std.proofs.Common.{◌-◌, length}
use Rattle.stmt_parse.proofs.texts.+write_more_dims.Given as goal

abbrev pub decreases-write_more_dims : goal.decreases-write_more_dims
decreases-write_more_dims l = length l.dims.now - l.i
