use Rattle.std.proofs.Common.{◌-◌, length}
use Rattle.stmt_parse.proofs.texts.+write_more_arrays.Given as goal

abbrev pub decreases-write_more_arrays : goal.decreases-write_more_arrays
decreases-write_more_arrays l = length l.items.now - l.i
