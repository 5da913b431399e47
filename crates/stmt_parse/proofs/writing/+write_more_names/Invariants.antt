use Rattle.std.proofs.Common.{◌-◌, length}
use Rattle.stmt_parse.proofs.writing.+write_more_names.Given as goal

abbrev pub decreases-write_more_names : goal.decreases-write_more_names
decreases-write_more_names l = length l.names.now - l.i
