use Rattle.std.proofs.Common.{◌-◌, length}
use Rattle.stmt_parse.proofs.texts.+write_more_items.Given as goal

abbrev pub decreases-write_more_items : goal.decreases-write_more_items
decreases-write_more_items l = length l.items.now - l.i
