use Rattle.std.proofs.Common.{sym}
use Rattle.vcg_top.proofs.Numbers.{number_parts}
use Rattle.vcg_top.proofs.words.made_command.Goals as goal

pub spelled-requires-clause-digits : goal.spelled-requires-clause-digits
spelled-requires-clause-digits c = (number_parts c.args.word.now (sym c.if-not-is_number.ensures)).0

pub spelled-requires-clause-short : goal.spelled-requires-clause-short
spelled-requires-clause-short c = (number_parts c.args.word.now (sym c.if-not-is_number.ensures)).1
