use Rattle.formula.proofs.Added.{added_sound}
use Rattle.try_lines.proofs.lines.verdict_of.Goals as goal

pub worth-requires-clause-bodies : goal.worth-requires-clause-bodies
worth-requires-clause-bodies c = (added_sound c.args.pool.now c.args.definitions.now c.requires.added).0
