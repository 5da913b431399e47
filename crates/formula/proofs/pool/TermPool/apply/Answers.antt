use Rattle.std.proofs.Common.{sym, subst}
use Rattle.formula.specs.Pool.{AllBelow}
use Rattle.formula.proofs.Growth.{length-trees}
use Rattle.formula.proofs.pool.TermPool.apply.Goals as goal

pub make-requires : goal.make-requires
make-requires c = (subst (λ n. AllBelow n c.args.args) (sym (length-trees c.args.self.now)) c.requires.below, c.requires.takes)
