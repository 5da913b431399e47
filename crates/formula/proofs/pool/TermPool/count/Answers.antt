use Rattle.std.proofs.Common.{[], subst}
use Rattle.formula.specs.Pool.{HasOneIdEach, IsPool}
use Rattle.formula.proofs.OneIdEach.{one_id_each}
use Rattle.formula.proofs.pool.TermPool.count.Goals as goal

pub returns-clause-one_id_each : goal.returns-clause-one_id_each
returns-clause-one_id_each c = subst HasOneIdEach c.self.view_is (one_id_each c.self.inside.nodes.keys c.self.invariant.pool c.len.ensures.unique)

pub returns-clause-pool : goal.returns-clause-pool
returns-clause-pool c = subst (IsPool []) c.self.view_is c.self.invariant.pool
