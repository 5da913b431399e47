use Rattle.smash_laws.proofs.TableHolds.{tables_by_order as law}
use Rattle.smash_laws.proofs.tables.tables_by_order.Goals as goal

pub returns : goal.returns
returns c = law
