use Rattle.smash_laws.proofs.TableHolds.{one_smash_table as law}
use Rattle.smash_laws.proofs.tables.one_smash_table.Goals as goal

pub returns : goal.returns
returns c = law
