use Rattle.deck_laws.proofs.UnitFaultsFirst.{first_unit_fault_is_least as law}
use Rattle.deck_laws.proofs.unit_faults.first_unit_fault_is_least.Goals as goal

pub returns : goal.returns
returns c = law
