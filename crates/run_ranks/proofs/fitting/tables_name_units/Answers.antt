use Rattle.run_ranks.proofs.Tabled.{of_units}
use Rattle.run_ranks.proofs.fitting.tables_name_units.Goals as goal

pub returns : goal.returns
returns c = of_units
