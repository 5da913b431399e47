use Rattle.fort_laws.proofs.FewSymbols.{safe_paths_end as law}
use Rattle.fort_laws.proofs.symbols.safe_paths_end.Goals as goal

pub returns : goal.returns
returns c = law
