use Rattle.fort_laws.proofs.FewSymbols.{paths_make_entries_safe as law}
use Rattle.fort_laws.proofs.symbols.paths_make_entries_safe.Goals as goal

pub returns : goal.returns
returns c = law
