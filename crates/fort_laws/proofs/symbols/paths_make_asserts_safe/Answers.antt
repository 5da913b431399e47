use Rattle.fort_laws.proofs.FewSymbols.{paths_make_asserts_safe as law}
use Rattle.fort_laws.proofs.symbols.paths_make_asserts_safe.Goals as goal

pub returns : goal.returns
returns c = law
