use Rattle.fort_laws.proofs.FewSymbols.{walks_read_few_symbols as law}
use Rattle.fort_laws.proofs.symbols.walks_read_few_symbols.Goals as goal

pub returns : goal.returns
returns c = law
