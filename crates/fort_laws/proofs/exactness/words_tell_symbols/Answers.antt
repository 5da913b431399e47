use Rattle.fort_laws.proofs.SpelledSymbols.{words_tell_symbols as law}
use Rattle.fort_laws.proofs.exactness.words_tell_symbols.Goals as goal

pub returns : goal.returns
returns c = law
