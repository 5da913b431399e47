use Rattle.formula.proofs.ReadableTerms.{read_readable}
use Rattle.formula.proofs.laws.read_terms_are_readable.Goals as goal

pub returns : goal.returns
returns c = read_readable
