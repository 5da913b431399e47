use Rattle.formula.proofs.ReadSpelled.{read_spelled}
use Rattle.formula.proofs.SpelledRead.{spelled_read}
use Rattle.formula.proofs.grammar.reading_is_the_grammar.Goals as goal

pub returns : goal.returns
returns c = λ named limit text t n. (read_spelled named limit text t n, spelled_read named limit text t n)
