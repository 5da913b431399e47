use Rattle.formula.specs.Reading.{all_built_ins}
use Rattle.formula.proofs.Names.{found_by_name}
use Rattle.formula.proofs.function.BuiltIn.named.Goals as goal

pub returns-clause-found : goal.returns-clause-found
returns-clause-found c = found_by_name all_built_ins c.args.bytes.now c.named_among.result c.named_among.ensures
