use Rattle.formula.specs.Worth.{used}
use Rattle.formula.proofs.Replacing.{put_worth}
use Rattle.formula.proofs.substitution_law.substitution_is_assignment.Goals as goal

pub returns-clause-by_uses : goal.returns-clause-by_uses
returns-clause-by_uses c = put_worth

pub returns-clause-by_definitions : goal.returns-clause-by_definitions
returns-clause-by_definitions c fs = put_worth (used fs)
