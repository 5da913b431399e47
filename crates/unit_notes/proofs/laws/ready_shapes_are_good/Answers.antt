use Rattle.unit_notes.proofs.Shapes.{ready_shapes_are_good as law}
use Rattle.unit_notes.proofs.laws.ready_shapes_are_good.Goals as goal

pub returns : goal.returns
returns c = law
