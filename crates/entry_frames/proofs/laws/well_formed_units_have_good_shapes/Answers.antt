use Rattle.entry_frames.proofs.GoodShapes.{well_formed_units_have_good_shapes as law}
use Rattle.entry_frames.proofs.laws.well_formed_units_have_good_shapes.Goals as goal

pub returns : goal.returns
returns c = law
