use Rattle.note_laws.proofs.PointsIncrease.{assert_points_increase as law}
use Rattle.note_laws.proofs.order.assert_points_increase.Goals as goal

pub returns : goal.returns
returns c = law
