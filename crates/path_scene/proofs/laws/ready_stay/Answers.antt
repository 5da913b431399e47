use Rattle.path_scene.proofs.Staying.{ready_stays}
use Rattle.path_scene.proofs.laws.ready_stay.Goals as goal

pub returns : goal.returns
returns c old new scene p g h = ready_stays old new g scene p h
