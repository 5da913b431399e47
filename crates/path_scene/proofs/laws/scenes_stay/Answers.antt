use Rattle.path_scene.proofs.Staying.{scene_stays}
use Rattle.path_scene.proofs.laws.scenes_stay.Goals as goal

pub returns : goal.returns
returns c old new scene p g h = scene_stays old new g scene p h
