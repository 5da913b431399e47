-- A scene that is ready for some program stays so while the pool grows.
use Rattle.std.proofs.Common.{List}
use Rattle.formula.specs.declared.node.Node.{Node}
use Rattle.formula.specs.Pool.{Grows}
use Rattle.fort_model.specs.Program.{Program}
use Rattle.path_scene.specs.Scenes.{IsReady}
use Rattle.path_scene.specs.declared.scene.Scene.{Scene}
use Rattle.path_scene.proofs.Staying.{ready_stays}

pub ready_on : (old new : List Node) (scene : Scene) → Grows old new → ((p : Program) × IsReady old scene p) → (p : Program) × IsReady new scene p
ready_on old new scene g r = (r.0, ready_stays old new g scene r.0 r.1)
