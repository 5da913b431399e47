-- The laws of scenes.
use Rattle.std.specs.Prelude.{List}
use Rattle.formula.specs.declared.node.Node.{Node}
use Rattle.formula.specs.Pool.{Grows}
use Rattle.fort_model.specs.Program.{Program}
use Rattle.path_scene.specs.Scenes.{IsScene, IsReady}
use Rattle.path_scene.specs.declared.scene.Scene.{Scene}

-- a scene is that of the same program where its pool grew
abbrev pub ScenesStay : Type 0
ScenesStay = (old new : List Node) (scene : Scene) (p : Program) → Grows old new → IsScene old scene p → IsScene new scene p

-- and it stays one that is ready
abbrev pub ReadyStay : Type 0
ReadyStay = (old new : List Node) (scene : Scene) (p : Program) → Grows old new → IsReady old scene p → IsReady new scene p
