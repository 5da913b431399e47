-- What is known of the units of a program that is ready for its flow.
use Rattle.std.specs.Prelude.{◌≡◌, ℕ, List, Some, slice_get}
use Rattle.formula.specs.declared.node.Node.{Node}
use Rattle.fort_syntax.specs.WellFormed.{IsWellFormedUnit}
use Rattle.fort_syntax.specs.declared.unit.Unit.{Unit as Routine}
use Rattle.fort_model.specs.Program.{Program}
use Rattle.flow_tests.specs.Tests.{IsFlowing}
use Rattle.path_scene.specs.Scenes.{IsReady}
use Rattle.path_scene.specs.declared.scene.Scene.{Scene}

-- each unit is well formed
abbrev pub ReadyUnitsStand : Type 0
ReadyUnitsStand = (pool : List Node) (scene : Scene) (p : Program) (i : ℕ) (u : Routine) → IsReady pool scene p
    → slice_get p.units i ≡ Some u → IsWellFormedUnit p.dialect u

-- each unit has a flow
abbrev pub ReadyUnitsFlow : Type 0
ReadyUnitsFlow = (pool : List Node) (scene : Scene) (p : Program) (i : ℕ) (u : Routine) → IsReady pool scene p
    → slice_get p.units i ≡ Some u → IsFlowing u
