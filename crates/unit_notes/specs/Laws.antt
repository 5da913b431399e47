-- Laws of the units of a program that is ready.
use Rattle.std.specs.Prelude.{ℕ, ◌≡◌, true, List, [], Some, slice_get, IfSome}
use Rattle.formula.specs.Tree.{Tree}
use Rattle.formula.specs.declared.node.Node.{Node}
use Rattle.fort_model.specs.Conditions.{sight}
use Rattle.fort_model.specs.Fitting.{FitsUnit}
use Rattle.fort_model.specs.Program.{Program, notes_of}
use Rattle.fort_model.specs.Senses.{of_terms}
use Rattle.fort_model.specs.WalkCalls.{Operand, hits}
use Rattle.fort_syntax.specs.Names.{data_name, is_function}
use Rattle.fort_syntax.specs.declared.name.Name.{Name}
use Rattle.fort_syntax.specs.declared.unit.Unit.{Unit as Routine}
use Rattle.path_scene.specs.Scenes.{IsReady}
use Rattle.path_scene.specs.declared.scene.Scene.{Scene}
use Rattle.walk_places.specs.Shapes.{IsGoodShape}

-- the notes of each unit fit it
abbrev pub ReadyNotesFit : Type 0
ReadyNotesFit = (pool : List Node) (scene : Scene) (p : Program) (i : ℕ) (u : Routine) → IsReady pool scene p
    → slice_get p.units i ≡ Some u → FitsUnit u (notes_of p i)

-- each data name of a unit has a good shape
abbrev pub ReadyShapesAreGood : Type 0
ReadyShapesAreGood =
    (pool : List Node) (scene : Scene) (p : Program) (i : ℕ) (u : Routine) → IsReady pool scene p → slice_get p.units i ≡ Some u
    → (x : Name) → IfSome (data_name u x) (λ d. IsGoodShape d.dims)

-- a call of a FUNCTION smashes no name of its caller, whatever the actuals
abbrev pub ReadyFunctionsKeep : Type 0
ReadyFunctionsKeep =
    (pool : List Node) (scene : Scene) (p : Program) (i j : ℕ) (u g : Routine) → IsReady pool scene p
    → slice_get p.units j ≡ Some g → is_function g ≡ true
    → (xs : List (Operand Tree)) → hits (sight of_terms p i u) j g xs ≡ []
