-- The parts of a call on a walk.
use Rattle.std.specs.Prelude.{ℕ, List, map}
use Rattle.call_frames.specs.Frames.{Enters}
use Rattle.call_frames.specs.declared.frame.Frame.{Frame}
use Rattle.formula.specs.Tree.{Tree}
use Rattle.formula.specs.declared.node.Node.{Node}
use Rattle.fort_model.specs.Events.{checks, takes}
use Rattle.fort_model.specs.Program.{notes_of}
use Rattle.fort_model.specs.Seen.{Named, meet, ◌>>◌}
use Rattle.fort_model.specs.Senses.{undefined}
use Rattle.fort_model.specs.WalkCalls.{Sight, Operand, Bare, Part, Computed, notes_told, result_facts, seen_by, stands_for}
use Rattle.fort_model.specs.WalkPlaces.{sorts}
use Rattle.fort_syntax.specs.declared.condition.Kind.TheVariants.{InputCheck}
use Rattle.fort_syntax.specs.declared.name.Name.{Name}
use Rattle.fort_syntax.specs.declared.unit.Unit.{Unit as Routine}
use Rattle.walk_state.specs.Moments.{Did, Moment}

-- what the names of a called unit stand for at its entry
abbrev pub before_call : Sight Tree → Routine → List (Operand Tree) → Named Tree → Named Tree
before_call w g xs now = seen_by w g (map stands_for xs) now (undefined w.sense)

-- what an actual stands for after a call
abbrev pub after_call : Named Tree → Operand Tree → Tree
after_call after (Bare x v) = after x
after_call after (Part v) = v
after_call after (Computed v) = v

-- the names of a called unit stand for the actuals, and its INPUT was checked
pub record Entered (w : Sight Tree) (card i : ℕ) (g : Routine) (xs : List (Operand Tree)) (old : Moment)
    (pool : List Node) (new : Moment) (frame : Frame) : Type 0 where
  pub frame_is : Enters pool frame g (before_call w g xs old.now)
  pub did : Did old (meet (checks InputCheck card (notes_told w (before_call w g xs old.now) (before_call w g xs old.now) (notes_of w.program i).input))) new tt

-- the types of some names, and that of the value of a function, are facts
abbrev pub TakesFacts : Sight Tree → Routine → List Name → Named Tree → Moment → Moment → Type 0
TakesFacts w g smashed answer old new =
    Did old (meet (takes (sorts w.sense w.unit old.now smashed)) >> meet (takes (result_facts w g.sort (answer g.name)))) new tt

-- so are the terms of OUTPUT, by what the unit's names stood for at its entry, and do now
abbrev pub TakesOutput : Sight Tree → ℕ → Routine → List (Operand Tree) → Named Tree → Tree → Moment → Moment → Type 0
TakesOutput w i g xs before value old new =
    Did old (meet (takes (notes_told w before (seen_by w g (map (after_call old.now) xs) old.now value)
    (notes_of w.program i).output))) new tt
