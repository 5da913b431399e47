-- What parts of a walk do in a program that is told by where the walk is.
use Rattle.std.specs.Prelude.{◌≡◌, List, ◌++◌}
use Rattle.formula.specs.declared.node.Node.{Node}
use Rattle.formula.specs.Tree.{Tree}
use Rattle.fort_model.specs.Conditions.{sight}
use Rattle.fort_model.specs.Program.{Program}
use Rattle.fort_model.specs.Seen.{Named, See}
use Rattle.fort_model.specs.Senses.{of_terms}
use Rattle.fort_model.specs.WalkCalls.{Sight}
use Rattle.path_scene.specs.Scenes.{IsReady}
use Rattle.walk_setting.specs.declared.setting.Setting.{Setting}
use Rattle.walk_state.specs.Moments.{Did, Moment}

-- what a walk sees of a program, in the sense of terms
abbrev pub seen_from : Setting → Program → Sight Tree
seen_from s p = sight of_terms p s.number s.book.now.unit.now

-- a part of a walk was done, and came to a value, in each program that is told by a pool and by where the walk is
abbrev pub DoesIn : {A : Type 0} → List Node → Setting → Moment → (Sight Tree → See Tree A) → Moment → A → Type 0
DoesIn pool s before part after value = (p : Program) → IsReady pool s.scene.now p → Did before (part (seen_from s p)) after value

-- behind a part that answers what names stand for, they stand for that
abbrev pub performed_at : Moment → See Tree (Named Tree) → Moment
performed_at m part =
    let seen = part m.answers in
    record { now = seen.value; past = m.past; events = m.events ++ seen.events; answers = seen.rest }

-- a part of a walk that answers what names stand for was done
abbrev pub PerformsIn : List Node → Setting → Moment → (Sight Tree → See Tree (Named Tree)) → Moment → Type 0
PerformsIn pool s before part after = (p : Program) → IsReady pool s.scene.now p
    → after ≡ performed_at before (part (seen_from s p))
