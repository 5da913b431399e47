-- Calls on a walk.
use Rattle.std.specs.Prelude.{◌≡◌, ℕ, Option, List, ◌++◌}
use Rattle.formula.specs.Tree.{Tree}
use Rattle.formula.specs.declared.node.Node.{Node}
use Rattle.fort_model.specs.Program.{Program}
use Rattle.fort_model.specs.Seen.{Named, See, ◌>>=◌, next_answer, see}
use Rattle.fort_model.specs.WalkCalls.{Sight, Operand, call, call_unit}
use Rattle.fort_syntax.specs.declared.unit.Unit.{Unit as Routine}
use Rattle.path_scene.specs.Scenes.{IsReady}
use Rattle.walk_setting.specs.declared.setting.Setting.{Setting}
use Rattle.walk_setting.specs.Settings.{seen_from}
use Rattle.walk_state.specs.Moments.{Moment}

-- behind a part that answers what names stand for, and the value of a function
abbrev pub called_at : Moment → See Tree (Named Tree × Tree) → Moment
called_at m part =
    let seen = part m.answers in
    record { now = seen.value.0; past = m.past; events = m.events ++ seen.events; answers = seen.rest }

-- a call was done: names, events and answers are those of the part, and the value is what the function gives
pub record IsCalled (before : Moment) (part : See Tree (Named Tree × Tree)) (after : Moment) (value : Tree) : Type 0 where
  pub is : after ≡ called_at before part
  pub gives : value ≡ (part before.answers).value.1

-- in each program that is told by a pool and by where the walk is
abbrev pub CallsIn : List Node → Setting → Moment → (Sight Tree → See Tree (Named Tree × Tree)) → Moment → Tree → Type 0
CallsIn pool s before part after value = (p : Program) → IsReady pool s.scene.now p
    → IsCalled before (part (seen_from s p)) after value

-- a call of the unit g, which has the number i: it has the next answer
abbrev pub unit_call : Sight Tree → ℕ → ℕ → Routine → Named Tree → List (Operand Tree) → See Tree (Named Tree × Tree)
unit_call w card i g now xs = next_answer >>= call_unit w card i g now xs

-- the value of a call
abbrev pub value_of_call : Sight Tree → ℕ → Option ℕ → Named Tree → List (Operand Tree) → See Tree Tree
value_of_call w card callee now xs = call w card callee now xs >>= λ c. see (c.1)
