-- Laws of the conditions of what a walk met.
use Rattle.std.specs.Prelude.{ℕ, ◌≡◌, List, [], length, map}
use Rattle.std.specs.List.{All}
use Rattle.formula.specs.declared.node.Node.{Node}
use Rattle.event_text.specs.Conditions.{IsConditionIn, condition_tree}
use Rattle.fort_model.specs.Conditions.{conditions_from}
use Rattle.fort_syntax.specs.declared.name.Name.{Name}
use Rattle.met_conditions.specs.Numbered.{conditions_at}
use Rattle.walk_state.specs.Moments.{AreMet, events_in}
use Rattle.walk_state.specs.declared.walk.Met.{Met}

-- as trees, they are those of the events
abbrev pub ConditionsAreOfEvents : Type 0
ConditionsAreOfEvents =
    (nodes : List Node) (unit : Name) (path : ℕ) (ms : List Met)
    → map (condition_tree nodes) (conditions_at unit path 0 [] ms) ≡ conditions_from unit path 1 [] (events_in nodes ms)

-- they are of the pool that what was met is of
abbrev pub ConditionsAreIn : Type 0
ConditionsAreIn = (nodes : List Node) (unit : Name) (path : ℕ) (ms : List Met) → AreMet (length nodes) ms
    → All (IsConditionIn nodes) (conditions_at unit path 0 [] ms)
