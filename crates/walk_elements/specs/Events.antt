-- Several checks, and the greater or the lesser of numbers.
use Rattle.std.specs.Prelude.{ℕ, Bool, cond, List, [], ◌∷◌, ◌++◌}
use Rattle.formula.specs.Tree.{Tree}
use Rattle.formula.specs.declared.function.BuiltIn.{BuiltIn}
use Rattle.formula.specs.declared.function.BuiltIn.TheVariants.{Maximum, Minimum}
use Rattle.fort_syntax.specs.declared.condition.Kind.TheVariants.{SubscriptCheck}
use Rattle.fort_syntax.specs.declared.stmt.Dim.{Dim}
use Rattle.fort_model.specs.Events.{Event, Check}
use Rattle.fort_model.specs.Seen.{Named}
use Rattle.fort_model.specs.Senses.{lies_from_to, natural, of_terms}
use Rattle.fort_model.specs.WalkPlaces.{dim}
use Rattle.walk_state.specs.Moments.{Moment}

-- some events are met
abbrev pub with_events : Moment → List (Event Tree) → Moment
with_events m es = record { now = m.now; past = m.past; events = m.events ++ es; answers = m.answers }

-- the check of a subscript by its dimension
abbrev pub subscript_check : ℕ → Named Tree → Tree → Dim → Event Tree
subscript_check card now i d = Check SubscriptCheck card (lies_from_to of_terms (natural of_terms 1) (dim of_terms now d) i)

-- the function that gives the greater or the lesser of two numbers
abbrev pub greatest_or_least : Bool → BuiltIn
greatest_or_least is_greatest = cond is_greatest Maximum Minimum
