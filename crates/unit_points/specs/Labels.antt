-- What a table of labels says.
use Rattle.std.specs.Prelude.{◌≡◌, ℕ, suc, ◌==◌, cond, List, [], ◌∷◌, Option, Some, None}
use Rattle.std.specs.Option.{unwrap_or}
use Rattle.std.specs.Ordering.{nat_cmp}
use Rattle.std.specs.BTreeMap.{get}
use Rattle.fort_syntax.specs.declared.unit.Line.{Line}
use Rattle.fort_model.specs.Flow.{target}
use Rattle.unit_points.specs.declared.labels.Labels.{Labels}

-- the point of a label by a table; behind all statements where it has none
abbrev pub point_of : Labels → ℕ → ℕ
point_of labels label = unwrap_or (get nat_cmp labels.places label) labels.count

-- a table has the labels of statements, of which the first stands at the point 0
abbrev pub AreLabelsOf : List Line → Labels → Type 0
AreLabelsOf lines labels = (label : ℕ) → point_of labels label ≡ target lines label

-- the place of the first statement with a label, where they are counted from some number
abbrev pub place_from : ℕ → List Line → ℕ → Option ℕ
place_from i [] label = None
place_from i (line ∷ lines) label = cond (line.label == label) (Some i) (place_from (suc i) lines label)
