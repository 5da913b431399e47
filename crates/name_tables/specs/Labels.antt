-- Sets of labels, as lists of them in order, each once.
use Rattle.std.specs.Prelude.{ℕ, nat_eq, Bool, cond, List, [], ◌∷◌, ◌++◌}
use Rattle.std.specs.List.{list_any}

abbrev pub is_known : ℕ → List ℕ → Bool
is_known label labels = list_any (nat_eq label) labels

-- a set with one more label
abbrev pub with_label : List ℕ → ℕ → List ℕ
with_label labels label = cond (is_known label labels) labels (labels ++ label ∷ [])
