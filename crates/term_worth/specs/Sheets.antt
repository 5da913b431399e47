-- Assignments as lists of symbols and their values.
use Rattle.std.specs.Prelude.{◌≡◌, Bool, false, List, [], ◌∷◌, ℕ}
use Rattle.std.specs.List.{list_any}
use Rattle.formula.specs.declared.value.Value.{Value}
use Rattle.formula.specs.Atoms.{same_bytes}

-- a symbol has a value
abbrev pub is_set : List (List ℕ × Value) → List ℕ → Bool
is_set es s = list_any (λ e. same_bytes e.0 s) es

-- no symbol has two values
abbrev pub AreDistinct : List (List ℕ × Value) → Type 0
AreDistinct [] = Unit {0}
AreDistinct (e ∷ rest) = (is_set rest e.0 ≡ false) × AreDistinct rest
