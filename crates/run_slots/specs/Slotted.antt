-- Names with their slots.
use Rattle.std.specs.Prelude.{ℕ, ◌+◌, List, [], ◌∷◌}
use Rattle.fort_syntax.specs.declared.name.Name.{Name}

-- names with their slots, the first of which is k
abbrev pub slotted : List Name → ℕ → List (Name × ℕ)
slotted [] k = []
slotted (x ∷ xs) k = (x, k) ∷ slotted xs (k + 1)
