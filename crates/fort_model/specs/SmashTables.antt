-- The table of smashed names.
use Rattle.std.specs.Prelude.{◌≡◌, ℕ, suc, List, [], ◌∷◌, map}
use Rattle.std.specs.List.{filter}
use Rattle.fort_syntax.specs.declared.name.Name.{Name}
use Rattle.fort_syntax.specs.declared.unit.Unit.{Unit as Routine}
use Rattle.fort_model.specs.Program.{Program, is_smashed}
use Rattle.fort_model.specs.Smashes.{HoldsSmashed}

-- the names of a unit of number i that it smashes, by the table, in the order of its data names
abbrev pub smashed_data : Program → ℕ → Routine → List Name
smashed_data p i u = filter (is_smashed p i) (map (λ d. d.name) u.names)

-- lists of names, one for each unit from the number i on, are these
abbrev pub are_smashed_data : Program → ℕ → List Routine → List (List Name) → Type 0
are_smashed_data p i [] [] = Unit {0}
are_smashed_data p i [] (row ∷ rows) = ⊥
are_smashed_data p i (u ∷ us) [] = ⊥
are_smashed_data p i (u ∷ us) (row ∷ rows) = (row ≡ smashed_data p i u) × are_smashed_data p (suc i) us rows

-- The table of a program: for each unit the names that it smashes, and no others, each once, in the order of its data names.
pub record IsSmashTable (p : Program) : Type 0 where
  pub holds : HoldsSmashed p
  pub rows : are_smashed_data p 0 p.units p.smashes
