-- Notes whose terms are of a pool.
use Rattle.std.specs.Prelude.{ℕ, Bool, true, false, nat_lt, cond, List, [], ◌∷◌}
use Rattle.formula.specs.declared.node.TermId.{TermId}
use Rattle.fort_notes.specs.declared.notes.AssertSpec.{AssertSpec}
use Rattle.fort_notes.specs.declared.notes.UnitSpec.{UnitSpec}

-- terms are among the first n of a pool
abbrev pub ids_inside : ℕ → List TermId → Bool
ids_inside n [] = true
ids_inside n (id ∷ ids) = cond (nat_lt id.place n) (ids_inside n ids) false

abbrev pub asserts_inside : ℕ → List AssertSpec → Bool
asserts_inside n [] = true
asserts_inside n (a ∷ rest) = cond (ids_inside n a.terms) (cond (ids_inside n a.clock) (asserts_inside n rest) false) false

abbrev pub notes_inside : ℕ → UnitSpec → Bool
notes_inside n s = cond (ids_inside n s.input) (cond (ids_inside n s.output) (asserts_inside n s.asserts) false) false

-- the terms of all notes are
abbrev pub are_inside : ℕ → List UnitSpec → Bool
are_inside n [] = true
are_inside n (s ∷ specs) = cond (notes_inside n s) (are_inside n specs) false
