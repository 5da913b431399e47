-- The slot of a name of a unit.
use Rattle.std.proofs.Common.{◌≡◌, ◌<◌, ℕ, zero, suc, true, List, [], ◌∷◌, length, refl, ap, ◌∙◌, rules, arith}
use Rattle.std.specs.Prelude.{Option, Some, None, get_or, slice_get, unwrap_or}
use Rattle.formula.specs.Atoms.{is_among}
use Rattle.fort_syntax.specs.declared.name.Name.{Name}
use Rattle.name_tables.specs.Tables.{all_told, first_of}
use Rattle.name_tables.proofs.Told.{all_told_of}
use Rattle.run_slots.specs.Slotted.{slotted}
use Rattle.run_slots.proofs.Found.{IsAt, stands}
use Rattle.run_coding.specs.Pushed.{slot_in}

-- what a table finds
pub slot_found : (names : List Name) (table : List (Name × ℕ)) (x : Name) → table ≡ all_told [] (slotted names 0)
    → unwrap_or (first_of table x) 0 ≡ slot_in names x
slot_found names table x h = ap (λ t. unwrap_or (first_of t x) 0) h ∙ ap (λ o. unwrap_or o 0) (all_told_of [] (slotted names 0) x)

got : (xs : List Name) (k : ℕ) → k < length xs → slice_get xs k ≡ Some (get_or xs k [])
got [] k h = search rules
got (x ∷ xs) zero h = refl
got (x ∷ xs) (suc k) h = got xs k (omega arith)

there : (xs : List Name) (x : Name) (o : Option ℕ) → IsAt xs x o → get_or xs (unwrap_or o 0) [] ≡ x
there xs x None h = search rules
there xs x (Some k) h = h.1

got_there : (xs : List Name) (x : Name) (o : Option ℕ) → IsAt xs x o → slice_get xs (unwrap_or o 0) ≡ Some x
got_there xs x None h = search rules
got_there xs x (Some k) h = got xs k h.0 ∙ ap Some h.1

-- a name that is there stands at its slot
pub named : (xs : List Name) (x : Name) → is_among x xs ≡ true → get_or xs (slot_in xs x) [] ≡ x
named xs x h = there xs x (first_of (slotted xs 0) x) (stands xs x h)

pub named_slot : (xs : List Name) (x : Name) → is_among x xs ≡ true → slice_get xs (slot_in xs x) ≡ Some x
named_slot xs x h = got_there xs x (first_of (slotted xs 0) x) (stands xs x h)
