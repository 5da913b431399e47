-- A name of a table has the slot at which it stands.
use Rattle.std.proofs.Common.{◌≡◌, ◌<◌, ℕ, suc, ◌+◌, Bool, true, false, cond, List, [], ◌∷◌, length, refl, sym, ap, subst, ◌∙◌}
use Rattle.std.proofs.Common.{rules, arith}
use Rattle.std.specs.Prelude.{◌||◌, Option, Some, None, get_or}
use Rattle.formula.specs.Atoms.{same_bytes, is_among}
use Rattle.fort_syntax.specs.declared.name.Name.{Name}
use Rattle.name_tables.specs.Tables.{all_told, first_of}
use Rattle.name_tables.proofs.Told.{same_names, all_told_of}
use Rattle.run_slots.specs.Slotted.{slotted}

abbrev next : Option ℕ → Option ℕ
next None = None
next (Some k) = Some (suc k)

shifted : (b : Bool) (k : ℕ) (o p : Option ℕ) → o ≡ next p → cond b (Some (k + 1)) o ≡ next (cond b (Some k) p)
shifted true k o p h = ap Some (omega arith)
shifted false k o p h = h

shift : (xs : List Name) (k : ℕ) (x : Name) → first_of (slotted xs (k + 1)) x ≡ next (first_of (slotted xs k) x)
shift [] k x = refl
shift (y ∷ ys) k x = shifted (same_bytes x y) k (first_of (slotted ys (k + 1 + 1)) x) (first_of (slotted ys (k + 1)) x) (shift ys (k + 1) x)

-- a slot that a name stands at
abbrev pub IsAt : List Name → Name → Option ℕ → Type 0
IsAt xs x None = true ≡ false
IsAt xs x (Some k) = (k < length xs) × (get_or xs k [] ≡ x)

behind : (y : Name) (ys : List Name) (x : Name) (o : Option ℕ) → IsAt ys x o → IsAt (y ∷ ys) x (next o)
behind y ys x None h = h
behind y ys x (Some k) h = (let a = h.0 in omega arith, h.1)

pub stands : (xs : List Name) (x : Name) → is_among x xs ≡ true → IsAt xs x (first_of (slotted xs 0) x)
stands [] x h = search rules
stands (y ∷ ys) x h = by (same_bytes x y) refl (stands ys x)
  where
    later : IsAt ys x (first_of (slotted ys 0) x) → IsAt (y ∷ ys) x (first_of (slotted ys 1) x)
    later at = subst (IsAt (y ∷ ys) x) (sym (shift ys 0 x)) (behind y ys x (first_of (slotted ys 0) x) at)

    by : (b : Bool) → same_bytes x y ≡ b → (is_among x ys ≡ true → IsAt ys x (first_of (slotted ys 0) x))
        → IsAt (y ∷ ys) x (cond b (Some 0) (first_of (slotted ys 1) x))
    by true e rest = (omega arith, sym (same_names x y e))
    by false e rest = later (rest (sym (ap (λ b. b || is_among x ys) e) ∙ h))

pub found : (xs : List Name) (x : Name) → is_among x xs ≡ true → IsAt xs x (first_of (all_told [] (slotted xs 0)) x)
found xs x h = subst (IsAt xs x) (sym (all_told_of [] (slotted xs 0) x)) (stands xs x h)
