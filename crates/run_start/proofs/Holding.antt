-- Room and cells of names.
use Rattle.std.proofs.Common.{◌≡◌, ℕ, zero, suc, ◌+◌, ◌<◌, ◌≤◌, Bool, true, false, cond, ◌&&◌, Option, Some, None, List, [], ◌∷◌, ◌++◌, length, map, drop, get_or, refl, sym, ap, ◌∙◌, arith}
use Rattle.std.specs.Prelude.{unwrap_or}
use Rattle.std.specs.List.{list_all}
use Rattle.formula.specs.Atoms.{same_bytes}
use Rattle.formula.specs.declared.value.Cell.{Cell}
use Rattle.fort_syntax.specs.declared.name.Name.{Name}
use Rattle.fort_notes.specs.declared.cases.Given.{Given}
use Rattle.fort_model.specs.Storage.{Storage}
use Rattle.fort_model.specs.declared.bounds.Bounds.{Bounds}
use Rattle.run_rooms.specs.Roomy.{Roomy}
use Rattle.run_start.specs.Filled.{filled}
use Rattle.run_start.specs.Starts.{all_in_range, cells_or, given_to, is_given_in_range, is_in_range}

-- ---- lengths

pub both_long : {X : Type 0} (xs ys : List X) → length (xs ++ ys) ≡ length xs + length ys
both_long [] ys = let e : length ys ≡ 0 + length ys = omega arith in e
both_long (x ∷ xs) ys = let r : length (xs ++ ys) ≡ length xs + length ys = both_long xs ys in omega arith

pub map_long : {X Y : Type 0} (f : X → Y) (xs : List X) → length (map f xs) ≡ length xs
map_long f [] = refl
map_long f (x ∷ xs) = ap suc (map_long f xs)

some_left : {X : Type 0} (cs : List X) (i : ℕ) → i < length cs → 1 ≤ length (drop i cs)
some_left [] i h = absurd (omega arith)
some_left (c ∷ cs) zero h = omega arith
some_left (c ∷ cs) (suc i) h = some_left cs i (omega arith)

-- where lists are the same, and there is room for one of them, there is room for the beginning of the other
joined_fits : {X : Type 0} (xs rest ys all : List X) (room : ℕ) → xs ++ rest ≡ ys ++ all → length ys + length all ≤ room → length xs + length rest ≤ room
joined_fits xs rest ys all room e h =
    let a : length (xs ++ rest) ≡ length xs + length rest = both_long xs rest in
    let b : length (ys ++ all) ≡ length ys + length all = both_long ys all in
    let c : length (xs ++ rest) ≡ length (ys ++ all) = ap length e in
    omega arith

pub next_fits : {X : Type 0} (xs ys cs : List X) (i room old : ℕ) → xs ++ drop i cs ≡ ys ++ cs → room ≡ old → length ys + length cs ≤ old → i < length cs → length xs < room
next_fits xs ys cs i room old e same h lt =
    let f : length xs + length (drop i cs) ≤ old = joined_fits xs (drop i cs) ys cs old e h in
    let g : 1 ≤ length (drop i cs) = some_left cs i lt in
    omega arith

pub next_mapped : {X Y : Type 0} (f : Y → X) (xs ys : List X) (cs : List Y) (i room old : ℕ) → xs ++ map f (drop i cs) ≡ ys ++ map f cs → room ≡ old → length ys + length cs ≤ old → i < length cs
    → length xs < room
next_mapped f xs ys cs i room old e same h lt =
    let a : length (map f cs) ≡ length cs = map_long f cs in
    let b : length (map f (drop i cs)) ≡ length (drop i cs) = map_long f (drop i cs) in
    let k : length xs + length (map f (drop i cs)) ≤ old = joined_fits xs (map f (drop i cs)) ys (map f cs) old e (let q : length ys + length (map f cs) ≤ old = omega arith in q) in
    let g : 1 ≤ length (drop i cs) = some_left cs i lt in
    omega arith

-- ---- what is given is in range

range_by : (b : Bounds) (t : Bool) (g : Given) (o : Option Given) → list_all (is_in_range b) g.cells ≡ true → is_given_in_range b o ≡ true → is_given_in_range b (cond t (Some g) o) ≡ true
range_by b true g o h rest = h
range_by b false g o h rest = rest

pub both_true : (a b : Bool) → (a && b) ≡ true → (a ≡ true) × (b ≡ true)
both_true true b h = (refl, h)
both_true false b h = absurd (cc)

pub given_in_range : (b : Bounds) (gs : List Given) (x : Name) → all_in_range b gs ≡ true → is_given_in_range b (given_to gs x) ≡ true
given_in_range b [] x h = refl
given_in_range b (g ∷ gs) x h =
    let s = both_true (list_all (is_in_range b) g.cells) (all_in_range b gs) h in range_by b (same_bytes g.name x) g (given_to gs x) s.0 (given_in_range b gs x s.1)

-- ---- one name after another

none_left : {X : Type 0} (xs : List X) (i : ℕ) → length xs ≤ i → drop i xs ≡ []
none_left [] zero h = refl
none_left [] (suc i) h = refl
none_left (x ∷ xs) zero h = absurd (omega arith)
none_left (x ∷ xs) (suc i) h = none_left xs i (omega arith)

no_sizes : (g : List Given) (xs : List Name) → filled g xs [] ≡ []
no_sizes g [] = refl
no_sizes g (x ∷ xs) = refl

no_more : {X : Type 0} (xs : List X) → xs ++ [] ≡ xs
no_more [] = refl
no_more (x ∷ xs) = ap (λ ys. x ∷ ys) (no_more xs)

-- it is filled where no size is left
pub filled_all : (g : List Given) (xs : List Name) (os : List (Option ℕ)) (k : ℕ) (ps all : Storage) → ps ++ filled g (drop k xs) (drop k os) ≡ all → length os ≤ k → ps ≡ all
filled_all g xs os k ps all e h =
    sym (no_more ps) ∙ (ap (λ (cs : Storage). ps ++ cs) (sym (ap (filled g (drop k xs)) (none_left os k h) ∙ no_sizes g (drop k xs))) ∙ e)

pub roomy_is : (p : Roomy Cell) (items : List Cell) (room : ℕ) → p.items ≡ items → p.room ≡ room → p ≡ record { items = items; room = room }
roomy_is p items room e f = ap (λ (cs : List Cell). record { items = cs; room = p.room }) e ∙ ap (λ (n : ℕ). record { items = items; room = n }) f

parted : (g : List Given) (xs : List Name) (os : List (Option ℕ)) (k : ℕ) (x : Name) (o : Option ℕ) → k < length xs → k < length os → x ≡ get_or xs k x → o ≡ get_or os k None
    → (rest : Storage) × (filled g (drop k xs) (drop k os) ≡ cells_or (unwrap_or o 0) (given_to g x) ++ rest)
parted g [] os k x o a b p q = absurd (omega arith)
parted g (y ∷ xs) [] k x o a b p q = absurd (omega arith)
parted g (y ∷ xs) (r ∷ os) zero x o a b p q = (filled g xs os, ap (λ (n : Option ℕ). cells_or (unwrap_or n 0) (given_to g y) ++ filled g xs os) (sym q) ∙ ap (λ (z : Name). cells_or (unwrap_or o 0) (given_to g z) ++ filled g xs os) (sym p))
parted g (y ∷ xs) (r ∷ os) (suc k) x o a b p q = parted g xs os k x o (omega arith) (omega arith) p q

pub one_fits : (g : List Given) (xs : List Name) (os : List (Option ℕ)) (k room old : ℕ) (ps qs : Storage) (x : Name) (o : Option ℕ) → k < length xs → k < length os → x ≡ get_or xs k x → o ≡ get_or os k None
    → ps ++ filled g (drop k xs) (drop k os) ≡ qs ++ filled g xs os → room ≡ old → length qs + length (filled g xs os) ≤ old → length ps + length (cells_or (unwrap_or o 0) (given_to g x)) ≤ room
one_fits g xs os k room old ps qs x o a b p q e same h =
    let r = parted g xs os k x o a b p q in
    let c : length ps + length (filled g (drop k xs) (drop k os)) ≤ old = joined_fits ps (filled g (drop k xs) (drop k os)) qs (filled g xs os) old e h in
    let d : length (filled g (drop k xs) (drop k os)) ≡ length (cells_or (unwrap_or o 0) (given_to g x) ++ r.0) = ap length r.1 in
    let f : length (cells_or (unwrap_or o 0) (given_to g x) ++ r.0) ≡ length (cells_or (unwrap_or o 0) (given_to g x)) + length r.0 = both_long (cells_or (unwrap_or o 0) (given_to g x)) r.0 in
    omega arith
