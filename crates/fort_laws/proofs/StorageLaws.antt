-- Cells of storage after writes, and of the storage of a call.
use Rattle.std.proofs.Common.{◌≡◌, ℕ, zero, suc, ◌+◌, ◌-◌, ◌<◌, ◌≤◌, ◌⊎◌, inl, inr, Bool, List, [], ◌∷◌, ◌++◌, length, Some, slice_get, refl, sym, ap, ◌∙◌, subst, arith, length-append, length-set, get_or-append-add, get_or-set_same, get_or-set_other}
use Rattle.std.proofs.lemmas.List.{get_or_append_left}
use Rattle.formula.specs.declared.value.Cell.{Cell}
use Rattle.formula.specs.declared.value.Cell.TheVariants.{Undefined}
use Rattle.fort_model.specs.Fits.{IsIn}
use Rattle.fort_model.specs.Storage.{Storage, Extent, load, store, contents, write}
use Rattle.fort_model.specs.Passing.{Taken, Passed, ByReference, ByCopy, ByValue, passed_by, passed, seats, new_cells, written_back}
use Rattle.step_laws.proofs.Tied.{at_most_or}

-- ---- contents and writes

pub length-contents : (st : Storage) (i n : ℕ) → length (contents st i n) ≡ n
length-contents st i zero = refl
length-contents st i (suc n) = ap suc (length-contents st (suc i) n)

pub load-contents : (st : Storage) (i n k : ℕ) → k < n → load (contents st i n) k ≡ load st (i + k)
load-contents st i zero k lt = absurd (omega arith)
load-contents st i (suc n) zero lt = ap (load st) (omega arith)
load-contents st i (suc n) (suc k) lt = load-contents st (suc i) n k (omega arith) ∙ ap (load st) (omega arith)

pub length-write : (cs : List Cell) (i : ℕ) (st : Storage) → length (write cs i st) ≡ length st
length-write [] i st = refl
length-write (c ∷ cs) i st = length-write cs (suc i) (store st i c) ∙ length-set st i c

pub load-write_before : (cs : List Cell) (i k : ℕ) (st : Storage) → k < i → load (write cs i st) k ≡ load st k
load-write_before [] i k st lt = refl
load-write_before (c ∷ cs) i k st lt = load-write_before cs (suc i) k (store st i c) (omega arith) ∙ get_or-set_other st i k c Undefined (λ e. omega arith)

pub load-write_past : (cs : List Cell) (i k : ℕ) (st : Storage) → i + length cs ≤ k → load (write cs i st) k ≡ load st k
load-write_past [] i k st le = refl
load-write_past (c ∷ cs) i k st le = load-write_past cs (suc i) k (store st i c) (omega arith) ∙ get_or-set_other st i k c Undefined (λ e. omega arith)

pub load-write_at : (cs : List Cell) (i k : ℕ) (st : Storage) → k < length cs → i + k < length st → load (write cs i st) (i + k) ≡ load cs k
load-write_at [] i k st lt within = absurd (omega arith)
load-write_at (c ∷ cs) i zero st lt within =
    ap (load (write cs (suc i) (store st i c))) (omega arith)
    ∙ (load-write_before cs (suc i) i (store st i c) (omega arith) ∙ get_or-set_same st i c Undefined (omega arith))
load-write_at (c ∷ cs) i (suc k) st lt within =
    ap (load (write cs (suc i) (store st i c))) (omega arith)
    ∙ load-write_at cs (suc i) k (store st i c) (omega arith) (let same = length-set st i c in omega arith)

-- ---- new cells of a call: how many each actual gets, and how many those before the n-th do

abbrev pub width : Passed → ℕ
width (ByReference e) = 0
width (ByCopy e) = e.size
width (ByValue c) = 1

abbrev pub widths : List Passed → ℕ → ℕ
widths xs zero = 0
widths [] (suc n) = 0
widths (ByReference e ∷ xs) (suc n) = widths xs n
widths (ByCopy e ∷ xs) (suc n) = e.size + widths xs n
widths (ByValue c ∷ xs) (suc n) = suc (widths xs n)

abbrev pub seat : Passed → ℕ → Extent
seat (ByReference e) at = e
seat (ByCopy e) at = record { first = at; size = e.size }
seat (ByValue c) at = record { first = at; size = 1 }

pub seat_at : (xs : List Passed) (next n : ℕ) (x : Passed) → slice_get xs n ≡ Some x → slice_get (seats xs next) n ≡ Some (seat x (next + widths xs n))
seat_at [] next n x e = absurd (cc)
seat_at (ByReference e ∷ xs) next zero x h = let f : ByReference e ≡ x = cc in subst (λ (y : Passed). Some e ≡ Some (seat y (next + 0))) f refl
seat_at (ByCopy e ∷ xs) next zero x h = let f : ByCopy e ≡ x = cc in
    subst (λ (y : Passed). slice_get (seats (ByCopy e ∷ xs) next) 0 ≡ Some (seat y (next + 0))) f (ap (λ (z : ℕ). Some (record { first = z; size = e.size })) (omega arith))
seat_at (ByValue c ∷ xs) next zero x h = let f : ByValue c ≡ x = cc in
    subst (λ (y : Passed). slice_get (seats (ByValue c ∷ xs) next) 0 ≡ Some (seat y (next + 0))) f (ap (λ (z : ℕ). Some (record { first = z; size = 1 })) (omega arith))
seat_at (ByReference e ∷ xs) next (suc n) x h = seat_at xs next n x h ∙ ap (λ (z : ℕ). Some (seat x z)) (omega arith)
seat_at (ByCopy e ∷ xs) next (suc n) x h = seat_at xs (next + e.size) n x h ∙ ap (λ (z : ℕ). Some (seat x z)) (omega arith)
seat_at (ByValue c ∷ xs) next (suc n) x h = seat_at xs (next + 1) n x h ∙ ap (λ (z : ℕ). Some (seat x z)) (omega arith)

-- new cells of different actuals lie apart
pub widths_apart : (xs : List Passed) (n m : ℕ) (x : Passed) → slice_get xs n ≡ Some x → n < m → widths xs n + width x ≤ widths xs m
widths_apart [] n m x e lt = absurd (cc)
widths_apart (y ∷ xs) n zero x e lt = absurd (omega arith)
widths_apart (ByReference y ∷ xs) zero (suc m) x e lt = let f : ByReference y ≡ x = cc in subst (λ (z : Passed). 0 + width z ≤ widths xs m) f (omega arith)
widths_apart (ByCopy y ∷ xs) zero (suc m) x e lt = let f : ByCopy y ≡ x = cc in subst (λ (z : Passed). 0 + width z ≤ y.size + widths xs m) f (omega arith)
widths_apart (ByValue y ∷ xs) zero (suc m) x e lt = let f : ByValue y ≡ x = cc in subst (λ (z : Passed). 0 + width z ≤ suc (widths xs m)) f (omega arith)
widths_apart (ByReference y ∷ xs) (suc n) (suc m) x e lt = widths_apart xs n m x e (omega arith)
widths_apart (ByCopy y ∷ xs) (suc n) (suc m) x e lt = let r = widths_apart xs n m x e (omega arith) in omega arith
widths_apart (ByValue y ∷ xs) (suc n) (suc m) x e lt = let r = widths_apart xs n m x e (omega arith) in omega arith

pub length-new_cells : (st : Storage) (xs : List Passed) (n : ℕ) (x : Passed) → slice_get xs n ≡ Some x → widths xs n + width x ≤ length (new_cells st xs)
length-new_cells st [] n x e = absurd (cc)
length-new_cells st (ByReference y ∷ xs) zero x e = let f : ByReference y ≡ x = cc in subst (λ (z : Passed). 0 + width z ≤ length (new_cells st xs)) f (omega arith)
length-new_cells st (ByCopy y ∷ xs) zero x e = let f : ByCopy y ≡ x = cc in
    subst (λ (z : Passed). 0 + width z ≤ length (contents st y.first y.size ++ new_cells st xs)) f (let c = length-contents st y.first y.size in let l = length-append (contents st y.first y.size) (new_cells st xs) in omega arith)
length-new_cells st (ByValue y ∷ xs) zero x e = let f : ByValue y ≡ x = cc in subst (λ (z : Passed). 0 + width z ≤ suc (length (new_cells st xs))) f (omega arith)
length-new_cells st (ByReference y ∷ xs) (suc n) x e = length-new_cells st xs n x e
length-new_cells st (ByCopy y ∷ xs) (suc n) x e =
    let r = length-new_cells st xs n x e in let c = length-contents st y.first y.size in let l = length-append (contents st y.first y.size) (new_cells st xs) in omega arith
length-new_cells st (ByValue y ∷ xs) (suc n) x e = let r = length-new_cells st xs n x e in omega arith

-- what the new cells hold
load_behind : (cs ds : List Cell) (w k : ℕ) → length cs ≡ w → load (cs ++ ds) (w + k) ≡ load ds k
load_behind cs ds w k e = ap (λ (z : ℕ). load (cs ++ ds) (z + k)) (sym e) ∙ get_or-append-add cs ds k Undefined

copy_here : (st : Storage) (e : Extent) (rest : List Cell) (k : ℕ) → k < e.size → load (contents st e.first e.size ++ rest) k ≡ load st (e.first + k)
copy_here st e rest k lt = get_or_append_left (contents st e.first e.size) rest Undefined k (let c = length-contents st e.first e.size in omega arith) ∙ load-contents st e.first e.size k lt

pub copy_holds : (st : Storage) (xs : List Passed) (n : ℕ) (e : Extent) (k : ℕ) → slice_get xs n ≡ Some (ByCopy e) → k < e.size → load (new_cells st xs) (widths xs n + k) ≡ load st (e.first + k)
copy_holds st [] n e k h lt = absurd (cc)
copy_holds st (ByReference y ∷ xs) zero e k h lt = absurd (cc)
copy_holds st (ByCopy y ∷ xs) zero e k h lt = let f : y ≡ e = cc in
    ap (load (contents st y.first y.size ++ new_cells st xs)) (omega arith) ∙ subst (λ (z : Extent). load (contents st y.first y.size ++ new_cells st xs) k ≡ load st (z.first + k)) f (copy_here st y (new_cells st xs) k (subst (λ (z : Extent). k < z.size) (sym f) lt))
copy_holds st (ByValue y ∷ xs) zero e k h lt = absurd (cc)
copy_holds st (ByReference y ∷ xs) (suc n) e k h lt = copy_holds st xs n e k h lt
copy_holds st (ByCopy y ∷ xs) (suc n) e k h lt =
    ap (load (contents st y.first y.size ++ new_cells st xs)) (omega arith)
    ∙ (load_behind (contents st y.first y.size) (new_cells st xs) y.size (widths xs n + k) (length-contents st y.first y.size) ∙ copy_holds st xs n e k h lt)
copy_holds st (ByValue y ∷ xs) (suc n) e k h lt = let q : suc (widths xs n) + k ≡ suc (widths xs n + k) = omega arith in ap (load (y ∷ new_cells st xs)) q ∙ copy_holds st xs n e k h lt

pub value_holds : (st : Storage) (xs : List Passed) (n : ℕ) (c : Cell) → slice_get xs n ≡ Some (ByValue c) → load (new_cells st xs) (widths xs n) ≡ c
value_holds st [] n c h = absurd (cc)
value_holds st (ByReference y ∷ xs) zero c h = absurd (cc)
value_holds st (ByCopy y ∷ xs) zero c h = absurd (cc)
value_holds st (ByValue y ∷ xs) zero c h = cc
value_holds st (ByReference y ∷ xs) (suc n) c h = value_holds st xs n c h
value_holds st (ByCopy y ∷ xs) (suc n) c h = load_behind (contents st y.first y.size) (new_cells st xs) y.size (widths xs n) (length-contents st y.first y.size) ∙ value_holds st xs n c h
value_holds st (ByValue y ∷ xs) (suc n) c h = value_holds st xs n c h

pub passed_at : (copies : ℕ → Bool) (i : ℕ) (xs : List Taken) (n : ℕ) (x : Taken) → slice_get xs n ≡ Some x → slice_get (passed copies i xs) n ≡ Some (passed_by (copies (i + n)) x)
passed_at copies i [] n x e = absurd (cc)
passed_at copies i (y ∷ xs) zero x e = let f : y ≡ x = cc in ap (λ (z : Taken). Some (passed_by (copies i) z)) f ∙ ap (λ (j : ℕ). Some (passed_by (copies j) x)) (omega arith)
passed_at copies i (y ∷ xs) (suc n) x e = passed_at copies (suc i) xs n x e ∙ ap (λ (j : ℕ). Some (passed_by (copies j) x)) (omega arith)

pub at_passed : (copies : ℕ → Bool) (i : ℕ) (xs : List Taken) (n : ℕ) (y : Passed) → slice_get (passed copies i xs) n ≡ Some y → (x : Taken) × (slice_get xs n ≡ Some x) × (passed_by (copies (i + n)) x ≡ y)
at_passed copies i [] n y e = absurd (cc)
at_passed copies i (x ∷ xs) zero y e = let f : passed_by (copies i) x ≡ y = cc in (x, refl, ap (λ (j : ℕ). passed_by (copies j) x) (omega arith) ∙ f)
at_passed copies i (x ∷ xs) (suc n) y e = let r = at_passed copies (suc i) xs n y e in (r.0, r.1, ap (λ (j : ℕ). passed_by (copies j) r.0) (omega arith) ∙ r.2)

-- ---- copies are written back

pub length-written_back : (xs : List Passed) (next : ℕ) (st : Storage) → length (written_back xs next st) ≡ length st
length-written_back [] next st = refl
length-written_back (ByReference e ∷ xs) next st = length-written_back xs next st
length-written_back (ByCopy e ∷ xs) next st = length-written_back xs (next + e.size) _ ∙ length-write (contents st next e.size) e.first st
length-written_back (ByValue c ∷ xs) next st = length-written_back xs (next + 1) st

-- each copy holds, for the cell k, what the cell does
abbrev pub CopiesHold : ℕ → ℕ → Storage → List Passed → ℕ → Type 0
CopiesHold long k st [] next = Unit {0}
CopiesHold long k st (ByReference e ∷ xs) next = CopiesHold long k st xs next
CopiesHold long k st (ByCopy e ∷ xs) next =
    (e.first + e.size ≤ long) × (IsIn k e → load st (next + (k - e.first)) ≡ load st k) × CopiesHold long k st xs (next + e.size)
CopiesHold long k st (ByValue c ∷ xs) next = CopiesHold long k st xs (next + 1)

-- other storage that holds the same in the cell and in all new ones
copies_still : (long k : ℕ) (st other : Storage) → load other k ≡ load st k → ((j : ℕ) → long ≤ j → load other j ≡ load st j)
    → (xs : List Passed) (next : ℕ) → long ≤ next → CopiesHold long k st xs next → CopiesHold long k other xs next
copies_still long k st other same news [] next le h = tt
copies_still long k st other same news (ByReference e ∷ xs) next le h = copies_still long k st other same news xs next le h
copies_still long k st other same news (ByCopy e ∷ xs) next le h =
    (h.0, (λ inside. news (next + (k - e.first)) (omega arith) ∙ (h.1 inside ∙ sym same)), copies_still long k st other same news xs (next + e.size) (omega arith) h.2)
copies_still long k st other same news (ByValue c ∷ xs) next le h = copies_still long k st other same news xs (next + 1) (omega arith) h

written_cell : (st : Storage) (next k : ℕ) (e : Extent) → k < length st → (IsIn k e → load st (next + (k - e.first)) ≡ load st k) → load (write (contents st next e.size) e.first st) k ≡ load st k
written_cell st next k e lt h = before (at_most_or k e.first)
  where
    size : length (contents st next e.size) ≡ e.size
    size = length-contents st next e.size

    behind : e.first ≤ k → (k < e.first + e.size) ⊎ (e.first + e.size ≤ k) → load (write (contents st next e.size) e.first st) k ≡ load st k
    behind le (inl less) =
        ap (load (write (contents st next e.size) e.first st)) (omega arith)
        ∙ (load-write_at (contents st next e.size) e.first (k - e.first) st (let l = size in omega arith) (omega arith)
        ∙ (load-contents st next e.size (k - e.first) (omega arith) ∙ h (le, less)))
    behind le (inr past) = load-write_past (contents st next e.size) e.first k st (let l = size in omega arith)

    before : (k < e.first) ⊎ (e.first ≤ k) → load (write (contents st next e.size) e.first st) k ≡ load st k
    before (inl less) = load-write_before (contents st next e.size) e.first k st less
    before (inr le) = behind le (at_most_or k (e.first + e.size))

pub load-written_back : (long k : ℕ) → (xs : List Passed) (next : ℕ) (st : Storage) → k < length st → long ≤ next → CopiesHold long k st xs next → load (written_back xs next st) k ≡ load st k
load-written_back long k [] next st lt le h = refl
load-written_back long k (ByReference e ∷ xs) next st lt le h = load-written_back long k xs next st lt le h
load-written_back long k (ByCopy e ∷ xs) next st lt le h =
    let other = write (contents st next e.size) e.first st in
    let same : load other k ≡ load st k = written_cell st next k e lt h.1 in
    load-written_back long k xs (next + e.size) other (let l = length-write (contents st next e.size) e.first st in omega arith) (omega arith)
    (copies_still long k st other same (λ j low. load-write_past (contents st next e.size) e.first j st (let l = length-contents st next e.size in let bound = h.0 in omega arith)) xs (next + e.size) (omega arith) h.2)
    ∙ same
load-written_back long k (ByValue c ∷ xs) next st lt le h = load-written_back long k xs (next + 1) st lt (omega arith) h

-- it is enough to know this of each copy by its number
pub copies_hold : (long k : ℕ) (st : Storage) (xs : List Passed) (next : ℕ)
    → ((n : ℕ) (e : Extent) → slice_get xs n ≡ Some (ByCopy e) → (e.first + e.size ≤ long) × (IsIn k e → load st (next + widths xs n + (k - e.first)) ≡ load st k)) → CopiesHold long k st xs next
copies_hold long k st [] next h = tt
copies_hold long k st (ByReference e ∷ xs) next h = copies_hold long k st xs next (λ n f g. h (suc n) f g)
copies_hold long k st (ByCopy e ∷ xs) next h =
    let first = h 0 e refl in (
      first.0,
      (λ inside. ap (load st) (omega arith) ∙ first.1 inside),
      copies_hold long k st xs (next + e.size) (λ n f g. let r = h (suc n) f g in (r.0, λ inside. ap (load st) (omega arith) ∙ r.1 inside)),
    )
copies_hold long k st (ByValue c ∷ xs) next h =
    copies_hold long k st xs (next + 1) (λ n f g. let r = h (suc n) f g in (r.0, λ inside. ap (load st) (omega arith) ∙ r.1 inside))
