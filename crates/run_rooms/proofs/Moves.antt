-- What neighbouring cells hold is moved to other ones.
use Rattle.std.proofs.Common.{◌≡◌, ℕ, zero, suc, ◌+◌, ◌<◌, ◌≤◌, ◌++◌, List, [], ◌∷◌, length, refl, sym, ap, ◌∙◌, arith}
use Rattle.formula.specs.declared.value.Cell.{Cell}
use Rattle.fort_model.specs.Storage.{Storage, contents, load, store, write}
use Rattle.run_rooms.proofs.Copies.{more, long}

-- a cell that is not written keeps its content
other : (st : Storage) (i k : ℕ) (c : Cell) → (i ≡ k → ⊥) → load (store st i c) k ≡ load st k
other [] i k c h = refl
other (x ∷ st) zero zero c h = absurd (h refl)
other (x ∷ st) zero (suc k) c h = refl
other (x ∷ st) (suc i) zero c h = refl
other (x ∷ st) (suc i) (suc k) c h = other st i k c (λ e. h (ap suc e))

-- two cells are written in any order
swapped : (st : Storage) (i k : ℕ) (c d : Cell) → (i ≡ k → ⊥) → store (store st i c) k d ≡ store (store st k d) i c
swapped [] i k c d h = refl
swapped (x ∷ st) zero zero c d h = absurd (h refl)
swapped (x ∷ st) zero (suc k) c d h = refl
swapped (x ∷ st) (suc i) zero c d h = refl
swapped (x ∷ st) (suc i) (suc k) c d h = ap (λ s. x ∷ s) (swapped st i k c d (λ e. h (ap suc e)))

behind : (cs : List Cell) (i k : ℕ) (st : Storage) → i + length cs ≤ k → load (write cs i st) k ≡ load st k
behind [] i k st h = refl
behind (c ∷ cs) i k st h = behind cs (suc i) k (store st i c) (omega arith) ∙ other st i k c (λ e. absurd (omega arith))

ahead : (cs : List Cell) (i k : ℕ) (st : Storage) → k < i → load (write cs i st) k ≡ load st k
ahead [] i k st h = refl
ahead (c ∷ cs) i k st h = ahead cs (suc i) k (store st i c) (omega arith) ∙ other st i k c (λ e. absurd (omega arith))

last_one : (cs : List Cell) (c : Cell) (i : ℕ) (st : Storage) → write (cs ++ c ∷ []) i st ≡ store (write cs i st) (i + length cs) c
last_one [] c i st = ap (λ k. store st k c) (let same : i ≡ i + 0 = omega arith in same)
last_one (d ∷ cs) c i st = last_one cs c (suc i) (store st i d) ∙ ap (λ k. store (write cs (suc i) (store st i d)) k c) (let same : suc i + length cs ≡ i + suc (length cs) = omega arith in same)

first_one : (cs : List Cell) (c : Cell) (k i : ℕ) (st : Storage) → k < i → store (write cs i st) k c ≡ write cs i (store st k c)
first_one [] c k i st h = refl
first_one (d ∷ cs) c k i st h = first_one cs c k (suc i) (store st i d) (omega arith) ∙ ap (write cs (suc i)) (swapped st i k d c (λ e. absurd (omega arith)))

-- one more cell is moved, the first one first
pub down : (st : Storage) (from to n : ℕ) → to ≤ from
    → store (write (contents st from n) to st) (to + n) (load (write (contents st from n) to st) (from + n)) ≡ write (contents st from (n + 1)) to st
down st from to n h =
    let size : length (contents st from n) ≡ n = long st from n in
    ap (store (write (contents st from n) to st) (to + n)) (behind (contents st from n) to (from + n) st (omega arith))
    ∙ sym (last_one (contents st from n) (load st (from + n)) to st ∙ ap (λ k. store (write (contents st from n) to st) (to + k) (load st (from + n))) size)
    ∙ ap (λ cs. write cs to st) (sym (more st from n))

-- the last one first
pub up : (st : Storage) (from to n : ℕ) → from < to
    → store (write (contents st (suc from) n) (suc to) st) to (load (write (contents st (suc from) n) (suc to) st) from) ≡ write (contents st from (suc n)) to st
up st from to n h =
    ap (store (write (contents st (suc from) n) (suc to) st) to) (ahead (contents st (suc from) n) (suc to) from st (omega arith))
    ∙ first_one (contents st (suc from) n) (load st from) to (suc to) st (omega arith)
