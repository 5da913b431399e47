-- Copies of neighbouring cells.
use Rattle.std.proofs.Common.{◌≡◌, ℕ, zero, suc, ◌+◌, ◌<◌, ◌≤◌, ◌++◌, [], ◌∷◌, length, take, refl, sym, ap, ◌∙◌, arith, length-append}
use Rattle.std.proofs.lemmas.List.{get_or-take, get_or_past, take-append-le, append_assoc}
use Rattle.formula.specs.declared.value.Cell.TheVariants.{Undefined}
use Rattle.fort_model.specs.Storage.{Storage, contents, load}

pub early : (base : ℕ) (st : Storage) (i : ℕ) → i < base → load (take base st) i ≡ load st i
early base st i h = get_or-take base st i Undefined h

taken_short : (n : ℕ) (st : Storage) → length (take n st) ≤ n
taken_short zero st = omega arith
taken_short (suc n) [] = omega arith
taken_short (suc n) (c ∷ cs) = let h : length (take n cs) ≤ n = taken_short n cs in omega arith

pub late : (base : ℕ) (st : Storage) (i : ℕ) → base ≤ i → load (take base st) i ≡ Undefined
late base st i h = let short : length (take base st) ≤ base = taken_short base st in get_or_past (take base st) i Undefined (omega arith)

-- cells that are put behind others change nothing of those
pub before : (base : ℕ) (st cs : Storage) → base ≤ length st → take base (st ++ cs) ≡ take base st
before base st cs h = take-append-le base st cs h

-- one more cell
one_more : (st : Storage) (i k : ℕ) → contents st i (suc k) ≡ contents st i k ++ load st (i + k) ∷ []
one_more st i zero = ap (λ j. load st j ∷ []) (let same : i ≡ i + 0 = omega arith in same)
one_more st i (suc k) = ap (λ cs. load st i ∷ cs) (one_more st (suc i) k) ∙ ap (λ j. load st i ∷ (contents st (suc i) k ++ load st j ∷ [])) (let same : suc i + k ≡ i + suc k = omega arith in same)

pub more : (st : Storage) (i k : ℕ) → contents st i (k + 1) ≡ contents st i k ++ load st (i + k) ∷ []
more st i k = ap (contents st i) (let same : k + 1 ≡ suc k = omega arith in same) ∙ one_more st i k

-- copies go on with one more cell, which is taken from those that were there at first
pub longer : (base : ℕ) (st : Storage) (i k : ℕ) → base ≤ length st
    → (st ++ contents (take base st) i k) ++ load (take base (st ++ contents (take base st) i k)) (i + k) ∷ [] ≡ st ++ contents (take base st) i (k + 1)
longer base st i k h =
    let old = take base st in
    ap (λ cs. (st ++ contents old i k) ++ load cs (i + k) ∷ []) (before base st (contents old i k) h) ∙ append_assoc st (contents old i k) (load old (i + k) ∷ []) ∙ ap (λ cs. st ++ cs) (sym (more old i k))

pub long : (st : Storage) (i k : ℕ) → length (contents st i k) ≡ k
long st i zero = refl
long st i (suc k) = ap suc (long st (suc i) k)

pub grown : (base : ℕ) (st : Storage) (i k : ℕ) → length (st ++ contents (take base st) i k) ≡ length st + k
grown base st i k = length-append st (contents (take base st) i k) ∙ ap (λ n. length st + n) (long (take base st) i k)
