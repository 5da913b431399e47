-- One byte of a text that is looked through for points.
use Rattle.std.proofs.Common.{◌≡◌, ℕ, zero, suc, ◌+◌, ◌-◌, ◌<◌, ◌≤◌, Bool, true, false, List, [], ◌∷◌, length, drop, refl, ap, ◌∙◌, arith}
use Rattle.std.specs.Prelude.{slice_index_or, ◌||◌}
use Rattle.fort_syntax.specs.Misspelled.{first_word, pointed_words, size_of, is_loose, has_real_from}

passed : (n before : ℕ) (t : List ℕ) (i : ℕ) → i < length t → has_real_from (suc n) before (drop i t) ≡ has_real_from n (slice_index_or t i 0) (drop (suc i) t)
passed n before [] i lt = absurd (omega arith)
passed n before (b ∷ t) zero lt = refl
passed n before (b ∷ t) (suc i) lt = passed n before t i (omega arith)

pub passed_over : (n before : ℕ) (t : List ℕ) (i : ℕ) → i < length t → 0 < n → has_real_from n before (drop i t) ≡ has_real_from (n - 1) (slice_index_or t i 0) (drop (i + 1) t)
passed_over zero before t i lt some = absurd (omega arith)
passed_over (suc n) before t i lt some =
    let next : suc i ≡ i + 1 = omega arith in
    let same : n ≡ suc n - 1 = omega arith in
    passed n before t i lt ∙ (λ k. has_real_from (same k) (slice_index_or t i 0) (drop (next k) t))

unlike : (x : Bool) (y : Bool) → x ≡ false → (x || y) ≡ y
unlike false y h = refl
unlike true y h = absurd cc

judge : (before : ℕ) (t : List ℕ) (i : ℕ) → i < length t → is_loose before (drop i t) ≡ false
    → has_real_from 0 before (drop i t) ≡ has_real_from (size_of (first_word pointed_words (drop i t)) - 1) (slice_index_or t i 0) (drop (suc i) t)
judge before [] i lt h = absurd (omega arith)
judge before (b ∷ t) zero lt h = unlike _ _ h
judge before (b ∷ t) (suc i) lt h = judge before t i (omega arith) h

pub judged : (before : ℕ) (t : List ℕ) (i : ℕ) → i < length t → is_loose before (drop i t) ≡ false
    → has_real_from 0 before (drop i t) ≡ has_real_from (size_of (first_word pointed_words (drop i t)) - 1) (slice_index_or t i 0) (drop (i + 1) t)
judged before t i lt h =
    let next : suc i ≡ i + 1 = omega arith in
    judge before t i lt h ∙ ap (λ k. has_real_from (size_of (first_word pointed_words (drop i t)) - 1) (slice_index_or t i 0) (drop k t)) next

like : (x : Bool) (y : Bool) → x ≡ true → (x || y) ≡ true
like true y h = refl
like false y h = absurd cc

pub loose_found : (before : ℕ) (t : List ℕ) → is_loose before t ≡ true → has_real_from 0 before t ≡ true
loose_found before [] h = absurd cc
loose_found before (b ∷ t) h = like _ _ h

pub none_left : (n before : ℕ) (t : List ℕ) (i : ℕ) → length t ≤ i → has_real_from n before (drop i t) ≡ false
none_left zero before [] zero le = refl
none_left (suc n) before [] zero le = refl
none_left zero before [] (suc i) le = refl
none_left (suc n) before [] (suc i) le = refl
none_left n before (b ∷ t) zero le = absurd (omega arith)
none_left n before (b ∷ t) (suc i) le = none_left n before t i (omega arith)
