-- Bytes of a kind at the beginning of a text.
use Rattle.std.proofs.Common.{◌≡◌, ℕ, zero, suc, ◌+◌, ◌<◌, ◌≤◌, Bool, true, false, List, [], ◌∷◌, length, drop, refl, ap, ◌∙◌, arith}
use Rattle.std.specs.Prelude.{slice_index_or}
use Rattle.event_reading.specs.Readings.{run_length}

next : (p : ℕ → Bool) (t : List ℕ) (i : ℕ) → i < length t → p (slice_index_or t i 0) ≡ true → run_length p (drop i t) ≡ suc (run_length p (drop (suc i) t))
next p [] i lt h = absurd (omega arith)
next p (b ∷ t) zero lt h = rw h refl
next p (b ∷ t) (suc i) lt h = next p t i (omega arith) h

-- one byte of the kind
pub run_next : (p : ℕ → Bool) (t : List ℕ) (i : ℕ) → i < length t → p (slice_index_or t i 0) ≡ true → run_length p (drop i t) ≡ 1 + run_length p (drop (i + 1) t)
run_next p t i lt h =
    let e : suc i ≡ i + 1 = omega arith in
    let k : suc (run_length p (drop (i + 1) t)) ≡ 1 + run_length p (drop (i + 1) t) = omega arith in
    next p t i lt h ∙ ap (λ j. suc (run_length p (drop j t))) e ∙ k

-- a byte of another kind
pub run_stop : (p : ℕ → Bool) (t : List ℕ) (i : ℕ) → i < length t → p (slice_index_or t i 0) ≡ false → run_length p (drop i t) ≡ 0
run_stop p [] i lt h = absurd (omega arith)
run_stop p (b ∷ t) zero lt h = rw h refl
run_stop p (b ∷ t) (suc i) lt h = run_stop p t i (omega arith) h

-- nothing is left
pub run_end : (p : ℕ → Bool) (t : List ℕ) (i : ℕ) → length t ≤ i → run_length p (drop i t) ≡ 0
run_end p [] zero le = refl
run_end p [] (suc i) le = refl
run_end p (b ∷ t) zero le = absurd (omega arith)
run_end p (b ∷ t) (suc i) le = run_end p t i (omega arith)
