-- Pieces of lists.
use Rattle.std.proofs.Common.{◌≡◌, ℕ, zero, suc, ◌+◌, ◌-◌, ◌<◌, ◌≤◌, ◌^◌, Bool, true, false, nat_le, List, [], ◌∷◌, length, take, drop, Some, None, slice_get, refl, sym, ap, ◌∙◌, arith}
use Rattle.std.proofs.lemmas.List.{drop_more, drop_all, drop-drop}
use Rattle.std.proofs.lemmas.Option.{slice_get_within, get_or_from_slice_get}
use Rattle.run_shapes.specs.Seen.{piece}
use Rattle.run_state.specs.Near.{far}

taken_zero : {X : Type 0} (a b : ℕ) (xs : List X) → b ≤ a → piece a b xs ≡ []
taken_zero a b xs h = ap (λ k. take k (drop a xs)) (let none : b - a ≡ 0 = omega arith in none)

abbrev the_none : (X : Type 0) → List X
the_none X = []

none_taken : {X : Type 0} (k : ℕ) → take k (the_none X) ≡ []
none_taken zero = refl
none_taken (suc k) = refl

drop_taken : {X : Type 0} (k n j : ℕ) (xs : List X) → j ≡ n - k → drop k (take n xs) ≡ take j (drop k xs)
drop_taken zero n j xs h = ap (λ i. take i xs) (let same : n ≡ j = omega arith in same)
drop_taken (suc k) zero j xs h = sym (ap (λ i. take i (drop (suc k) xs)) (let none : j ≡ 0 = omega arith in none))
drop_taken (suc k) (suc n) j [] h = sym (none_taken j)
drop_taken (suc k) (suc n) j (x ∷ xs) h = drop_taken k n j xs (omega arith)

-- a piece without its first so many
pub piece_later : {X : Type 0} (a b k : ℕ) (xs : List X) → piece (a + k) b xs ≡ drop k (piece a b xs)
piece_later a b k xs =
    ap (λ j. take j (drop (a + k) xs)) (let same : b - (a + k) ≡ b - a - k = omega arith in same) ∙ ap (take (b - a - k)) (sym (drop-drop k a xs)) ∙ sym (drop_taken k (b - a) (b - a - k) (drop a xs) refl)

pub piece_far : {X : Type 0} (a b k : ℕ) (xs : List X) → b < 2 ^ 64 → piece (far (a + k)) b xs ≡ drop k (piece a b xs)
piece_far a b k xs small = by_cases (nat_le (a + k) (2 ^ 64 - 1)) refl
  where
    by_cases : (t : Bool) → nat_le (a + k) (2 ^ 64 - 1) ≡ t → piece (far (a + k)) b xs ≡ drop k (piece a b xs)
    by_cases true e = ap (λ i. piece i b xs) (let same : far (a + k) ≡ a + k = grind arith in same) ∙ piece_later a b k xs
    by_cases false e =
        let long : 2 ^ 64 - 1 ≤ a + k = grind arith in
        let same : far (a + k) ≡ 2 ^ 64 - 1 = grind arith in
        ap (λ i. piece i b xs) same ∙ taken_zero (2 ^ 64 - 1) b xs (omega arith) ∙ sym (sym (piece_later a b k xs) ∙ taken_zero (a + k) b xs (omega arith))

-- the first instruction of a piece
pub piece_next : {X : Type 0} (a b : ℕ) (xs : List X) (x : X) → a < b → slice_get xs a ≡ Some x → piece a b xs ≡ x ∷ piece (a + 1) b xs
piece_next a b xs x h e =
    let here : drop a xs ≡ x ∷ drop (a + 1) xs = drop_more xs a x (slice_get_within xs a x e) ∙ ap (λ y. y ∷ drop (a + 1) xs) (get_or_from_slice_get xs a x x e) in
    ap (take (b - a)) here ∙ ap (λ k. take k (x ∷ drop (a + 1) xs)) (let one : b - a ≡ suc (b - (a + 1)) = omega arith in one)

-- nothing is left
pub piece_done : {X : Type 0} (a b : ℕ) (xs : List X) → b ≤ a → piece a b xs ≡ []
piece_done a b xs h = taken_zero a b xs h

past_all : {X : Type 0} (xs : List X) (k : ℕ) → slice_get xs k ≡ None → length xs ≤ k
past_all [] k e = omega arith
past_all (x ∷ xs) zero e = absurd (cc)
past_all (x ∷ xs) (suc k) e = let h : length xs ≤ k = past_all xs k e in omega arith

pub piece_out : {X : Type 0} (a b : ℕ) (xs : List X) → slice_get xs a ≡ None → piece a b xs ≡ []
piece_out a b xs e = ap (take (b - a)) (drop_all a xs (past_all xs a e)) ∙ none_taken (b - a)
