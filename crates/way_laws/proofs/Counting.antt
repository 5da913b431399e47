-- How many of some numbers are less than one.
use Rattle.std.proofs.Common.{◌≡◌, ℕ, zero, suc, ◌+◌, ◌<◌, ◌≤◌, Bool, true, false, refl, arith}
use Rattle.std.specs.Prelude.{nat_lt}
use Rattle.std.proofs.lemmas.Bool.Decides.{nat_tests}

abbrev one_if : Bool → ℕ
one_if true = 1
one_if false = 0

-- how many of the first so many numbers are less than one
abbrev pub lesser : (ℕ → ℕ) → ℕ → ℕ → ℕ
lesser f v zero = 0
lesser f v (suc n) = one_if (nat_lt (f 0) v) + lesser (λ k. f (suc k)) v n

if_less : (x v : ℕ) → x < v → one_if (nat_lt x v) ≡ 1
if_less x v lt = by (nat_lt x v) refl
  where
    by : (b : Bool) → nat_lt x v ≡ b → one_if b ≡ 1
    by true e = refl
    by false e = let le : v ≤ x = grind (arith, nat_tests) in let none : ⊥ = omega arith in absurd none

if_more : (x v : ℕ) → v ≤ x → one_if (nat_lt x v) ≡ 0
if_more x v le = by (nat_lt x v) refl
  where
    by : (b : Bool) → nat_lt x v ≡ b → one_if b ≡ 0
    by true e = let lt : x < v = grind (arith, nat_tests) in let none : ⊥ = omega arith in absurd none
    by false e = refl

at_most_one : (b : Bool) → one_if b ≤ 1
at_most_one true = omega arith
at_most_one false = omega arith

more_at : (x v w : ℕ) → v ≤ w → one_if (nat_lt x v) ≤ one_if (nat_lt x w)
more_at x v w le = by (nat_lt x v) refl
  where
    by : (b : Bool) → nat_lt x v ≡ b → one_if b ≤ one_if (nat_lt x w)
    by true e =
        let lt : x < v = grind (arith, nat_tests) in
        let one = if_less x w (omega arith) in
        omega arith
    by false e = omega arith

both_few : (a b n : ℕ) → a ≤ 1 → b ≤ n → a + b ≤ suc n
both_few a b n le few = omega arith

-- they are no more than there are
pub lesser_few : (f : ℕ → ℕ) (v n : ℕ) → lesser f v n ≤ n
lesser_few f v zero = omega arith
lesser_few f v (suc n) =
    both_few (one_if (nat_lt (f 0) v)) (lesser (λ k. f (suc k)) v n) n (at_most_one (nat_lt (f 0) v)) (lesser_few (λ k. f (suc k)) v n)

both_more : (a b c d : ℕ) → a ≤ b → c ≤ d → a + c ≤ b + d
both_more a b c d h k = omega arith

-- no fewer are less than a greater one
pub lesser_more : (f : ℕ → ℕ) (v w n : ℕ) → v ≤ w → lesser f v n ≤ lesser f w n
lesser_more f v w zero le = omega arith
lesser_more f v w (suc n) le =
    both_more (one_if (nat_lt (f 0) v)) (one_if (nat_lt (f 0) w)) (lesser (λ k. f (suc k)) v n) (lesser (λ k. f (suc k)) w n)
    (more_at (f 0) v w le) (lesser_more (λ k. f (suc k)) v w n le)

first_greater : (a b c d : ℕ) → a ≡ 0 → b ≡ 1 → c ≤ d → a + c < b + d
first_greater a b c d h k le = omega arith

later_greater : (a b c d : ℕ) → a ≤ b → c < d → a + c < b + d
later_greater a b c d h k = omega arith

-- and more, where one of them stands between
pub lesser_between : (f : ℕ → ℕ) (v w n i : ℕ) → i < n → v ≤ f i → f i < w → lesser f v n < lesser f w n
lesser_between f v w zero i h le lt = let none : ⊥ = omega arith in absurd none
lesser_between f v w (suc n) zero h le lt =
    first_greater (one_if (nat_lt (f 0) v)) (one_if (nat_lt (f 0) w)) (lesser (λ k. f (suc k)) v n) (lesser (λ k. f (suc k)) w n)
    (if_more (f 0) v le) (if_less (f 0) w lt) (lesser_more (λ k. f (suc k)) v w n (omega arith))
lesser_between f v w (suc n) (suc i) h le lt =
    later_greater (one_if (nat_lt (f 0) v)) (one_if (nat_lt (f 0) w)) (lesser (λ k. f (suc k)) v n) (lesser (λ k. f (suc k)) w n)
    (more_at (f 0) v w (omega arith)) (lesser_between (λ k. f (suc k)) v w n i (omega arith) le lt)
