-- Numerals are decimal digits.
use Rattle.std.proofs.Common.{◌≡◌, ℕ, zero, suc, ◌+◌, ◌*◌, ◌/◌, ◌%◌, ◌<◌, ◌≤◌, Bool, true, false, List, [], ◌∷◌, ◌++◌, refl, sym, ap, ◌∙◌, arith}
use Rattle.std.specs.Prelude.{◌==◌, ◌^◌, decimal, if◌then◌else◌}
use Rattle.std.proofs.lemmas.Bool.Decides.{nat_tests}
use Rattle.std.proofs.lemmas.Fmt.{decimal_by_steps_wide}
use Rattle.fort_model.specs.Symbols.{counted_on, digits_back, backwards, numeral}

unless : {A : Type 0} (b : Bool) (x y : A) → b ≡ false → (if b then x else y) ≡ y
unless false x y h = refl
unless true x y h = absurd cc

-- a digit below 9 goes up by one
counted_low : (r : ℕ) (ds : List ℕ) → r < 9 → counted_on ((48 + r) ∷ ds) ≡ (48 + suc r) ∷ ds
counted_low r ds h = unless (48 + r == 57) _ _ (low r h) ∙ ap (λ (d : ℕ). d ∷ ds) (up r)
  where
    low : (r : ℕ) → r < 9 → (48 + r == 57) ≡ false
    low r h = grind (arith, nat_tests)

    up : (r : ℕ) → 48 + r + 1 ≡ 48 + suc r
    up r = omega arith

-- one digit
one_digit : (n : ℕ) → n < 10 → digits_back n ≡ (48 + n) ∷ []
one_digit zero h = refl
one_digit (suc n) h = ap counted_on (one_digit n (omega arith)) ∙ counted_low n [] (omega arith)

module _ (q : ℕ) where
  -- behind a front the last digit goes up from 0 to 9
  more_digits : digits_back (suc q * 10) ≡ 48 ∷ digits_back (suc q) → (r : ℕ) → r < 10 → digits_back (suc q * 10 + r) ≡ (48 + r) ∷ digits_back (suc q)
  more_digits first zero h = ap digits_back (same (suc q * 10)) ∙ first
    where
      same : (n : ℕ) → n + 0 ≡ n
      same n = omega arith
  more_digits first (suc r) h = ap digits_back (next (suc q * 10) r) ∙ ap counted_on (more_digits first r (omega arith)) ∙ counted_low r (digits_back (suc q)) (omega arith)
    where
      next : (n m : ℕ) → n + suc m ≡ suc (n + m)
      next n m = omega arith

ten_times : (q : ℕ) → digits_back (suc q * 10) ≡ 48 ∷ digits_back (suc q)
ten_times zero = refl
ten_times (suc q) = ap digits_back (tens q) ∙ ap counted_on (more_digits q (ten_times q) 9 (omega arith))
  where
    tens : (q : ℕ) → suc (suc q) * 10 ≡ suc (suc q * 10 + 9)
    tens q = omega arith

last_digit : (n : ℕ) → 10 ≤ n → digits_back n ≡ (48 + n % 10) ∷ digits_back (n / 10)
last_digit n h = by_front (n / 10) (n % 10) parts.0 parts.1 (omega arith)
  where
    parts : (n ≡ n / 10 * 10 + n % 10) × (n % 10 < 10)
    parts = (omega arith, omega arith)

    by_front : (q r : ℕ) → n ≡ q * 10 + r → r < 10 → 0 < q → digits_back n ≡ (48 + r) ∷ digits_back q
    by_front zero r e s t = absurd (omega arith)
    by_front (suc q) r e s t = ap digits_back e ∙ more_digits q (ten_times q) r s

pub numerals_are_decimal : (n : ℕ) → n < 10 ^ 64 → numeral n ≡ decimal n
numerals_are_decimal n h = sym (decimal_by_steps_wide (λ m ds. ds ≡ numeral m) (λ m s. sym (ap backwards (one_digit m s)))
    (λ m ds s e. ap (λ (xs : List ℕ). xs ++ (48 + m % 10) ∷ []) e ∙ sym (ap backwards (last_digit m s))) n h)
