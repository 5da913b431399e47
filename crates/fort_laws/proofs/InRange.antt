-- Integers of a processor.
use Rattle.std.proofs.Common.{◌≡◌, ℕ, suc, ◌%◌, ◌≤◌, Bool, true, false, ℤ, pos, negsuc, ◌+ℤ◌, ◌-ℤ◌, ◌*ℤ◌, ◌≤ℤ◌, neg_ℤ, refl, ap, ◌∙◌, arith}
use Rattle.std.proofs.lemmas.Bool.Decides.{nat_tests}
use Rattle.std.proofs.lemmas.Int.{ints, quot-rem}
use Rattle.std.specs.Prelude.{nat_lt, int_le, int_lt, int_div, int_rem, nat_abs, if◌then◌else◌}
use lib.Signed.{mag_rem}
use Rattle.formula.specs.Values as value
use Rattle.formula.specs.Values.{is_between}
use Rattle.fort_model.specs.Processor.{Processor, MeetsBound}
use Rattle.fort_laws.proofs.Small.{both_hold, both_parts}

pub at_most : (a b : ℤ) → a ≤ℤ b → int_le a b ≡ true
at_most a b h = grind (arith, ints)

module _ (p : Processor) (bound : ℕ) (meets : MeetsBound p bound) where
  -- all integers up to the bound
  pub up_to_bound : (n : ℕ) → nat_lt bound n ≡ false → is_between p.least p.greatest (pos n) ≡ true
  up_to_bound n h = both_hold (int_le p.least (pos n)) (int_le (pos n) p.greatest) (low (neg_ℤ (pos bound)) meets.0) (high h meets.1)
    where
      low : (z : ℤ) → p.least ≤ℤ neg_ℤ (pos bound) → int_le p.least (pos n) ≡ true
      low z a = grind (arith, ints)

      high : nat_lt bound n ≡ false → pos bound ≤ℤ p.greatest → int_le (pos n) p.greatest ≡ true
      high b a = grind (arith, ints, nat_tests)

  pub has_zero : is_between p.least p.greatest (pos 0) ≡ true
  has_zero = up_to_bound 0 none_less
    where
      none_less : nat_lt bound 0 ≡ false
      none_less = grind (arith, nat_tests)

-- a number between zero and one in range
between_zero : (l h : ℤ) (r n : ℕ) → r ≤ n → is_between l h (pos 0) ≡ true → is_between l h (pos n) ≡ true → is_between l h (pos r) ≡ true
between_zero l h r n le z b =
    let x = both_parts (int_le l (pos 0)) (int_le (pos 0) h) z in
    let y = both_parts (int_le l (pos n)) (int_le (pos n) h) b in
    both_hold (int_le l (pos r)) (int_le (pos r) h) (low x.0) (high y.1)
  where
    low : int_le l (pos 0) ≡ true → int_le l (pos r) ≡ true
    low a = grind (arith, ints)

    high : int_le (pos n) h ≡ true → int_le (pos r) h ≡ true
    high a = grind (arith, ints)

between_below : (l h : ℤ) (r n : ℕ) → r ≤ n → is_between l h (pos 0) ≡ true → is_between l h (neg_ℤ (pos n)) ≡ true → is_between l h (neg_ℤ (pos r)) ≡ true
between_below l h r n le z b =
    let x = both_parts (int_le l (pos 0)) (int_le (pos 0) h) z in
    let y = both_parts (int_le l (neg_ℤ (pos n))) (int_le (neg_ℤ (pos n)) h) b in
    both_hold (int_le l (neg_ℤ (pos r))) (int_le (neg_ℤ (pos r)) h) (low y.0) (high x.1)
  where
    low : int_le l (neg_ℤ (pos n)) ≡ true → int_le l (neg_ℤ (pos r)) ≡ true
    low a = grind (arith, ints)

    high : int_le (pos 0) h ≡ true → int_le (neg_ℤ (pos r)) h ≡ true
    high a = grind (arith, ints)

remainder_is : (a b : ℤ) → value.remainder a b ≡ int_rem a b
remainder_is a b = from (int_div a b *ℤ b) (int_rem a b) (quot-rem a b)
  where
    from : (q r : ℤ) → q +ℤ r ≡ a → a -ℤ q ≡ r
    from q r e = omega (arith, ints, e)

pub remainder_between : (l h a b : ℤ) → is_between l h (pos 0) ≡ true → is_between l h a ≡ true → is_between l h (value.remainder a b) ≡ true
remainder_between l h a b z e = ap (is_between l h) (remainder_is a b) ∙ by_sign a e
  where
    by_sign : (a : ℤ) → is_between l h a ≡ true → is_between l h (int_rem a b) ≡ true
    by_sign (pos n) e = between_zero l h _ n (mag_rem (pos n) b) z e
    by_sign (negsuc n) e = between_below l h _ (suc n) (mod_le (suc n) (nat_abs b)) z e
      where
        mod_le : (m d : ℕ) → m % d ≤ m
        mod_le m d = mag_rem (pos m) (pos d)

pub greater_between : (l h a b : ℤ) → is_between l h a ≡ true → is_between l h b ≡ true → is_between l h (value.greater a b) ≡ true
greater_between l h a b x y = pick (int_lt a b) refl
  where
    pick : (t : Bool) → int_lt a b ≡ t → is_between l h (value.greater a b) ≡ true
    pick true e = ap (λ (t : Bool). is_between l h (if t then b else a)) e ∙ y
    pick false e = ap (λ (t : Bool). is_between l h (if t then b else a)) e ∙ x

pub smaller_between : (l h a b : ℤ) → is_between l h a ≡ true → is_between l h b ≡ true → is_between l h (value.smaller a b) ≡ true
smaller_between l h a b x y = pick (int_lt b a) refl
  where
    pick : (t : Bool) → int_lt b a ≡ t → is_between l h (value.smaller a b) ≡ true
    pick true e = ap (λ (t : Bool). is_between l h (if t then b else a)) e ∙ y
    pick false e = ap (λ (t : Bool). is_between l h (if t then b else a)) e ∙ x

-- what is in range is not above the greatest
pub below_greatest : (l h z : ℤ) → is_between l h z ≡ true → int_le z h ≡ true
below_greatest l h z e = (both_parts (int_le l z) (int_le z h) e).1

-- a natural number that is not above the greatest
pub natural_between : (l h : ℤ) (n : ℕ) → is_between l h (pos 0) ≡ true → int_le (pos n) h ≡ true → is_between l h (pos n) ≡ true
natural_between l h n z e = both_hold (int_le l (pos n)) (int_le (pos n) h) (low (both_parts (int_le l (pos 0)) (int_le (pos 0) h) z).0) e
  where
    low : int_le l (pos 0) ≡ true → int_le l (pos n) ≡ true
    low a = grind (arith, ints)
