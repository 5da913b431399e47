-- Numbers that a machine has.
use Rattle.std.proofs.Common.{◌≡◌, ℕ, zero, suc, ◌+◌, ◌*◌, ◌^◌, ◌<◌, ◌≤◌, Bool, true, false, cond, Option, Some, None, List, [], ◌∷◌, map, refl, sym, ap, ◌∙◌, arith}
use Rattle.std.specs.Prelude.{nat_lt, ◌==◌, max, sum}
use Rattle.std.proofs.Math.Nat.{le-max_left}
use Rattle.std.proofs.lemmas.List.Sums.{sum_by-cons}
use Rattle.run_start.specs.Counted.{number, plus_to, times_to, greater_to}
use Rattle.run_start.specs.Shapes.{sum_from, greatest_from}
use Rattle.run_start.specs.Starts.{greatest_of}

-- a number is one of the machine, or is not
pub below : (n : ℕ) → n < 2 ^ 64 → number n ≡ Some n
below n h = let t : nat_lt n (2 ^ 64) ≡ true = grind arith in ap (λ (b : Bool). cond b (Some n) None) t

pub above : (n : ℕ) → 2 ^ 64 ≤ n → number n ≡ None
above n h = let t : nat_lt n (2 ^ 64) ≡ false = grind arith in ap (λ (b : Bool). cond b (Some n) None) t

pub by_size : {C : Type 0} (n : ℕ) → (n < 2 ^ 64 → C) → (2 ^ 64 ≤ n → C) → C
by_size {C = C} n f g = by (nat_lt n (2 ^ 64)) refl
  where
    by : (b : Bool) → nat_lt n (2 ^ 64) ≡ b → C
    by true e = f (grind arith)
    by false e = g (grind arith)

pub is_below : (n m : ℕ) → number n ≡ Some m → (n ≡ m) × (n < 2 ^ 64)
is_below n m e =
    by_size n (λ h. let s : Some n ≡ Some m = sym (below n h) ∙ e in ((let t : n ≡ m = cc in t), h))
    (λ h. let s : None ≡ Some m = sym (above n h) ∙ e in absurd (cc))

pub is_above : (n : ℕ) → number n ≡ None → 2 ^ 64 ≤ n
is_above n e = by_size n (λ h. let s : Some n ≡ None = sym (below n h) ∙ e in absurd (cc)) (λ h. h)

-- ---- sums

pub plus_some : (v w : ℕ) → plus_to (number v) (Some w) ≡ number (v + w)
plus_some v w =
    by_size v (λ h. ap (λ (o : Option ℕ). plus_to o (Some w)) (below v h))
    (λ h. ap (λ (o : Option ℕ). plus_to o (Some w)) (above v h) ∙ sym (above (v + w) (let r : 2 ^ 64 ≤ v + w = omega arith in r)))

pub plus_number : (v w : ℕ) → plus_to (number v) (number w) ≡ number (v + w)
plus_number v w =
    by_size w (λ h. ap (plus_to (number v)) (below w h) ∙ plus_some v w)
    (λ h. ap (plus_to (number v)) (above w h) ∙ (none (number v) ∙ sym (above (v + w) (let r : 2 ^ 64 ≤ v + w = omega arith in r))))
  where
    none : (o : Option ℕ) → plus_to o None ≡ None
    none None = refl
    none (Some a) = refl

pub sum_number : {X : Type 0} (f : X → ℕ) (q : ℕ) (xs : List X) → sum_from (number q) (map (λ x. number (f x)) xs) ≡ number (q + sum (map f xs))
sum_number f q [] = let e : q ≡ q + 0 = omega arith in ap number e
sum_number f q (x ∷ xs) =
    let s : sum (f x ∷ map f xs) ≡ f x + sum (map f xs) = sum_by-cons (λ (y : ℕ). y) (f x) (map f xs) in
    let e : q + f x + sum (map f xs) ≡ q + sum (f x ∷ map f xs) = omega arith in
    ap (λ (o : Option ℕ). sum_from o (map (λ y. number (f y)) xs)) (plus_number q (f x)) ∙ (sum_number f (q + f x) xs ∙ ap number e)

-- ---- products

zero_or : {C : Type 0} (n : ℕ) → (n ≡ 0 → C) → (1 ≤ n → C) → C
zero_or zero f g = f refl
zero_or (suc n) f g = g (omega arith)

more_by : (v w : ℕ) → 1 ≤ w → v ≤ v * w
more_by v (suc w) h = grind arith
more_by v zero h = absurd (omega arith)

none_but : (w : ℕ) → 1 ≤ w → times_to None (Some w) ≡ None
none_but w h = let t : (w == 0) ≡ false = grind arith in ap (λ (b : Bool). cond b (Some 0) None) t

pub times_some : (v w : ℕ) → 1 ≤ w → times_to (number v) (Some w) ≡ number (v * w)
times_some v w one =
    by_size v (λ h. ap (λ (o : Option ℕ). times_to o (Some w)) (below v h))
    (λ h.
    let m : v ≤ v * w = more_by v w one in
    ap (λ (o : Option ℕ). times_to o (Some w)) (above v h) ∙ (none_but w one ∙ sym (above (v * w) (let r : 2 ^ 64 ≤ v * w = omega arith in r))))

-- a product with a number that is 1 at least, or that a machine has
pub times_number : (v w : ℕ) → 1 ≤ w → times_to (number v) (number w) ≡ number (v * w)
times_number v w one =
    by_size w (λ h. ap (times_to (number v)) (below w h) ∙ times_some v w one)
    (λ h. ap (times_to (number v)) (above w h) ∙ with_none h)
  where
    less_by : (a b : ℕ) → 1 ≤ a → b ≤ a * b
    less_by (suc a) b h = grind arith
    less_by zero b h = absurd (omega arith)

    zero_times : times_to (Some 0) None ≡ number (0 * w)
    zero_times = let e : 0 ≡ 0 * w = omega arith in sym (below 0 (grind arith)) ∙ ap number e

    with_none : 2 ^ 64 ≤ w → times_to (number v) None ≡ number (v * w)
    with_none h =
        zero_or v
        (λ z. ap (λ (n : ℕ). times_to (number n) None) z ∙ (ap (λ (o : Option ℕ). times_to o None) (below 0 (grind arith)) ∙ (zero_times ∙ ap (λ (n : ℕ). number (n * w)) (sym z))))
        (λ p.
        let m : w ≤ v * w = less_by v w p in
        by_size v
        (λ q. ap (λ (o : Option ℕ). times_to o None) (below v q) ∙ ((let t : (v == 0) ≡ false = grind arith in ap (λ (b : Bool). cond b (Some 0) None) t) ∙ sym (above (v * w) (let r : 2 ^ 64 ≤ v * w = omega arith in r))))
        (λ q. ap (λ (o : Option ℕ). times_to o None) (above v q) ∙ sym (above (v * w) (let r : 2 ^ 64 ≤ v * w = omega arith in r))))

-- a machine's number times any
pub times_fixed : (v w : ℕ) → times_to (number v) (Some w) ≡ number (v * w)
times_fixed v w = zero_or w (λ z. nothing z) (λ one. times_some v w one)
  where
    nothing : w ≡ 0 → times_to (number v) (Some w) ≡ number (v * w)
    nothing z =
        let e : v * 0 ≡ 0 = omega arith in
        by_size v
        (λ h. ap (λ (o : Option ℕ). times_to o (Some w)) (below v h))
        (λ h.
        ap (λ (o : Option ℕ). times_to o (Some w)) (above v h)
        ∙ (ap (λ (n : ℕ). times_to None (Some n)) z ∙ (sym (below 0 (grind arith)) ∙ (ap number (sym e) ∙ ap (λ (n : ℕ). number (v * n)) (sym z)))))

-- ---- the greatest

-- all numbers of some are those of a machine
abbrev pub AreBelow : {X : Type 0} → (X → ℕ) → List X → Type 0
AreBelow f [] = Unit {0}
AreBelow f (x ∷ xs) = (f x < 2 ^ 64) × AreBelow f xs

pub below_sum : {X : Type 0} (f : X → ℕ) (xs : List X) → sum (map f xs) < 2 ^ 64 → AreBelow f xs
below_sum f [] h = tt
below_sum f (x ∷ xs) h =
    let s : sum (f x ∷ map f xs) ≡ f x + sum (map f xs) = sum_by-cons (λ (y : ℕ). y) (f x) (map f xs) in
    ((let a : f x < 2 ^ 64 = omega arith in a), below_sum f xs (let b : sum (map f xs) < 2 ^ 64 = omega arith in b))

max_turn : (a b c : ℕ) → max (max a b) c ≡ max a (max b c)
max_turn a b c = grind arith

max_one : (a : ℕ) → 1 ≤ a → a ≡ max a 1
max_one a h = grind arith

pub greatest_number : {X : Type 0} (f : X → ℕ) (q : ℕ) (xs : List X) → 1 ≤ q → AreBelow f xs → greatest_from (Some q) (map (λ x. number (f x)) xs) ≡ Some (max q (greatest_of (map f xs)))
greatest_number f q [] one h = ap Some (max_one q one)
greatest_number f q (x ∷ xs) one h =
    let m : q ≤ max q (f x) = le-max_left q (f x) in
    ap (λ (o : Option ℕ). greatest_from (greater_to (Some q) o) (map (λ y. number (f y)) xs)) (below (f x) h.0)
    ∙ (greatest_number f (max q (f x)) xs (let r : 1 ≤ max q (f x) = omega arith in r) h.1 ∙ ap Some (max_turn q (f x) (greatest_of (map f xs))))
