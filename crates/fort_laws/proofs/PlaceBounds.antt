-- Elements lie in their arrays.
use Rattle.std.proofs.Common.{◌≡◌, ℕ, zero, suc, ◌+◌, ◌*◌, ◌<◌, ◌≤◌, true, ℤ, pos, negsuc, ◌+ℤ◌, ◌-ℤ◌, ◌*ℤ◌, List, [], ◌∷◌, refl, sym, ap, ◌∙◌, subst, arith, rules}
use Rattle.std.proofs.Math.IntN.{pos-+ℤ-pos, pos-*ℤ-pos, -ℤ_one}
use Rattle.formula.specs.Values.{is_between}
use Rattle.fort_model.specs.Places.{place, place_from, stretch, stretch_from}
use Rattle.fort_laws.specs.Places.{AreWithin, ElementsLieInArrays}

-- a subscript within its dimension: one more than a number that is less than it
pub record IsIndex (s d : ℤ) : Type 0 where
  pub before : ℕ
  pub size : ℕ
  pub subscript : s ≡ pos (suc before)
  pub dimension : d ≡ pos size
  pub less : before < size

pub index_of : (s d : ℤ) → is_between (pos 1) d s ≡ true → IsIndex s d
index_of (pos zero) d h = search rules
index_of (negsuc n) d h = search rules
index_of (pos (suc n)) (negsuc k) h = search rules
index_of (pos (suc n)) (pos k) h = record { before = n; size = k; subscript = refl; dimension = refl; less = search rules }

pub one_less : (n : ℕ) → pos (suc n) -ℤ pos 1 ≡ pos n
one_less n = -ℤ_one (pos (suc n))

-- the bounds that a step keeps
pub step_low : (p q c : ℕ) → 1 ≤ p → 1 ≤ p + q * c
step_low p q c h = omega arith

pub step_high : (p q c e : ℕ) → p ≤ q → c < e → p + q * c ≤ q * e
step_high p q c e h l = grind arith

-- a place from 1 to the number of elements
pub record LiesIn (place stretch : ℤ) : Type 0 where
  pub at : ℕ
  pub size : ℕ
  pub place_is : place ≡ pos at
  pub stretch_is : stretch ≡ pos size
  pub low : 1 ≤ at
  pub high : at ≤ size

on : (p q : ℕ) → 1 ≤ p → p ≤ q → (ss ds : List ℤ) → AreWithin ss ds → LiesIn (place_from (pos p) (pos q) ss ds) (stretch_from (pos q) ds)
on p q low high [] [] h = record { at = p; size = q; place_is = refl; stretch_is = refl; low = low; high = high }
on p q low high [] (d ∷ ds) h = absurd h
on p q low high (s ∷ ss) [] h = absurd h
on p q low high (s ∷ ss) (d ∷ ds) h =
    let i : IsIndex s d = index_of s d h.0 in
    let rec = on (p + q * i.before) (q * i.size) (step_low p q i.before low) (step_high p q i.before i.size high i.less) ss ds h.1 in
    let e : pos p +ℤ pos q *ℤ (s -ℤ pos 1) ≡ pos (p + q * i.before) =
    ap (λ (z : ℤ). pos p +ℤ pos q *ℤ (z -ℤ pos 1)) i.subscript ∙ ap (λ (z : ℤ). pos p +ℤ pos q *ℤ z) (one_less i.before) ∙ ap (λ (z : ℤ). pos p +ℤ z) (pos-*ℤ-pos q i.before) ∙ pos-+ℤ-pos p (q * i.before) in
    let f : pos q *ℤ d ≡ pos (q * i.size) = ap (λ (z : ℤ). pos q *ℤ z) i.dimension ∙ pos-*ℤ-pos q i.size in
    subst (λ (w : ℤ). LiesIn (place_from (pos p +ℤ pos q *ℤ (s -ℤ pos 1)) w ss ds) (stretch_from w ds)) (sym f)
    (subst (λ (z : ℤ). LiesIn (place_from z (pos (q * i.size)) ss ds) (stretch_from (pos (q * i.size)) ds)) (sym e) rec)

pub lies_in_array : (ss ds : List ℤ) → AreWithin ss ds → LiesIn (place ss ds) (stretch ds)
lies_in_array [] [] h = record { at = 1; size = 1; place_is = refl; stretch_is = refl; low = omega arith; high = omega arith }
lies_in_array [] (d ∷ ds) h = absurd h
lies_in_array (s ∷ ss) [] h = absurd h
lies_in_array (s ∷ ss) (d ∷ ds) h =
    let i : IsIndex s d = index_of s d h.0 in
    let less = i.less in
    subst (λ (w : ℤ). LiesIn (place_from s w ss ds) (stretch_from w ds)) (sym i.dimension)
    (subst (λ (z : ℤ). LiesIn (place_from z (pos i.size) ss ds) (stretch_from (pos i.size) ds)) (sym i.subscript)
    (on (suc i.before) i.size (omega arith) (omega arith) ss ds h.1))

as_test : (z w : ℤ) → LiesIn z w → is_between (pos 1) w z ≡ true
as_test z w h =
    subst (λ (x : ℤ). is_between (pos 1) w x ≡ true) (sym h.place_is)
    (subst (λ (x : ℤ). is_between (pos 1) x (pos h.at) ≡ true) (sym h.stretch_is) (numbers h.at h.size h.low h.high))
  where
    numbers : (n m : ℕ) → 1 ≤ n → n ≤ m → is_between (pos 1) (pos m) (pos n) ≡ true
    numbers n m l k = search rules

pub elements_lie_in_arrays : ElementsLieInArrays
elements_lie_in_arrays ss ds h = as_test (place ss ds) (stretch ds) (lies_in_array ss ds h)
