-- Tests and their parts.
use Rattle.std.proofs.Common.{◌≡◌, Bool, true, false, refl, sym, rules}
use Rattle.std.specs.Prelude.{◌&&◌, ◌||◌, not}

pub clash : {b : Bool} → b ≡ true → b ≡ false → ⊥
clash t f = cc

pub is_false : (b : Bool) → (b ≡ true → ⊥) → b ≡ false
is_false true h = absurd (h refl)
is_false false h = refl

-- a test is passed or not
pub case : {C : Type 0} (b : Bool) → (b ≡ true → C) → (b ≡ false → C) → C
case true f g = f refl
case false f g = g refl

pub first_true : (a b : Bool) → (a && b) ≡ true → a ≡ true
first_true true b h = refl
first_true false b h = search rules

pub second_true : (a b : Bool) → (a && b) ≡ true → b ≡ true
second_true true b h = h
second_true false b h = search rules

pub both_true : {a b : Bool} → a ≡ true → b ≡ true → (a && b) ≡ true
both_true {a = true} e h = h
both_true {a = false} e h = search rules

pub first_false : (a b : Bool) → (a || b) ≡ false → a ≡ false
first_false true b h = search rules
first_false false b h = refl

pub second_false : (a b : Bool) → (a || b) ≡ false → b ≡ false
second_false true b h = search rules
second_false false b h = h

pub both_false : {a b : Bool} → a ≡ false → b ≡ false → (a || b) ≡ false
both_false {a = true} e h = search rules
both_false {a = false} e h = h

pub left_true : (a b : Bool) → a ≡ true → (a || b) ≡ true
left_true true b h = refl
left_true false b h = search rules

pub right_true : (a b : Bool) → b ≡ true → (a || b) ≡ true
right_true true b h = refl
right_true false b h = h

-- of two tests that are not both passed, one that is passed
pub other_false : (a b : Bool) → (a && b) ≡ false → a ≡ true → b ≡ false
other_false true b h e = h
other_false false b h e = search rules

pub not_false : {b : Bool} → b ≡ false → not b ≡ true
not_false {b = true} h = search rules
not_false {b = false} h = refl

pub not_true : {b : Bool} → b ≡ true → not b ≡ false
not_true {b = true} h = refl
not_true {b = false} h = search rules

pub of_not_true : {b : Bool} → not b ≡ true → b ≡ false
of_not_true {b = true} h = search rules
of_not_true {b = false} h = refl

pub of_not_false : {b : Bool} → not b ≡ false → b ≡ true
of_not_false {b = true} h = refl
of_not_false {b = false} h = search rules

-- two tests that imply each other
pub same_test : {a b : Bool} → (a ≡ true → b ≡ true) → (b ≡ true → a ≡ true) → a ≡ b
same_test {a = true} h k = sym (h refl)
same_test {a = false} {b = true} h k = k refl
same_test {a = false} {b = false} h k = refl

pub and_same : {a b c e : Bool} → a ≡ b → c ≡ e → (a && c) ≡ (b && e)
and_same p q = λ i. p i && q i

pub and_assoc : (a b c : Bool) → (a && (b && c)) ≡ ((a && b) && c)
and_assoc true b c = refl
and_assoc false b c = refl

pub six_false : (a b c d e f : Bool) → (a || b || c || d || e || f) ≡ false
    → (a ≡ false) × (b ≡ false) × (c ≡ false) × (d ≡ false) × (e ≡ false) × (f ≡ false)
six_false a b c d e f h =
    let five = first_false (a || b || c || d || e) f h in
    let four = first_false (a || b || c || d) e five in
    let three = first_false (a || b || c) d four in
    let two = first_false (a || b) c three in (
      first_false a b two,
      second_false a b two,
      second_false (a || b) c three,
      second_false (a || b || c) d four,
      second_false (a || b || c || d) e five,
      second_false (a || b || c || d || e) f h,
    )

pub three_false : (a b c : Bool) → (a || b || c) ≡ false → (a ≡ false) × (b ≡ false) × (c ≡ false)
three_false a b c h =
    let two = first_false (a || b) c h in (first_false a b two, second_false a b two, second_false (a || b) c h)
