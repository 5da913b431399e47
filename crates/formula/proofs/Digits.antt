-- Digits and the numbers that they spell.
use Rattle.std.proofs.Common.{◌≡◌, ℕ, zero, suc, ◌+◌, ◌-◌, ◌*◌, ◌^◌, ◌<◌, ◌≤◌, Bool, true, false, if◌then◌else◌, List, [], ◌∷◌, ◌++◌, length, get_or, take, refl, sym, ap, ◌∙◌, arith}
use Rattle.std.specs.Prelude.{◌==◌, ◌&&◌}
use Rattle.std.specs.List.{list_all}
use Rattle.std.proofs.Math.Seq.{take-suc, take-length}
use Rattle.std.proofs.Math.Nat.{pow-suc}
use Rattle.std.proofs.lemmas.Bool.Decides.{nat_tests}
use Rattle.formula.specs.Atoms.{is_digit, is_digits, spelled_from, spelled, without_zeros, is_long}

-- a zero in front counts for nothing
zero_first : (t : Bool) (b : ℕ) (ds : List ℕ) → (b == 48) ≡ t → spelled (without_zeros ds) ≡ spelled ds → spelled (if t then without_zeros ds else b ∷ ds) ≡ spelled (b ∷ ds)
zero_first false b ds e h = refl
zero_first true b ds e h =
    let same : b ≡ 48 = grind (arith, nat_tests) in
    h ∙ ap (λ n. spelled (n ∷ ds)) (sym same)

spelled-without_zeros : (ds : List ℕ) → spelled (without_zeros ds) ≡ spelled ds
spelled-without_zeros [] = refl
spelled-without_zeros (b ∷ ds) = zero_first (b == 48) b ds refl (spelled-without_zeros ds)

all_rest : (x y : Bool) → (x && y) ≡ true → y ≡ true
all_rest true y h = h
all_rest false y h = cc

all_first : (x y : Bool) → (x && y) ≡ true → x ≡ true
all_first true y h = refl
all_first false y h = cc

either : (P : List ℕ → Type 0) (t : Bool) (xs ys : List ℕ) → P xs → P ys → P (if t then xs else ys)
either P true xs ys h k = h
either P false xs ys h k = k

all_without_zeros : (ds : List ℕ) → list_all is_digit ds ≡ true → list_all is_digit (without_zeros ds) ≡ true
all_without_zeros [] h = refl
all_without_zeros (b ∷ ds) h =
    either (λ xs. list_all is_digit xs ≡ true) (b == 48) (without_zeros ds) (b ∷ ds) (all_without_zeros ds (all_rest (is_digit b) _ h)) h

spelled_from-append : (n : ℕ) (xs ys : List ℕ) → spelled_from n (xs ++ ys) ≡ spelled_from (spelled_from n xs) ys
spelled_from-append n [] ys = refl
spelled_from-append n (x ∷ xs) ys = spelled_from-append (n * 10 + (x - 48)) xs ys

-- one digit more
spelled-more : (xs : List ℕ) (i : ℕ) → i < length xs → spelled (take (i + 1) xs) ≡ spelled (take i xs) * 10 + (get_or xs i 0 - 48)
spelled-more xs i lt =
    let next : suc i ≡ i + 1 = omega arith in
    ap (λ k. spelled (take k xs)) (sym next) ∙ ap spelled (take-suc xs i 0 lt) ∙ spelled_from-append 0 (take i xs) (get_or xs i 0 ∷ [])

digit_at : (xs : List ℕ) (i : ℕ) → list_all is_digit xs ≡ true → i < length xs → is_digit (get_or xs i 0) ≡ true
digit_at [] i h lt = absurd (omega arith)
digit_at (b ∷ xs) zero h lt = all_first (is_digit b) _ h
digit_at (b ∷ xs) (suc i) h lt = digit_at xs i (all_rest (is_digit b) _ h) (omega arith)

digit_range : (b : ℕ) → is_digit b ≡ true → (48 ≤ b) × (b ≤ 57)
digit_range b h = (grind (arith, nat_tests), grind (arith, nat_tests))

ten_some : (j : ℕ) → 1 ≤ 10 ^ j
ten_some zero = omega arith
ten_some (suc j) = let h = ten_some j in let e = pow-suc 10 j in omega arith

ten_more : (i j : ℕ) → i ≤ j → 10 ^ i ≤ 10 ^ j
ten_more zero j le = ten_some j
ten_more (suc i) zero le = absurd (omega arith)
ten_more (suc i) (suc j) le = let h = ten_more i j (omega arith) in let e = pow-suc 10 i in let f = pow-suc 10 j in omega arith

-- what a number is after some of the digits
pub record Spells (figures : List ℕ) (i n : ℕ) : Type 0 where
  pub so_far : n ≡ spelled (take i figures)
  pub small : n < 10 ^ i

-- with one digit more
pub one_more : (figures : List ℕ) (i n : ℕ) → list_all is_digit figures ≡ true → i < length figures → length figures ≤ 18 → Spells figures i n
    → (n < 10 ^ 17) × (48 ≤ get_or figures i 0) × (get_or figures i 0 ≤ 57) × Spells figures (i + 1) (n * 10 + (get_or figures i 0 - 48))
one_more figures i n all lt short h =
    let b = get_or figures i 0 in
    let r = digit_range b (digit_at figures i all lt) in
    let most : 10 ^ i ≤ 10 ^ 17 = ten_more i 17 (omega arith) in
    let next : 10 ^ (i + 1) ≡ 10 ^ i * 10 = ap (λ k. 10 ^ k) (let e : i + 1 ≡ suc i = omega arith in e) ∙ pow-suc 10 i in
    let small = h.small in (
      omega arith,
      r.0,
      r.1,
      record {
        so_far = ap (λ k. k * 10 + (b - 48)) h.so_far ∙ sym (spelled-more figures i lt);
        small = let low = r.0 in let high = r.1 in omega arith;
      },
    )

-- the figures of digits
pub figures_all : (ds figures : List ℕ) → figures ≡ without_zeros ds → is_digits ds ≡ true → list_all is_digit figures ≡ true
figures_all ds figures e h = ap (list_all is_digit) e ∙ all_without_zeros ds (all_rest _ _ h)

pub figures_spell : (ds figures : List ℕ) (n : ℕ) → figures ≡ without_zeros ds → length figures ≤ 18 → Spells figures (length figures) n → (n ≡ spelled ds) × (n < 10 ^ 18)
figures_spell ds figures n e short h =
    let most : 10 ^ length figures ≤ 10 ^ 18 = ten_more _ 18 short in
    let small = h.small in
    (h.so_far ∙ ap spelled (take-length figures ∙ e) ∙ spelled-without_zeros ds, omega arith)

pub figures_short : (ds figures : List ℕ) → figures ≡ without_zeros ds → is_long ds ≡ false → length figures ≤ 18
figures_short ds figures e h =
    let same = ap length e in
    let few : length (without_zeros ds) ≤ 18 = grind (arith, nat_tests) in
    omega arith

-- ---- digits without a loop

spells_all : (figures : List ℕ) (i : ℕ) → list_all is_digit figures ≡ true → length figures ≤ 18 → i ≤ length figures → Spells figures i (spelled (take i figures))
spells_all figures zero all short le = record { so_far = refl; small = omega arith }
spells_all figures (suc i) all short le =
    let h = one_more figures i (spelled (take i figures)) all (omega arith) short (spells_all figures i all short (omega arith)) in
    let next : suc i ≡ i + 1 = omega arith in
    let s = h.3 in
    record { so_far = refl; small = let small = s.small in let same = s.so_far in let e = ap (λ k. spelled (take k figures)) next in let p = ap (λ k. 10 ^ k) next in omega arith }

-- at most 18 digits after the leading zeros spell a number below 10^18
pub short_number : (ds : List ℕ) → is_digits ds ≡ true → is_long ds ≡ false → spelled ds < 10 ^ 18
short_number ds digits short =
    let figures = without_zeros ds in
    let few = figures_short ds figures refl short in
    let all = figures_all ds figures refl digits in
    let h = figures_spell ds figures (spelled (take (length figures) figures)) refl few (spells_all figures (length figures) all few (omega arith)) in
    let same = h.0 in
    let small = h.1 in
    omega arith
