-- Numbers of few digits.
use Rattle.std.proofs.Common.{◌≡◌, ℕ, zero, suc, ◌+◌, ◌-◌, ◌*◌, ◌^◌, ◌<◌, ◌≤◌, Bool, true, false, if◌then◌else◌, List, [], ◌∷◌, length, refl, arith}
use Rattle.std.specs.Prelude.{◌==◌, ◌&&◌}
use Rattle.std.specs.List.{list_all}
use Rattle.std.proofs.lemmas.Bool.Decides.{nat_tests}
use Rattle.formula.specs.Atoms.{starts, is_digit, is_digits, spelled_from, spelled, without_zeros, is_long}

at_most : (t : Bool) (xs ys : List ℕ) (n : ℕ) → length xs ≤ n → length ys ≤ n → length (if t then xs else ys) ≤ n
at_most true xs ys n h k = h
at_most false xs ys n h k = k

no_longer : (ds : List ℕ) → length (without_zeros ds) ≤ length ds
no_longer [] = omega arith
no_longer (b ∷ ds) = let h = no_longer ds in at_most (b == 48) (without_zeros ds) (b ∷ ds) _ (omega arith) (omega arith)

pub short_not_long : (ds : List ℕ) → length ds ≤ 18 → is_long ds ≡ false
short_not_long ds few = let h = no_longer ds in let short : length (without_zeros ds) ≤ 18 = omega arith in grind (arith, nat_tests)

pub few_not_long : (ds : List ℕ) → length ds ≤ 5 → is_long ds ≡ false
few_not_long ds few = short_not_long ds (omega arith)

both : (x y : Bool) → (x && y) ≡ true → (x ≡ true) × (y ≡ true)
both true y h = (refl, h)
both false y h = absurd cc

digit_most : (b : ℕ) → is_digit b ≡ true → b ≤ 57
digit_most b h = grind (arith, nat_tests)

-- so many nines behind a number
abbrev nines : ℕ → ℕ → ℕ
nines m zero = m
nines m (suc k) = nines (m * 10 + 9) k

below : (n m : ℕ) (ds : List ℕ) → n ≤ m → list_all is_digit ds ≡ true → spelled_from n ds ≤ nines m (length ds)
below n m [] le h = le
below n m (b ∷ ds) le h =
    let p = both (is_digit b) _ h in
    let most = digit_most b p.0 in
    below (n * 10 + (b - 48)) (m * 10 + 9) ds (omega arith) p.1

five_nines : (k : ℕ) → k ≤ 5 → nines 0 k ≤ 99999
five_nines zero le = omega arith
five_nines (suc zero) le = omega arith
five_nines (suc (suc zero)) le = omega arith
five_nines (suc (suc (suc zero))) le = omega arith
five_nines (suc (suc (suc (suc zero)))) le = omega arith
five_nines (suc (suc (suc (suc (suc zero))))) le = omega arith
five_nines (suc (suc (suc (suc (suc (suc k)))))) le = absurd (omega arith)

pub few_below : (ds : List ℕ) → is_digits ds ≡ true → length ds ≤ 5 → spelled ds < 10 ^ 5
few_below ds h few =
    let low : spelled ds ≤ nines 0 (length ds) = below 0 0 ds (let e : 0 ≤ 0 = omega arith in e) (both (starts is_digit ds) _ h).1 in
    let high = five_nines (length ds) few in
    omega arith

pub few_small : (ds : List ℕ) → is_digits ds ≡ true → length ds ≤ 5 → spelled ds < 2 ^ 32
few_small ds h few = let most = few_below ds h few in omega arith
