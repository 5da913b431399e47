-- Numbers of few digits.
use Rattle.std.proofs.Common.{◌≡◌, ◌≤◌, ℕ, Bool, true, false, if◌then◌else◌, List, [], ◌∷◌, length, refl, arith}
use Rattle.std.proofs.lemmas.Bool.Decides.{nat_tests}
use Rattle.std.specs.Prelude.{◌==◌, ◌&&◌, nat_le}
use Rattle.formula.specs.Atoms.{is_digits, is_long, without_zeros}
use Rattle.vcg_top.specs.Commands.{is_number}

shorter : (t : Bool) (xs : List ℕ) (b : ℕ) (ds : List ℕ) (k : ℕ) → length xs ≤ k → length (b ∷ ds) ≤ k → length (if t then xs else b ∷ ds) ≤ k
shorter true xs b ds k h j = h
shorter false xs b ds k h j = j

fewer : (ds : List ℕ) (k : ℕ) → length ds ≤ k → length (without_zeros ds) ≤ k
fewer [] k h = h
fewer (b ∷ ds) k h = shorter (b == 48) (without_zeros ds) b ds k (fewer ds k (omega arith)) h

pub short_digits : (ds : List ℕ) → length ds ≤ 18 → is_long ds ≡ false
short_digits ds h = let few : length (without_zeros ds) ≤ 18 = fewer ds 18 h in grind (arith, nat_tests)

both : (a b : Bool) → (a && b) ≡ true → (a ≡ true) × (b ≡ true)
both true b h = (refl, h)
both false b h = absurd cc

pub number_parts : (w : List ℕ) → is_number w ≡ true → (is_digits w ≡ true) × (is_long w ≡ false)
number_parts w h =
    let parts = both (is_digits w) (nat_le (length w) 18) h in
    let few : length w ≤ 18 = let test = parts.1 in grind (arith, nat_tests) in
    (parts.0, short_digits w few)
