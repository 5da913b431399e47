-- Clocks fall only so often.
use Rattle.std.proofs.Common.{◌≡◌, ℕ, zero, suc, Bool, true, false, ◌&&◌, ◌||◌, ℤ, pos, negsuc, int_lt, int_le, nat_abs, List, [], ◌∷◌, refl, sym, ap, ◌∙◌, subst, arith}
use Rattle.std.proofs.lemmas.Int.{ints}
use Rattle.fort_laws.specs.Clocks.{are_below, IsClock, FallsOnlySoOften, so_often, ClocksFallOnlySoOften}
use Rattle.fort_laws.proofs.Near.{known}

both_left : (b c : Bool) → (b && c) ≡ true → b ≡ true
both_left true c h = refl
both_left false c h = h

both_right : (b c : Bool) → (b && c) ≡ true → c ≡ true
both_right true c h = h
both_right false c h = absurd (grind arith)

under : (z : ℤ) → int_lt z (pos (suc (nat_abs z))) ≡ true
under (pos n) = grind (arith, ints)
under (negsuc n) = grind (arith, ints)

none_under : (z : ℤ) → int_le (pos 0) z ≡ true → int_lt z (pos 0) ≡ true → ⊥
none_under z h k = grind (arith, ints)

closer : (n o : ℤ) (b : ℕ) → int_lt n o ≡ true → int_lt o (pos (suc b)) ≡ true → int_lt n (pos b) ≡ true
closer n o b h k = grind (arith, ints)

same_part : (n o : ℤ) → int_lt n o ≡ false → int_le n o ≡ true → n ≡ o
same_part n o h k = grind (arith, ints)

-- a property of clocks of so many parts that holds of each one where it holds of all below
abbrev Step : ℕ → (List ℤ → Type 0) → Type 0
Step parts P = (os : List ℤ) → IsClock parts os → ((ns : List ℤ) → IsClock parts ns → are_below ns os ≡ true → P ns) → P os

abbrev Induction : ℕ → Type 1
Induction parts = (P : List ℤ → Type 0) → Step parts P → (os : List ℤ) → IsClock parts os → P os

first_below : (parts : ℕ) → Induction parts → (P : List ℤ → Type 0) → Step (suc parts) P → (b : ℕ) (o : ℤ) → int_le (pos 0) o ≡ true → int_lt o (pos b) ≡ true → (os : List ℤ) → IsClock parts os → P (o ∷ os)
first_below parts ind P step zero o y lt os c = absurd (none_under o y lt)
first_below parts ind P step (suc b) o y lt os c =
    ind (λ xs. P (o ∷ xs)) (λ xs cx ih. step (o ∷ xs) (ap suc cx.0, (y, cx.1)) (fallen xs ih (λ n yn ln ns cn. first_below parts ind P step b n yn ln ns cn))) os c
  where
    fallen : (xs : List ℤ) → ((ns : List ℤ) → IsClock parts ns → are_below ns xs ≡ true → P (o ∷ ns)) → ((n : ℤ) → int_le (pos 0) n ≡ true → int_lt n (pos b) ≡ true → (ns : List ℤ) → IsClock parts ns → P (n ∷ ns)) → (ns : List ℤ) → IsClock (suc parts) ns → are_below ns (o ∷ xs) ≡ true → P ns
    fallen xs ih less [] cn f = absurd (grind arith)
    fallen xs ih less (n ∷ ns) cn f =
        let rest : IsClock parts ns = (omega (arith, cn.0), cn.1.1) in
        known (int_lt n o)
        (λ e. less n cn.1.0 (closer n o b e lt) ns rest)
        (λ e. let g : (int_le n o && are_below ns xs) ≡ true = ap (λ t. t || (int_le n o && are_below ns xs)) (sym e) ∙ f in
        subst (λ z. P (z ∷ ns)) (sym (same_part n o e (both_left (int_le n o) (are_below ns xs) g))) (ih ns rest (both_right (int_le n o) (are_below ns xs) g)))

induction : (parts : ℕ) → Induction parts
induction zero P step [] c = step [] c (λ ns cn f. absurd (nothing_below ns f))
  where
    nothing_below : (ns : List ℤ) → are_below ns [] ≡ true → ⊥
    nothing_below [] f = grind arith
    nothing_below (n ∷ ns) f = grind arith
induction zero P step (o ∷ os) c = absurd (omega (arith, c.0))
induction (suc parts) P step [] c = absurd (omega (arith, c.0))
induction (suc parts) P step (o ∷ os) c = first_below parts (λ Q s zs cz. induction parts Q s zs cz) P step (suc (nat_abs o)) o c.1.0 (under o) os (omega (arith, c.0), c.1.1)

pub clocks_fall_only_so_often : ClocksFallOnlySoOften
clocks_fall_only_so_often parts os c = induction parts (FallsOnlySoOften parts) (λ zs cz h. so_often h) os c
