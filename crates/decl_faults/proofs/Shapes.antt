-- Products of dimensions.
use Rattle.std.proofs.Common.{◌≡◌, ◌≤◌, ◌*◌, ℕ, suc, zero, List, [], ◌∷◌, Bool, true, false, refl, ap, ◌∙◌, arith, rules}
use Rattle.std.proofs.Math.Nat.{mul_assoc, le-mul_of_pos_right}
use Rattle.std.specs.Prelude.{◌||◌, nat_lt, cond}
use Rattle.std.specs.List.{list_any}
use Rattle.fort_syntax.specs.declared.stmt.Dim.{Dim}
use Rattle.fort_syntax.specs.declared.stmt.Dim.TheVariants.{Fixed, Named}
use Rattle.fort_syntax.specs.NameRules.{is_zero_dim, fixed_size}
use Rattle.decl_faults.specs.Sizes.{passes}

either : (a b : Bool) → (a || b) ≡ false → b ≡ false
either true b h = search rules
either false b h = h

zero_is : (dims : List Dim) → list_any is_zero_dim (Fixed 0 ∷ dims) ≡ false → 1 ≤ fixed_size (Fixed 0 ∷ dims)
zero_is dims h = search rules

-- without a dimension of 0 there is an element at least
pub positive_size : (dims : List Dim) → list_any is_zero_dim dims ≡ false → 1 ≤ fixed_size dims
positive_size [] h = search rules
positive_size (Fixed zero ∷ dims) h = zero_is dims h
positive_size (Fixed (suc n) ∷ dims) h = grind (arith, positive_size dims (either (nat_lt (suc n) 1) (list_any is_zero_dim dims) h))
positive_size (Named x ∷ dims) h = positive_size dims h

over : (a b : ℕ) → a ≤ b → nat_lt 1000000 a ≡ true → true ≡ nat_lt 1000000 b
over a b le h = grind (arith, le, h)

under : (a : ℕ) → nat_lt 1000000 a ≡ false → a ≤ 1000000
under a h = grind (arith, h)

grown : (b : Bool) (size n : ℕ) (dims : List Dim) → nat_lt 1000000 (size * n) ≡ b → 1 ≤ fixed_size dims
    → ((more : ℕ) → more ≤ 1000000 → passes more dims ≡ nat_lt 1000000 (more * fixed_size dims))
    → cond b true (passes (size * n) dims) ≡ nat_lt 1000000 (size * (n * fixed_size dims))
grown true size n dims e some rest =
    over (size * n) (size * n * fixed_size dims) (le-mul_of_pos_right (size * n) some) e ∙ ap (nat_lt 1000000) (mul_assoc size n (fixed_size dims))
grown false size n dims e some rest = rest (size * n) (under (size * n) e) ∙ ap (nat_lt 1000000) (mul_assoc size n (fixed_size dims))

alone : (size : ℕ) → size ≤ 1000000 → false ≡ nat_lt 1000000 (size * 1)
alone size h = grind arith

one_times : (n : ℕ) → 1 * n ≡ n
one_times n = omega arith

-- without a dimension of 0 the product of the constant ones passes 1,000,000 where it does so somewhere
pub passes_is : (size : ℕ) (dims : List Dim) → size ≤ 1000000 → list_any is_zero_dim dims ≡ false
    → passes size dims ≡ nat_lt 1000000 (size * fixed_size dims)
passes_is size [] small h = alone size small
passes_is size (Fixed n ∷ dims) small h =
    let rest : list_any is_zero_dim dims ≡ false = either (nat_lt n 1) (list_any is_zero_dim dims) h in
    grown (nat_lt 1000000 (size * n)) size n dims refl (positive_size dims rest) (λ more le. passes_is more dims le rest)
passes_is size (Named x ∷ dims) small h = passes_is size dims small h

pub passes_from_one : (dims : List Dim) → list_any is_zero_dim dims ≡ false → passes 1 dims ≡ nat_lt 1000000 (fixed_size dims)
passes_from_one dims h = passes_is 1 dims (omega arith) h ∙ ap (nat_lt 1000000) (one_times (fixed_size dims))
