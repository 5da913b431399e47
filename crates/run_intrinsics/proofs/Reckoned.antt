-- What the model's intrinsic functions come to.
use Rattle.std.proofs.Common.{◌≡◌, ℕ, Bool, true, false, cond, not, [], ◌∷◌, ℤ, ◌+ℤ◌, ◌-ℤ◌, ◌*ℤ◌, refl, arith}
use Rattle.std.specs.Prelude.{int_div, int_rem, pos, Ok, Err}
use Rattle.std.proofs.lemmas.Int.{quot-rem}
use Rattle.formula.specs.Values.{is_between, quotient, remainder}
use Rattle.formula.specs.declared.value.Cell.{Cell}
use Rattle.formula.specs.declared.value.Cell.TheVariants.{Int}
use Rattle.fort_syntax.specs.Names.{Absolute, Modulo, Greatest, Least}
use Rattle.fort_syntax.specs.declared.condition.Kind.{Kind}
use Rattle.fort_syntax.specs.declared.condition.Kind.TheVariants.{RangeCheck, DivisorCheck}
use Rattle.fort_model.specs.Cells.{num, same}
use Rattle.fort_model.specs.Outcome.{◌>>◌, check, give}
use Rattle.fort_model.specs.Storage.{Storage}
use Rattle.run_held.specs.Sums.{came_to, with_number}
use Rattle.run_intrinsics.specs.Intrinsics.{IntrinsicsAreExact}

left_from : (a p r : ℤ) → p +ℤ r ≡ a → r ≡ a -ℤ p
left_from a p r e = grind arith

pub remainder_is : (a b : ℤ) → int_rem a b ≡ remainder a b
remainder_is a b = left_from a (int_div a b *ℤ b) (int_rem a b) (quot-rem a b)

-- a check before a value
checked : (kind : Kind) (card : ℕ) (t : Bool) (c : Cell) (st : Storage) → (check kind card t >> give c) st 0 ≡ came_to (cond t (Ok c) (Err kind)) card st
checked kind card true c st = refl
checked kind card false c st = refl

-- two checks before a value, of which the second has one of its own
both_checked : (card : ℕ) (zero fits : Bool) (z : ℤ) (c : Cell) (st : Storage)
    → (check DivisorCheck card (not zero) >> ((check RangeCheck card fits >> give (Int z)) >> give c)) st 0
    ≡ came_to (with_number (cond zero (Err DivisorCheck) (cond fits (Ok (Int z)) (Err RangeCheck))) (λ _. Ok c)) card st
both_checked card true fits z c st = refl
both_checked card false true z c st = refl
both_checked card false false z c st = refl

pub exact : IntrinsicsAreExact
exact b m card Absolute [] st = refl
exact b m card Absolute (v ∷ []) st = checked RangeCheck card (is_between b.least b.greatest (pos _)) (Int (pos _)) st
exact b m card Absolute (v ∷ w ∷ cs) st = refl
exact b m card Modulo [] st = refl
exact b m card Modulo (v ∷ []) st = refl
exact b m card Modulo (v ∷ w ∷ []) st =
    both_checked card (same w (Int (pos 0))) (is_between b.least b.greatest (quotient (num v) (num w))) (quotient (num v) (num w)) (Int (remainder (num v) (num w))) st
exact b m card Modulo (v ∷ w ∷ c ∷ cs) st = refl
exact b m card Greatest [] st = refl
exact b m card Greatest (v ∷ cs) st = refl
exact b m card Least [] st = refl
exact b m card Least (v ∷ cs) st = refl
