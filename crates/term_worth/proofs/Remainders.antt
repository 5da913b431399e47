-- What a division leaves.
use Rattle.std.proofs.Common.{◌≡◌, ℤ, ◌+ℤ◌, ◌-ℤ◌, ◌*ℤ◌, arith}
use Rattle.std.specs.Prelude.{int_div, int_rem}
use Rattle.std.proofs.lemmas.Int.{quot-rem}
use Rattle.formula.specs.Values.{remainder}

left_over : (a p r : ℤ) → p +ℤ r ≡ a → r ≡ a -ℤ p
left_over a p r e = grind arith

pub remainder_is : (a b : ℤ) → int_rem a b ≡ remainder a b
remainder_is a b = left_over a (int_div a b *ℤ b) (int_rem a b) (quot-rem a b)
