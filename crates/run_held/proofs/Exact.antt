-- What the model's parts come to.
use Rattle.std.proofs.Common.{◌≡◌, ℕ, zero, suc, Bool, true, false, cond, not, ◌-◌, refl, ap, ◌∙◌, arith}
use Rattle.std.specs.Prelude.{ℤ, pos, ◌*ℤ◌, pred, int_le, Result, Ok, Err}
use Rattle.formula.specs.Values.{is_between}
use Rattle.formula.specs.declared.value.Cell.{Cell}
use Rattle.formula.specs.declared.value.Cell.TheVariants.{Int}
use Rattle.fort_syntax.specs.declared.condition.Kind.{Kind}
use Rattle.fort_syntax.specs.declared.condition.Kind.TheVariants.{RangeCheck, DivisorCheck}
use Rattle.fort_syntax.specs.declared.dialect.BinOp.{BinOp}
use Rattle.fort_syntax.specs.declared.dialect.BinOp.TheVariants.{Add, Sub, Mul, Div}
use Rattle.fort_model.specs.declared.bounds.Bounds.{Bounds}
use Rattle.fort_model.specs.Cells.{num, same, arithmetic}
use Rattle.fort_model.specs.Evaluate as model
use Rattle.fort_model.specs.Outcome.{Outcome, Act, and_then, ◌>>◌, check, give}
use Rattle.fort_model.specs.Storage.{Storage}
use Rattle.run_held.specs.Sums.{Manner, came_to, processor_of, ranged_to, operated_to, with_number, power_to_on, SumsAreExact}

-- a check before a value
checked : (kind : Kind) (card : ℕ) (b : Bool) (c : Cell) (st : Storage) → (check kind card b >> give c) st 0 ≡ came_to (cond b (Ok c) (Err kind)) card st
checked kind card true c st = refl
checked kind card false c st = refl

-- a check that something is not so, before another part
unless : (kind : Kind) (card : ℕ) (b : Bool) (act : Act Cell) (r : Result Cell Kind) (st : Storage) → act st 0 ≡ came_to r card st
    → (check kind card (not b) >> act) st 0 ≡ came_to (cond b (Err kind) r) card st
unless kind card true act r st h = refl
unless kind card false act r st h = h

module _ (b : Bounds) (m : Manner) (card : ℕ) where
  ranges : (z : ℤ) (st : Storage) → model.ranged (processor_of b m) card z st 0 ≡ came_to (ranged_to b z) card st
  ranges z st = checked RangeCheck card (is_between b.least b.greatest z) (Int z) st

  operates : (o : BinOp) (v w : Cell) (st : Storage) → model.operate (processor_of b m) card o v w st 0 ≡ came_to (operated_to b o v w) card st
  operates Add v w st = ranges (arithmetic Add (num v) (num w)) st
  operates Sub v w st = ranges (arithmetic Sub (num v) (num w)) st
  operates Mul v w st = ranges (arithmetic Mul (num v) (num w)) st
  operates Div v w st = unless DivisorCheck card (same w (Int (pos 0))) (model.ranged (processor_of b m) card (arithmetic Div (num v) (num w))) _ st (ranges (arithmetic Div (num v) (num w)) st)

  then_number : (r : Result Cell Kind) (f : ℤ → Act Cell) (g : ℤ → Result Cell Kind) (st : Storage) → ((z : ℤ) → f z st 0 ≡ came_to (g z) card st)
      → and_then (came_to r card st) (λ c. f (num c)) ≡ came_to (with_number r g) card st
  then_number (Ok c) f g st h = h (num c)
  then_number (Err kind) f g st h = refl

  powers : (base : ℤ) (more : ℕ) (product : ℤ) (st : Storage) → model.power_on (processor_of b m) card base more product st 0 ≡ came_to (power_to_on b base more product) card st
  powers base zero product st = refl
  powers base (suc more) product st =
      ap (λ (o : Outcome Cell). and_then o (λ c. model.power_on (processor_of b m) card base more (num c))) (ranges (product *ℤ base) st)
      ∙ then_number (ranged_to b (product *ℤ base)) (model.power_on (processor_of b m) card base more) (power_to_on b base more) st (λ z. powers base more z st)

pub sums_are_exact : SumsAreExact
sums_are_exact = record {
  ranged = λ b m card z st. ranges b m card z st;
  constant = λ b m card c st. checked RangeCheck card (int_le (pos c) b.greatest) (Int (pos c)) st;
  operate = λ b m card o v w st. operates b m card o v w st;
  power = λ b m card base exponent st. powers b m card base (pred exponent) base st;
}

-- one product more, and one that is out of range
pub power_next : (b : Bounds) (base other : ℤ) (more : ℕ) (product : ℤ) (next : Cell) (z : ℤ) → (more ≡ 0 → ⊥) → other ≡ base → z ≡ num next → Ok next ≡ ranged_to b (product *ℤ base)
    → power_to_on b other (more - 1) z ≡ power_to_on b base more product
power_next b base other zero product next z some e f h = absurd (some refl)
power_next b base other (suc more) product next z some e f h =
    ap (λ k. power_to_on b other k z) (let same : suc more - 1 ≡ more = omega arith in same) ∙ ap (λ k. power_to_on b k more z) e ∙ ap (power_to_on b base more) f
    ∙ ap (λ r. with_number r (power_to_on b base more)) h

pub power_stops : (b : Bounds) (base : ℤ) (more : ℕ) (product : ℤ) (kind : Kind) → (more ≡ 0 → ⊥) → Err kind ≡ ranged_to b (product *ℤ base) → Err kind ≡ power_to_on b base more product
power_stops b base zero product kind some h = absurd (some refl)
power_stops b base (suc more) product kind some h = ap (λ r. with_number r (power_to_on b base more)) h
