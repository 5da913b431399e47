-- What a part of a run comes to that reads a value from values, with no step taken.
use Rattle.std.specs.Prelude.{ℕ, zero, suc, pred, ◌≡◌, Bool, cond, ℤ, pos, ◌*ℤ◌, int_le, Result, Ok, Err}
use Rattle.formula.specs.Values.{is_between}
use Rattle.formula.specs.declared.value.Cell.TheVariants.{Int}
use Rattle.fort_syntax.specs.declared.condition.Kind.TheVariants.{RangeCheck, DivisorCheck}
use Rattle.fort_syntax.specs.declared.dialect.BinOp.{BinOp}
use Rattle.fort_syntax.specs.declared.dialect.BinOp.TheVariants.{Div}
use Rattle.fort_model.specs.Cells.{num, same, arithmetic}
use Rattle.fort_model.specs.Evaluate as model
use Rattle.formula.specs.declared.value.Cell.{Cell}
use Rattle.fort_syntax.specs.declared.condition.Kind.{Kind}
use Rattle.fort_syntax.specs.declared.dialect.Dialect.{Dialect}
use Rattle.fort_syntax.specs.declared.name.Name.{Name}
use Rattle.fort_model.specs.declared.bounds.Bounds.{Bounds}
use Rattle.fort_model.specs.Storage.{Storage}
use Rattle.fort_model.specs.Outcome.{Outcome, Ended, Erred}
use Rattle.fort_model.specs.Processor.{Processor}

-- a value, or an error of a kind, at a card
abbrev pub came_to : Result Cell Kind → ℕ → Storage → Outcome Cell
came_to (Ok c) card st = Ended c st 0
came_to (Err kind) card st = Erred kind card st

-- how a processor runs a deck, besides the integers that it has
pub record Manner : Type 0 where
  pub dialect : Dialect
  pub lazy : Bool
  pub copies : Name → ℕ → ℕ → Bool

-- the processor with these integers that runs decks so
abbrev pub processor_of : Bounds → Manner → Processor
processor_of b m = record { dialect = m.dialect; least = b.least; greatest = b.greatest; lazy = m.lazy; copies = m.copies }

-- ---- what operators make of values, or the kind of the error

-- a number must be one of the processor's integers
abbrev pub ranged_to : Bounds → ℤ → Result Cell Kind
ranged_to b z = cond (is_between b.least b.greatest z) (Ok (Int z)) (Err RangeCheck)

-- a constant must not be beyond them
abbrev pub constant_to : Bounds → ℕ → Result Cell Kind
constant_to b c = cond (int_le (pos c) b.greatest) (Ok (Int (pos c))) (Err RangeCheck)

-- + - * and /, whose divisor must not be 0
abbrev pub operated_to : Bounds → BinOp → Cell → Cell → Result Cell Kind
operated_to b Div v w = cond (same w (Int (pos 0))) (Err DivisorCheck) (ranged_to b (arithmetic Div (num v) (num w)))
operated_to b o v w = ranged_to b (arithmetic o (num v) (num w))

-- on with the number of a value, where there is one
abbrev pub with_number : Result Cell Kind → (ℤ → Result Cell Kind) → Result Cell Kind
with_number (Ok c) then = then (num c)
with_number (Err kind) then = Err kind

-- a product times a base so many times more
abbrev pub power_to_on : Bounds → ℤ → ℕ → ℤ → Result Cell Kind
power_to_on b base zero product = Ok (Int product)
power_to_on b base (suc more) product = with_number (ranged_to b (product *ℤ base)) (power_to_on b base more)

-- a power is a product of the base with itself, from the left
abbrev pub power_to : Bounds → ℤ → ℕ → Result Cell Kind
power_to b base exponent = power_to_on b base (pred exponent) base

-- the model's parts come to just that
pub record SumsAreExact : Type 0 where
  pub ranged : (b : Bounds) (m : Manner) (card : ℕ) (z : ℤ) (st : Storage)
      → model.ranged (processor_of b m) card z st 0 ≡ came_to (ranged_to b z) card st
  pub constant : (b : Bounds) (m : Manner) (card c : ℕ) (st : Storage)
      → model.constant (processor_of b m) card c st 0 ≡ came_to (constant_to b c) card st
  pub operate : (b : Bounds) (m : Manner) (card : ℕ) (o : BinOp) (v w : Cell) (st : Storage)
      → model.operate (processor_of b m) card o v w st 0 ≡ came_to (operated_to b o v w) card st
  pub power : (b : Bounds) (m : Manner) (card : ℕ) (base : ℤ) (exponent : ℕ) (st : Storage)
      → model.power (processor_of b m) card base exponent st 0 ≡ came_to (power_to b base exponent) card st
