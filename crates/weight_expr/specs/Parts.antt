-- What expressions come to, one by one.
use Rattle.std.specs.Prelude.{ℕ}
use Rattle.fort_syntax.specs.declared.dialect.BinOp.{BinOp}
use Rattle.fort_syntax.specs.declared.expr.Expr.{Expr}
use Rattle.fort_model.specs.Seen.{Named}
use Rattle.fort_model.specs.WalkCalls.{Sight, Operand, Computed}
use Rattle.weight_tallies.specs.Tallied.{Tally, ◌>>=◌, tallied, next, pair}
use Rattle.weight_tallies.specs.Tallies.{operate, power, read, reckoned, value}

module _ (w : Sight ℕ) (now : Named ℕ) where
  -- in brackets, or with the sign +
  abbrev pub bracketed_part : Expr → Tally (Operand ℕ)
  bracketed_part e = reckoned (value w now e)

  abbrev pub negated_part : Expr → Tally (Operand ℕ)
  negated_part e = do
    n ← value w now e
    reckoned (read (next n))

  abbrev pub denied_part : Expr → Tally (Operand ℕ)
  denied_part e = do
    n ← value w now e
    tallied (Computed (next n))

  abbrev pub raised_part : ℕ → Expr → Tally (Operand ℕ)
  raised_part k e = do
    n ← value w now e
    reckoned (power n k)

  -- behind the weight of the first side
  abbrev pub joined_part : ℕ → Expr → Tally (Operand ℕ)
  joined_part n e = do
    m ← value w now e
    tallied (Computed (pair n m))

  abbrev pub operated_part : BinOp → ℕ → Expr → Tally (Operand ℕ)
  operated_part o n e = do
    m ← value w now e
    reckoned (operate o n m)
