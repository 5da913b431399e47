-- Expressions of a list, one after another.
use Rattle.std.specs.Prelude.{ℕ, List, [], ◌∷◌}
use Rattle.fort_syntax.specs.declared.expr.Expr.{Expr}
use Rattle.fort_model.specs.Seen.{Named}
use Rattle.fort_model.specs.WalkCalls.{Sight, Operand}
use Rattle.weight_tallies.specs.Tallied.{Tally, ◌>>=◌, tallied}
use Rattle.weight_tallies.specs.Tallies.{operand, value}

abbrev pub values_listed : Sight ℕ → Named ℕ → List Expr → Tally (List ℕ)
values_listed w now [] = tallied []
values_listed w now (e ∷ es) = do
  n ← value w now e
  ns ← values_listed w now es
  tallied (n ∷ ns)

abbrev pub operands_listed : Sight ℕ → Named ℕ → List Expr → Tally (List (Operand ℕ))
operands_listed w now [] = tallied []
operands_listed w now (e ∷ es) = do
  x ← operand w now e
  xs ← operands_listed w now es
  tallied (x ∷ xs)
