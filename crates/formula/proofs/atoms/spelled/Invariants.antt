use Rattle.formula.proofs.Digits.{Spells}
use Rattle.formula.proofs.atoms.spelled.Given as goal

-- the digits passed spell the number so far
abbrev pub invariant-loop-b : goal.invariant-loop-b
invariant-loop-b l = Spells l.figures l.b-index l.n
