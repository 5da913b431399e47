use Rattle.std.proofs.Common.{◌≡◌, ◌++◌, ℕ, List, drop}
use Rattle.formula.specs.Worth.{assigned}
use Rattle.try_lines.proofs.sheets.sheet_of.Given as goal

abbrev pub invariant-loop-i : goal.invariant-loop-i
invariant-loop-i l = (s : List ℕ) → assigned (l.sheet ++ drop l.i l.entries) s ≡ assigned l.entries s
