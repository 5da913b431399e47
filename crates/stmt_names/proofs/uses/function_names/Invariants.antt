use Rattle.std.proofs.Common.{◌≡◌, ◌∷◌, take}
use Rattle.stmt_names.proofs.uses.function_names.Given as goal

abbrev pub invariant-loop-name : goal.invariant-loop-name
invariant-loop-name l = l.all.items ≡ l.fn.f ∷ take l.name-index l.dummies
