use Rattle.std.proofs.Common.{◌≡◌, ◌++◌, drop}
use Rattle.formula.specs.Atoms.{is_among}
use Rattle.call_hits.specs.Hits.{actual_hits}
use Rattle.call_hits.proofs.hits.push_actuals.Given as goal

abbrev pub invariant-loop-i : goal.invariant-loop-i
invariant-loop-i l =
    (l.all.items ++ actual_hits (λ x. is_among x l.smashed) (drop l.i l.dummies) (drop l.i l.bare))
    ≡ (l.initial.all.items ++ actual_hits (λ x. is_among x l.smashed) l.dummies l.bare)
