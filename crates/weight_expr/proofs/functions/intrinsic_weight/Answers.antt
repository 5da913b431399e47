use Rattle.std.specs.Prelude.{ℕ}
use Rattle.std.proofs.Common.{sym, ap, ◌∙◌}
use Rattle.weight_expr.specs.Applied.{meaning}
use Rattle.weight_tallies.specs.Tallied.{Tallied}
use Rattle.weight_tallies.specs.Tallies as tally
use Rattle.weight_expr.proofs.functions.intrinsic_weight.Goals as goal

pub returns-in-Greatest-clause-value : goal.returns-in-Greatest-clause-value
returns-in-Greatest-clause-value c =
    sym (ap (λ (s : Tallied ℕ). s.value) (c.greatest.ensures c.args.load.now).0) ∙ sym (ap (λ f. (tally.intrinsic_weight (meaning f) c.args.weights.now c.args.load.now).value) c.in-Greatest.is)

pub returns-in-Least-clause-value : goal.returns-in-Least-clause-value
returns-in-Least-clause-value c =
    sym (ap (λ (s : Tallied ℕ). s.value) (c.greatest-in-Least.ensures c.args.load.now).1) ∙ sym (ap (λ f. (tally.intrinsic_weight (meaning f) c.args.weights.now c.args.load.now).value) c.in-Least.is)
