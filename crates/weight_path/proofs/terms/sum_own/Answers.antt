use Rattle.std.proofs.Common.{◌∙◌}
use Rattle.std.specs.Prelude.{sum}
use Rattle.weight_caps.specs.Capped.{capped}
use Rattle.weight_terms.specs.Held.{held}
use Rattle.weight_terms.specs.Terms.{weights_told}
use Rattle.weight_path.proofs.terms.sum_own.Goals as goal

pub returns : goal.returns
returns c = c.in-Ok.ensures ∙ (λ i. capped (sum (weights_told c.args.subject.now.pool.now (held (c.new-ones.ensures i)) (held c.args.names.now) c.args.ids.now)))
