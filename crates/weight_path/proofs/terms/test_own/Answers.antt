use Rattle.std.proofs.Common.{◌∙◌}
use Rattle.weight_caps.specs.Loads.{with_tests}
use Rattle.weight_terms.specs.Held.{held}
use Rattle.weight_terms.specs.Terms.{weights_told}
use Rattle.weight_path.proofs.terms.test_own.Goals as goal

pub returns : goal.returns
returns c = c.in-Ok.ensures ∙ (λ i. with_tests c.args.load.now (weights_told c.args.subject.now.pool.now (held (c.new-ones.ensures i)) (held c.args.names.now) c.args.ids.now))
