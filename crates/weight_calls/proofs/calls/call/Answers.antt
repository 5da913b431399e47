use Rattle.std.proofs.Common.{ap, ◌∙◌}
use Rattle.weight_terms.specs.Held.{held}
use Rattle.weight_calls.specs.Calls.{ones_set}
use Rattle.weight_calls.proofs.CalledNames.{ones_so}
use Rattle.weight_calls.proofs.calls.call.Goals as goal

pub returns-clause-names : goal.returns-clause-names
returns-clause-names c =
    c.in-Ok-set_ones.ensures.names
    ∙ (ap (λ xs. ones_set xs (held c.args.names.now)) c.as_slice.ensures ∙ (ones_so c.in-Ok.smashed (held c.args.names.now) ∙ c.in-Ok.ensures.names))
