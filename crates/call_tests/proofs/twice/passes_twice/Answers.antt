use Rattle.std.proofs.Common.{ap, ◌∙◌}
use Rattle.std.specs.Prelude.{List}
use Rattle.formula.specs.Atoms.{is_among}
use Rattle.fort_syntax.specs.declared.name.Name.{Name}
use Rattle.fort_model.specs.CallRules.{some_smashed}
use Rattle.call_tests.specs.Bare.{bare_in}
use Rattle.call_tests.proofs.Elsewhere.{twice_elsewhere}
use Rattle.call_tests.proofs.twice.passes_twice.Goals as goal

pub returns : goal.returns
returns c =
    c.passes_bare.ensures
    ∙ (ap (λ (set : List Name). some_smashed (λ d. is_among d c.args.smashed.now) (λ n e. bare_in set e) 0 c.args.dummies.now c.args.actuals.now) c.in_ok-again.ensures
    ∙ twice_elsewhere (λ d. is_among d c.args.smashed.now) c.args.dummies.now c.args.actuals.now)
