use Rattle.std.proofs.Common.{ap, ◌∙◌}
use Rattle.fort_model.specs.WalkStmt.{with_name}
use Rattle.weight_terms.specs.Held.{held}
use Rattle.weight_stmt.specs.Turns.{weight_behind}
use Rattle.weight_stmt.proofs.turns.turn.Goals as goal

pub returns-clause-names : goal.returns-clause-names
returns-clause-names c at =
    c.in-Ok.ensures.weights
    ∙ ap (with_name (held c.args.names.now) c.args.found.now.variable)
    (c.weight_behind-weight.ensures ∙ ap (weight_behind c.args.subject.now.scene.now.dialect c.args.choice) (c.loop_tested-sum.ensures.value at))
