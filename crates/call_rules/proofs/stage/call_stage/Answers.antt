use Rattle.std.proofs.Common.{◌≡◌, sym, ◌∙◌}
use Rattle.fort_model.specs.Program.{Program}
use Rattle.fort_model.specs.Stages.{KeepsAll, rules_of_calls}
use Rattle.call_rules.specs.Stage.{AreCallsOrdered}
use Rattle.call_rules.proofs.StageTold.{if_ok}
use Rattle.call_rules.proofs.stage.call_stage.Goals as goal

pub returns-clause-kept : goal.returns-clause-kept
returns-clause-kept c =
    if_ok c.units_stage.result (λ found. AreCallsOrdered c.as_slice.result.now found.order found.callees)
    (λ found. (p : Program) → p.units ≡ c.args.deck.now.units → KeepsAll p rules_of_calls)
    (λ found h p same. h.kept p (same ∙ sym c.as_slice.ensures)) c.units_stage.ensures.ordered

pub returns-clause-broken : goal.returns-clause-broken
returns-clause-broken c = λ f e p same. c.units_stage.ensures.broken f e p (same ∙ sym c.as_slice.ensures)
