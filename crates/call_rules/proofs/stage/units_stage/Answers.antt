use Rattle.std.proofs.Common.{◌≡◌, subst}
use Rattle.fort_model.specs.Stages.{IsFirstBroken, rules_of_calls}
use Rattle.fort_syntax.specs.declared.refusal.Fault.{Fault}
use Rattle.call_rules.proofs.StageTold.{stage_fault, stage_ordered, stage_recursive}
use Rattle.call_rules.proofs.stage.units_stage.Goals as goal

pub returns-in-Some-clause-broken : goal.returns-in-Some-clause-broken
returns-in-Some-clause-broken c = λ f e p same.
    let is : c.in-Some.fault ≡ f = cc (e) in
    subst (λ (x : Fault). IsFirstBroken p rules_of_calls x) is
    (stage_fault c.args.units.now c.in-Ok.deck.units.now c.in-Ok-call_order.found c.recursive_of.result c.in-Ok-call_fault.fault c.in-Some.fault
    c.in-Ok.ensures c.requires c.in-Ok-call_order.ensures c.recursive_of.ensures c.in-Ok-call_fault.ensures c.in-Some.is p same)

pub unreachable-requires : goal.unreachable-requires
unreachable-requires c =
    stage_recursive c.args.units.now c.in-Ok.deck.units.now c.in-Ok-call_order.found c.recursive_of.result c.in-Ok-call_fault.fault c.in-Recursive.field-0
    c.in-Ok.ensures c.requires c.in-Ok-call_order.ensures c.recursive_of.ensures c.in-Ok-call_fault.ensures c.in_default-fault.is c.in-Recursive.is

pub returns-clause-ordered : goal.returns-clause-ordered
returns-clause-ordered c =
    stage_ordered c.args.units.now c.in-Ok.deck.units.now c.in-Ok-call_order.found c.recursive_of.result c.in-Ok-call_fault.fault c.in-Acyclic.ordered
    c.in-Ok.ensures c.requires c.in-Ok-call_order.ensures c.recursive_of.ensures c.in-Ok-call_fault.ensures c.in_default-fault.is c.in-Acyclic.is
