use Rattle.std.proofs.Common.{ℕ, List, sym, subst, ◌∙◌}
use Rattle.std.specs.Prelude.{Some, None}
use Rattle.digraph.specs.Graphs.{IsGraph, IsLeastOnCycle}
use Rattle.call_order.proofs.Bridge.{is_graph, first_recursive}
use Rattle.call_order.proofs.orders.call_order.Goals as goal

pub least_on_cycle-requires : goal.least_on_cycle-requires
least_on_cycle-requires c = subst IsGraph (sym (c.as_slice.ensures.value ∙ c.in-Ok.ensures)) (is_graph c.args.deck.now.units.now)

pub returns-in-Some : goal.returns-in-Some
returns-in-Some c =
    first_recursive c.args.deck.now.units.now (Some c.in-Some.number)
    (subst (λ (g : List (List ℕ)). IsLeastOnCycle g (Some c.in-Some.number)) (c.as_slice.ensures.value ∙ c.in-Ok.ensures)
    (subst (IsLeastOnCycle c.as_slice.result.now) c.in-Some.is c.in-Ok-least_on_cycle.ensures))

pub acyclic-requires-clause-acyclic : goal.acyclic-requires-clause-acyclic
acyclic-requires-clause-acyclic c =
    first_recursive c.args.deck.now.units.now None
    (subst (λ (g : List (List ℕ)). IsLeastOnCycle g None) (c.as_slice.ensures.value ∙ c.in-Ok.ensures)
    (subst (IsLeastOnCycle c.as_slice.result.now) c.in-None.is c.in-Ok-least_on_cycle.ensures))
