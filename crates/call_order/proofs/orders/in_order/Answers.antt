use Rattle.std.proofs.Common.{ℕ, ◌<◌, List, length, All, sym, subst, ◌∙◌}
use Rattle.digraph.specs.Graphs.{IsGraph}
use Rattle.digraph.specs.Orders.{IsOrder}
use Rattle.fort_model.specs.CallOrder.{IsCallOrder}
use Rattle.call_order.specs.CallGraphs.{call_graph}
use Rattle.call_order.proofs.Bridge.{is_graph, call_order_is, order_within, graph_within}
use Rattle.call_order.proofs.orders.in_order.Goals as goal

pub order-requires : goal.order-requires
order-requires c = subst IsGraph (sym c.requires.graph) (is_graph c.args.deck.now.units.now)

pub small_all-requires-clause-numbers : goal.small_all-requires-clause-numbers
small_all-requires-clause-numbers c =
    let units = c.args.deck.now.units.now in
    let items = c.in-Ok.order.items in
    let is : IsOrder (call_graph units) items = subst (λ (g : List (List ℕ)). IsOrder g items) c.requires.graph c.in-Ok.ensures in
    subst (λ (xs : List ℕ). All (λ n. n < length units) xs) (sym c.as_slice.ensures.value) (order_within units items is)

pub small_rows-requires-clause-numbers : goal.small_rows-requires-clause-numbers
small_rows-requires-clause-numbers c =
    let units = c.args.deck.now.units.now in
    subst (λ (g : List (List ℕ)). All (All (λ n. n < length units)) g) (sym c.requires.graph) (graph_within units)

pub returns : goal.returns
returns c =
    let units = c.args.deck.now.units.now in
    let items = c.in-Ok.order.items in
    let is : IsOrder (call_graph units) items = subst (λ (g : List (List ℕ)). IsOrder g items) c.requires.graph c.in-Ok.ensures in
    record {
      order = subst (IsCallOrder units) (sym (c.in-Ok-small_all.ensures ∙ c.as_slice.ensures.value))
          (call_order_is units items c.orders_tell_cycles.ensures c.requires.acyclic is);
      graph = c.in-Ok-small_rows.ensures ∙ c.requires.graph;
    }
