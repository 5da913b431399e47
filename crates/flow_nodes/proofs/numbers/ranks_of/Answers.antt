use Rattle.std.proofs.Common.{ℕ, List, ◌≤◌, ◌≡◌, length, take, reverse, sym, ap, subst, ◌∙◌, arith}
use Rattle.digraph.proofs.Numbers.{order_inside, ranks_grow}
use Rattle.flow_nodes.specs.Cycles.{AreNumbers}
use Rattle.flow_nodes.proofs.Ranks.{order_short, are_numbers}
use Rattle.flow_nodes.proofs.numbers.ranks_of.Goals as goal

pub numbered-requires-clause-inside : goal.numbered-requires-clause-inside
numbered-requires-clause-inside c = order_inside c.args.graph.now c.in_ok-order.order.items c.in_ok-order.ensures

pub numbered-requires-clause-few : goal.numbered-requires-clause-few
numbered-requires-clause-few c =
    let short = order_short c.args.graph.now c.in_ok-order.order.items c.in_ok-order.ensures in
    let few = c.requires.few in
    omega (arith, short, few)

pub first-requires : goal.first-requires
first-requires c =
    let grown = ranks_grow c.args.graph.now c.in_ok-order.order.items c.requires.graph c.requires.acyclic c.in_ok-order.ensures
    c.in_ok-ranks.ranks.items c.in_ok-ranks.ensures in
    let long = ap (λ (xs : List ℕ). length xs) c.as_slice.ensures.value ∙ grown.0 in
    let fits = c.requires.size in
    omega (arith, long, fits)

pub returns : goal.returns
returns c =
    let grown = ranks_grow c.args.graph.now c.in_ok-order.order.items c.requires.graph c.requires.acyclic c.in_ok-order.ensures
    c.in_ok-ranks.ranks.items c.in_ok-ranks.ensures in
    let long = grown.0 in
    let fits = c.requires.size in
    subst (AreNumbers c.args.graph.now c.args.size) (sym (c.in-Ok.ensures ∙ ap (λ (xs : List ℕ). take c.args.size xs) c.as_slice.ensures.value))
    (are_numbers c.args.graph.now c.args.size c.in_ok-ranks.ranks.items (omega (arith, long, fits)) c.requires.acyclic grown.1)
