use Rattle.std.proofs.Common.{ℕ, List, length, sym, subst, ◌∙◌}
use Rattle.std.specs.Prelude.{Some, None}
use Rattle.digraph.specs.Graphs.{IsGraph, IsLeastOnCycle}
use Rattle.flow_nodes.specs.Nodes.{cut_marks, flow_nodes}
use Rattle.flow_nodes.proofs.Stepping.{nodes_inside}
use Rattle.flow_nodes.proofs.Falls.{least_is_statement}
use Rattle.flow_nodes.proofs.cycles.cycles_of.Goals as goal

pub least_on_cycle-requires : goal.least_on_cycle-requires
least_on_cycle-requires c =
    subst IsGraph (sym (c.as_slice.ensures.value ∙ c.in_ok-rows.ensures))
    (nodes_inside (cut_marks (length c.args.starts.now) c.args.cuts.now) c.args.starts.now c.args.forks.now c.requires)

pub returns-in-Some : goal.returns-in-Some
returns-in-Some c =
    let starts = c.args.starts.now in
    let forks = c.args.forks.now in
    let tells : IsLeastOnCycle (flow_nodes c.args.cuts.now starts forks) (Some c.in-Some.point) =
    subst (λ (g : List (List ℕ)). IsLeastOnCycle g (Some c.in-Some.point)) (c.as_slice.ensures.value ∙ c.in_ok-rows.ensures)
    (subst (IsLeastOnCycle c.as_slice.result.now) c.in-Some.is c.in-Ok.ensures) in
    (least_is_statement (cut_marks (length starts) c.args.cuts.now) starts forks c.requires c.in-Some.point tells.0 tells.1, tells)

pub ranks_of-requires-clause-graph : goal.ranks_of-requires-clause-graph
ranks_of-requires-clause-graph c =
    subst IsGraph (sym (c.as_slice-2.ensures.value ∙ c.in_ok-rows.ensures))
    (nodes_inside (cut_marks (length c.args.starts.now) c.args.cuts.now) c.args.starts.now c.args.forks.now c.requires)
