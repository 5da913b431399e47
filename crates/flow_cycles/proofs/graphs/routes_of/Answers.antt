use Rattle.std.proofs.Common.{length, sym, ap, subst}
use Rattle.flow_nodes.specs.Nodes.{IsRouted}
use Rattle.flow_nodes.specs.declared.cycles.Cycles.TheVariants.{Free, First}
use Rattle.flow_cycles.proofs.Telling.{told, routed, inside_first, tells_first, tells_made}
use Rattle.flow_cycles.proofs.graphs.routes_of.Goals as goal

pub cycles_of-requires : goal.cycles_of-requires
cycles_of-requires c =
    let starts = c.in-Ok.flow.starts.items in
    let forks = c.in-Ok.flow.forks.items in
    subst (λ s. IsRouted s c.as_slice-2.result.now) (sym c.as_slice.ensures.value)
    (subst (λ f. IsRouted starts f) (sym c.as_slice-2.ensures.value) (routed c.args.dialect c.args.unit.now starts forks c.in-Ok.ensures c.requires.flowing))

pub uncut-requires-clause-inside : goal.uncut-requires-clause-inside
uncut-requires-clause-inside c =
    let starts = c.in-Ok.flow.starts.items in
    let forks = c.in-Ok.flow.forks.items in
    inside_first c.args.dialect c.args.unit.now starts forks c.in-Ok.ensures c.args.cuts c.in-First.point
    (told c.as_slice.result.now starts c.as_slice-2.result.now forks c.as_slice-3.result.now c.args.cuts c.in-Ok-cycles_of.cycles (First c.in-First.point)
    c.as_slice.ensures.value c.as_slice-2.ensures.value c.as_slice-3.ensures c.in-First.is c.in-Ok-cycles_of.ensures)

pub uncut-requires-clause-first : goal.uncut-requires-clause-first
uncut-requires-clause-first c =
    let starts = c.in-Ok.flow.starts.items in
    let forks = c.in-Ok.flow.forks.items in
    tells_first c.args.dialect c.args.unit.now starts forks c.in-Ok.ensures c.args.cuts c.in-First.point
    (told c.as_slice.result.now starts c.as_slice-2.result.now forks c.as_slice-3.result.now c.args.cuts c.in-Ok-cycles_of.cycles (First c.in-First.point)
    c.as_slice.ensures.value c.as_slice-2.ensures.value c.as_slice-3.ensures c.in-First.is c.in-Ok-cycles_of.ensures)

pub returns-in-Free : goal.returns-in-Free
returns-in-Free c =
    let starts = c.in-Ok.flow.starts.items in
    let forks = c.in-Ok.flow.forks.items in
    tells_made c.args.dialect c.args.unit.now starts forks c.in-Ok.ensures c.args.cuts c.in-Free.ranks (length c.as_slice-in-Free.result.now) c.from_vec.result c.from_vec-in-Free.result
    c.from_vec.ensures c.from_vec-in-Free.ensures (ap length c.as_slice-in-Free.ensures)
    (told c.as_slice.result.now starts c.as_slice-2.result.now forks c.as_slice-3.result.now c.args.cuts c.in-Ok-cycles_of.cycles (Free c.in-Free.ranks)
    c.as_slice.ensures.value c.as_slice-2.ensures.value c.as_slice-3.ensures c.in-Free.is c.in-Ok-cycles_of.ensures)
