use Rattle.std.proofs.Common.{get_or}
use Rattle.flow_graph.proofs.Routing.{flows, ordered, spec_at, routes_told}
use Rattle.flow_graph.proofs.routes.routes_in.Goals as goal

pub routes_of-requires-clause-flowing : goal.routes_of-requires-clause-flowing
routes_of-requires-clause-flowing c =
    flows c.requires.ready.0 c.args.scene.now c.requires.ready.1 c.args.number c.book.result.now.unit.now c.requires.ready.2 c.book.ensures

pub routes_of-requires-clause-cards : goal.routes_of-requires-clause-cards
routes_of-requires-clause-cards c =
    ordered c.requires.ready.0 c.args.scene.now c.requires.ready.1 c.args.number c.book.result.now.unit.now c.requires.ready.2 c.book.ensures

pub returns : goal.returns
returns c =
    routes_told c.args.scene.now c.args.number c.book.result.now.unit.now (get_or c.args.scene.now.notes.now c.args.number c.index-scene-number.result)
    c.as_slice.result.now c.in-Ok.points c.in-Ok-routes_of.routes c.book.ensures
    (spec_at c.requires.ready.0 c.args.scene.now c.requires.ready.1 c.args.number c.index-scene-number.result c.requires.ready.2 c.requires.unit)
    c.as_slice.ensures c.in-Ok.ensures c.in-Ok-routes_of.ensures
