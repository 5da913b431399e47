use Rattle.std.proofs.Common.{◌≡◌, ℕ, List, None, length, sym, subst, arith}
use Rattle.fort_model.specs.declared.graph.Graph.{Graph}
use Rattle.flow_stage.proofs.Stepwise.{seen_more, seen_none}
use Rattle.flow_stage.specs.Units.{AreUnitsSeen}
use Rattle.flow_stage.proofs.units.all_seen.Goals as goal

pub loop-number-init : goal.loop-number-init
loop-number-init c = subst (λ (graphs : List Graph). AreUnitsSeen c.args.scene.now 0 graphs None) (sym c.new-graphs.ensures.items) (seen_none c.args.scene.now)

pub loop-number-preserved : goal.loop-number-preserved
loop-number-preserved c =
    seen_more c.args.scene.now c.loop-number.number c.loop-number.graphs.items c.add_unit.new.graphs.items c.loop-number.first c.in-Ok.fault c.sooner-first.result c.loop-number-test.true
    c.loop-number.invariant c.in-Ok.ensures c.sooner-first.ensures

pub returns : goal.returns
returns c =
    let all : c.loop-number.number ≡ length c.args.scene.now.books.now.units.now = omega arith in
    subst (λ (n : ℕ). AreUnitsSeen c.args.scene.now n c.loop-number.graphs.items c.loop-number.first) all c.loop-number.invariant
