use Rattle.std.proofs.Common.{◌≡◌, suc, ◌+◌, ◌∙◌, Option, ap, take, refl, arith}
use Rattle.formula.specs.Pool.{tree_of}
use Rattle.fort_syntax.specs.declared.unit.DataName.{DataName}
use Rattle.fort_model.specs.Senses.{of_terms}
use Rattle.fort_model.specs.WalkPlaces.{sort_in}
use Rattle.walk_state.specs.declared.walk.Walk.{Walk}
use Rattle.walk_state.specs.Moments.{moment}
use Rattle.walk_state.proofs.Parts.{follows_then, grew}
use Rattle.call_facts.proofs.Behind.{sort_more, taken_more}
use Rattle.call_facts.proofs.sorts.take_sorts.Goals as goal

pub returns-in_default-clause-on : goal.returns-in_default-clause-on
returns-in_default-clause-on c =
    follows_then c.args.walk.now c.loop-name.walk _ c.loop-name.invariant.on (grew c.loop-name.walk _ c.loop-name.invariant.on.kept c.sort_in.ensures.grows refl refl refl).on

pub take-requires-clause-well : goal.take-requires-clause-well
take-requires-clause-well c = (grew c.loop-name.walk _ c.loop-name.invariant.on.kept c.sort_in.ensures.grows refl refl refl).on.kept

pub loop-name-preserved : goal.loop-name-preserved
loop-name-preserved c =
    let w0 = c.args.walk.now in
    let w1 = c.loop-name.walk in
    let w2 : Walk = record { pool = c.sort_in.new.pool; names = w1.names; met = w1.met; calls = w1.calls; alloc = w1.alloc } in
    let w3 = c.take.new.self in
    let g = grew w1 w2 c.loop-name.invariant.on.kept c.sort_in.ensures.grows refl refl refl in
    let k = c.loop-name.name-index in
    let x = c.name-item.result in
    let next : k + 1 ≡ suc k = omega arith in
    let tree = c.in-Ok.ensures.tree ∙ ap (λ (d : Option DataName). sort_in of_terms (moment w1).now x d) c.data-entity.ensures in
    record {
      on = follows_then w0 w2 w3 (follows_then w0 w1 w2 c.loop-name.invariant.on g.on) c.take.ensures.on;
      is =
          sort_more c.args.caller.now.unit.now (moment w0) (moment w1) (moment w2) (moment w3) (take k c.args.names.now) (take (k + 1) c.args.names.now) x (tree_of w2.pool c.in-Ok.fact)
          c.loop-name.invariant.is g.same c.in_ok-take.ensures.met tree (taken_more c.args.names.now k (k + 1) x c.loop-name-test.true c.name-item.is next);
    }
