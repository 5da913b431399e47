use Rattle.std.proofs.Common.{◌∙◌, ap, map, refl}
use Rattle.formula.specs.Pool.{tree_of}
use Rattle.formula.specs.Tree.{Tree}
use Rattle.formula.specs.declared.function.BuiltIn.TheVariants as f
use Rattle.formula.proofs.Grown.{tree_of-Grows}
use Rattle.fort_model.specs.Conditions.{sight}
use Rattle.fort_model.specs.Seen.{see}
use Rattle.fort_model.specs.Senses.{make2, of_terms}
use Rattle.fort_model.specs.WalkCalls.{Part}
use Rattle.fort_model.specs.WalkExpr as steps
use Rattle.walk_state.specs.declared.walk.Walk.{Walk}
use Rattle.walk_state.specs.Moments.{Moment, moment}
use Rattle.walk_state.proofs.Parts.{did_then, follows_then, grew}
use Rattle.walk_values.proofs.Checked.{did_see}
use Rattle.walk_operators.proofs.elements.element_at.Goals as goal

pub returns-in_default-clause-on : goal.returns-in_default-clause-on
returns-in_default-clause-on c =
    let w0 = c.args.walk.now in
    let w1 = c.place_checked.new.walk in
    let w2 = c.term.new.self in
    let w3 : Walk = record { pool = c.element.new.pool; names = w2.names; met = w2.met; calls = w2.calls; alloc = w2.alloc } in
    follows_then w0 w2 w3 (follows_then w0 w1 w2 c.place_checked.ensures.on c.term.ensures.on) (grew w2 w3 c.term.ensures.on.kept c.element.ensures.grows refl refl refl).on

pub returns-clause-on : goal.returns-clause-on
returns-clause-on c =
    let w0 = c.args.walk.now in
    let w1 = c.place_checked.new.walk in
    let w2 = c.term.new.self in
    let w3 : Walk = record { pool = c.element.new.pool; names = w2.names; met = w2.met; calls = w2.calls; alloc = w2.alloc } in
    follows_then w0 w2 w3 (follows_then w0 w1 w2 c.place_checked.ensures.on c.term.ensures.on) (grew w2 w3 c.term.ensures.on.kept c.element.ensures.grows refl refl refl).on

pub returns-clause-did : goal.returns-clause-did
returns-clause-did c p i u =
    let s = sight of_terms p i u in
    let w0 = c.args.walk.now in
    let w1 = c.place_checked.new.walk in
    let w2 = c.term.new.self in
    let w3 : Walk = record { pool = c.element.new.pool; names = w2.names; met = w2.met; calls = w2.calls; alloc = w2.alloc } in
    let m0 = moment w0 in
    let a = c.args.array.now in
    let place = tree_of w1.pool c.in_ok-place.place in
    let value = tree_of w3.pool c.in-Ok.value in
    let first = c.in_ok-place.ensures.did p i u in
    let whole = c.in_ok-whole.ensures.tree ∙ ap (λ (m : Moment). m.now a) first.is in
    let at = tree_of-Grows w1.pool w2.pool c.in_ok-place.place c.term.ensures.on.grows c.in_ok-place.ensures.is_in in
    let same = (grew w2 w3 c.term.ensures.on.kept c.element.ensures.grows refl refl refl).same ∙ c.term.ensures.same in
    did_then m0 (moment w1) (moment w3) (steps.place_checked s c.args.card m0.now c.args.dims.now (map (tree_of w0.pool) c.args.subscripts.now)) (λ (q : Tree). see (Part (make2 of_terms f.Element (m0.now a) q))) place
    (Part value) first
    (did_see (moment w1) (moment w3) (Part (make2 of_terms f.Element (m0.now a) place)) (Part value) same
    (ap (λ (t : Tree). Part t) (c.in-Ok.ensures.tree ∙ (λ j. make2 of_terms f.Element (whole j) (at j)))))
