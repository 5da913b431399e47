use Rattle.std.proofs.Common.{◌≡◌, ◌∙◌, List, map, refl, subst}
use Rattle.std.proofs.lemmas.Result.{on_ok_weaker}
use Rattle.formula.specs.Pool.{tree_of}
use Rattle.formula.specs.declared.function.BuiltIn.TheVariants.{Put}
use Rattle.formula.proofs.Grown.{IsIn-Grows, tree_of-Grows}
use Rattle.fort_syntax.specs.Names.{dims_of}
use Rattle.fort_syntax.specs.declared.stmt.Dim.{Dim}
use Rattle.fort_model.specs.Seen.{see}
use Rattle.fort_model.specs.Senses.{make3, of_terms}
use Rattle.fort_model.specs.WalkExpr as steps
use Rattle.fort_model.specs.WalkStmt.{with_name}
use Rattle.walk_setting.specs.Settings.{seen_from}
use Rattle.walk_setting.proofs.Done.{performs_set, performs_then}
use Rattle.walk_state.specs.declared.walk.Walk.{Walk}
use Rattle.walk_state.specs.Moments.{Did, moment, with_names}
use Rattle.walk_state.proofs.Parts.{follows_then, grew}
use Rattle.walk_assign.proofs.assignments.store.Goals as goal

pub put-requires-clause-place : goal.put-requires-clause-place
put-requires-clause-place c = IsIn-Grows c.place_checked.new.walk.pool c.term.new.self.pool c.in_ok-place.place c.term.ensures.on.grows c.in_ok-place.ensures.is_in

pub put-requires-clause-value : goal.put-requires-clause-value
put-requires-clause-value c =
    IsIn-Grows c.place_checked.new.walk.pool c.term.new.self.pool c.args.value c.term.ensures.on.grows
    (IsIn-Grows c.args.walk.now.pool c.place_checked.new.walk.pool c.args.value c.place_checked.ensures.on.grows c.requires.value)

pub set-requires-clause-well : goal.set-requires-clause-well
set-requires-clause-well c = (grew c.term.new.self _ c.term.ensures.on.kept c.put.ensures.grows refl refl refl).on.kept

pub returns-in_default-clause-on : goal.returns-in_default-clause-on
returns-in_default-clause-on c =
    let w0 = c.args.walk.now in
    let w1 = c.place_checked.new.walk in
    let w2 = c.term.new.self in
    let w3 : Walk = record { pool = c.put.new.pool; names = w2.names; met = w2.met; calls = w2.calls; alloc = w2.alloc } in
    follows_then w0 w2 w3 (follows_then w0 w1 w2 c.place_checked.ensures.on c.term.ensures.on) (grew w2 w3 c.term.ensures.on.kept c.put.ensures.grows refl refl refl).on

pub returns-clause-on : goal.returns-clause-on
returns-clause-on c =
    let w0 = c.args.walk.now in
    let w1 = c.place_checked.new.walk in
    let w2 = c.term.new.self in
    let w3 : Walk = record { pool = c.put.new.pool; names = w2.names; met = w2.met; calls = w2.calls; alloc = w2.alloc } in
    let w4 = c.set.new.self in
    follows_then w0 w2 w4 (follows_then w0 w1 w2 c.place_checked.ensures.on c.term.ensures.on)
    (follows_then w2 w3 w4 (grew w2 w3 c.term.ensures.on.kept c.put.ensures.grows refl refl refl).on c.set.ensures.on)

pub returns-clause-did : goal.returns-clause-did
returns-clause-did c =
    let s = c.args.card.now.setting.now in
    let card = c.args.card.now.number in
    let u = s.book.now.unit.now in
    let w0 = c.args.walk.now in
    let w1 = c.place_checked.new.walk in
    let w2 = c.term.new.self in
    let w3 : Walk = record { pool = c.put.new.pool; names = w2.names; met = w2.met; calls = w2.calls; alloc = w2.alloc } in
    let w4 = c.set.new.self in
    let m0 = moment w0 in
    let m1 = moment w1 in
    let a = c.args.array.now in
    let is = map (tree_of w0.pool) c.args.subscripts.now in
    let v = tree_of w0.pool c.args.value in
    let place = tree_of w1.pool c.in_ok-place.place in
    let same : moment w3 ≡ m1 = (grew w2 w3 c.term.ensures.on.kept c.put.ensures.grows refl refl refl).same ∙ c.term.ensures.same in
    let whole = c.in_ok-whole.ensures.tree in
    let at = tree_of-Grows w1.pool w2.pool c.in_ok-place.place c.term.ensures.on.grows c.in_ok-place.ensures.is_in in
    let held = IsIn-Grows w0.pool w1.pool c.args.value c.place_checked.ensures.on.grows c.requires.value in
    let kept = tree_of-Grows w1.pool w2.pool c.args.value c.term.ensures.on.grows held ∙ tree_of-Grows w0.pool w1.pool c.args.value c.place_checked.ensures.on.grows c.requires.value in
    let made = c.in-Ok.ensures.tree ∙ (λ j. make3 of_terms Put (whole j) (at j) (kept j)) in
    on_ok_weaker c.set.result
    (λ e. performs_then s w0 w1 w4 (λ w. steps.place_checked w card m0.now (dims_of w.unit a) is) (λ w now p. see (with_name now a (make3 w.sense Put (now a) p v))) place c.place_checked.ensures.on.grows
    (λ p r. subst (λ (ds : List Dim). Did m0 (steps.place_checked (seen_from s p) card m0.now ds is) m1 place) c.dims-dims.ensures (c.in_ok-place.ensures.did p s.number u))
    (performs_set w1.pool s m1 (moment w4) (with_name m1.now a (make3 of_terms Put (m1.now a) place v)) (e ∙ (λ j. with_names (same j) (with_name (same j).now a (made j))))))
    c.set.ensures.set
