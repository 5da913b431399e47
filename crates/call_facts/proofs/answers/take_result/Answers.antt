use Rattle.std.proofs.Common.{◌≡◌, ◌∙◌, List, [], ◌∷◌, Option, Some, ap, refl, subst, sym}
use Rattle.formula.specs.Pool.{tree_of}
use Rattle.formula.proofs.Grown.{Grows-trans, tree_of-Grows}
use Rattle.fort_syntax.specs.declared.dialect.Sort.{Sort}
use Rattle.fort_model.specs.Conditions.{sight}
use Rattle.fort_model.specs.Events.{takes}
use Rattle.fort_model.specs.Seen.{meet}
use Rattle.fort_model.specs.Senses.{is_defined, of_terms}
use Rattle.fort_model.specs.WalkCalls.{result_facts}
use Rattle.fort_model.specs.WalkPlaces.{cell_sort}
use Rattle.walk_state.specs.declared.walk.Walk.{Walk}
use Rattle.walk_state.specs.Moments.{Did, moment}
use Rattle.walk_state.proofs.Parts.{grew}
use Rattle.call_facts.proofs.Behind.{two_taken}
use Rattle.call_facts.proofs.answers.take_result.Goals as goal

pub returns-in_default-defined-clause-on : goal.returns-in_default-defined-clause-on
returns-in_default-defined-clause-on c = (grew c.args.walk.now _ c.requires.well c.defined.ensures.grows refl refl refl).on

pub returns-in_default-cell_sort-clause-on : goal.returns-in_default-cell_sort-clause-on
returns-in_default-cell_sort-clause-on c = (grew c.args.walk.now _ c.requires.well (Grows-trans _ _ _ c.defined.ensures.grows c.cell_sort.ensures.grows) refl refl refl).on

pub take-requires-clause-well : goal.take-requires-clause-well
take-requires-clause-well c = (grew c.args.walk.now _ c.requires.well (Grows-trans _ _ _ c.defined.ensures.grows c.cell_sort.ensures.grows) refl refl refl).on.kept

pub returns-clause-did : goal.returns-clause-did
returns-clause-did c p i u =
    let w0 = c.args.walk.now in
    let p1 = c.defined.new.pool in
    let w2 : Walk = record { pool = c.cell_sort.new.pool; names = w0.names; met = w0.met; calls = w0.calls; alloc = w0.alloc } in
    let w3 = c.take.new.self in
    let w4 = c.take-2.new.self in
    let value = tree_of w0.pool c.args.value in
    let g = grew w0 w2 c.requires.well (Grows-trans _ _ _ c.defined.ensures.grows c.cell_sort.ensures.grows) refl refl refl in
    let first = tree_of-Grows p1 w2.pool c.in-Ok.is_defined c.cell_sort.ensures.grows c.in-Ok.ensures.is_in ∙ c.in-Ok.ensures.tree in
    let second = tree_of-Grows w2.pool w3.pool c.in-Ok-cell_sort.cell c.take.ensures.on.grows c.in-Ok-cell_sort.ensures.is_in
    ∙ (c.in-Ok-cell_sort.ensures.tree ∙ ap (cell_sort of_terms c.in-Some.sort) (tree_of-Grows w0.pool p1 c.args.value c.defined.ensures.grows c.requires.value)) in
    subst (λ (o : Option Sort). Did (moment w0) (meet (takes (result_facts (sight of_terms p i u) o value))) (moment w4) tt) (sym c.in-Some.is)
    (two_taken (moment w0) (moment w2) (moment w3) (moment w4) _ _ (is_defined of_terms value) (cell_sort of_terms c.in-Some.sort value) g.same
    c.in_ok-take.ensures.met first c.in_ok-take-2.ensures.met second)
