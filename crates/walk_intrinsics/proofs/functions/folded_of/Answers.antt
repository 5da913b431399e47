use Rattle.std.proofs.Common.{◌≡◌, ◌<◌, [], ◌∷◌, List, arith, get_or, length, map, refl, subst, sym}
use Rattle.formula.specs.declared.node.Node.{Node}
use Rattle.formula.specs.declared.node.TermId.{TermId}
use Rattle.formula.specs.Pool.{tree_of}
use Rattle.formula.specs.Tree.{Tree}
use Rattle.fort_model.specs.Conditions.{sight}
use Rattle.fort_model.specs.Seen.{See}
use Rattle.fort_model.specs.Senses.{of_terms}
use Rattle.fort_model.specs.WalkExpr as steps
use Rattle.walk_state.specs.declared.walk.Walk.{Walk}
use Rattle.walk_state.specs.Moments.{Did, moment}
use Rattle.walk_state.proofs.Parts.{grew}
use Rattle.walk_places.proofs.ShapeRows.{first_rest}
use Rattle.walk_values.proofs.Checked.{did_see}
use Rattle.walk_intrinsics.specs.Functions.{greatest_or_least}
use Rattle.walk_intrinsics.proofs.Counts.{none_folded, some_folded}
use Rattle.walk_intrinsics.proofs.functions.folded_of.Goals as goal

no_trees : (nodes : List Node) (ids : List TermId) → length ids < 1 → map (tree_of nodes) ids ≡ []
no_trees nodes [] h = refl
no_trees nodes (id ∷ ids) h = absurd (omega arith)

pub returns-in_default-clause-did : goal.returns-in_default-clause-did
returns-in_default-clause-did c card p i u =
    let w0 = c.args.walk.now in
    let ids = c.args.values.now in
    let w1 = c.nothing.new.walk in
    let few : length ids < 1 = omega (arith, c.in_default.len_below) in
    subst (λ (part : See Tree Tree). Did (moment w0) part (moment w1) (tree_of w1.pool c.in_ok-none.none))
    (none_folded p i u card c.args.is_greatest (map (tree_of w0.pool) ids) (no_trees w0.pool ids few)) (c.in_ok-none.ensures.did p i u)

pub returns-in_default-folded-clause-on : goal.returns-in_default-folded-clause-on
returns-in_default-folded-clause-on c = (grew c.args.walk.now _ c.requires.well c.folded.ensures.grows refl refl refl).on

pub returns-clause-on : goal.returns-clause-on
returns-clause-on c = (grew c.args.walk.now _ c.requires.well c.folded.ensures.grows refl refl refl).on

pub returns-clause-did : goal.returns-clause-did
returns-clause-did c card p i u =
    let w0 = c.args.walk.now in
    let ids = c.args.values.now in
    let b = c.args.is_greatest in
    let w1 : Walk = record { pool = c.folded.new.pool; names = w0.names; met = w0.met; calls = w0.calls; alloc = w0.alloc } in
    let value = tree_of w1.pool c.in-Ok.value in
    let done = did_see (moment w0) (moment w1) _ value (grew w0 w1 c.requires.well c.folded.ensures.grows refl refl refl).same (c.in-Ok.ensures.tree p i u) in
    let parts = first_rest ids (record { place = 0 }) c.in-len1-up.len_at_least in
    subst (λ (l : List TermId). Did (moment w0) (steps.intrinsic_value (sight of_terms p i u) card (greatest_or_least b) (map (tree_of w0.pool) l)) (moment w1) value) (sym parts)
    (subst (λ (part : See Tree Tree). Did (moment w0) part (moment w1) value) (some_folded p i u card b (tree_of w0.pool (get_or ids 0 (record { place = 0 }))) _) done)
