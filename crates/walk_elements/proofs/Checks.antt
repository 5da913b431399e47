-- Checks of subscripts, one after another.
use Rattle.std.proofs.Common.{◌≡◌, ℕ, Bool, List, [], ◌∷◌, ◌++◌, length, map, refl, sym, ap, ◌∙◌, subst, append_assoc}
use Rattle.formula.specs.declared.node.Node.{Node}
use Rattle.formula.specs.declared.node.TermId.{TermId}
use Rattle.formula.specs.Pool.{AllBelow, Grows, IsIn, tree_of}
use Rattle.formula.specs.Tree.{Tree}
use Rattle.formula.proofs.Grown.{tree_of-Grows}
use Rattle.fort_syntax.specs.declared.condition.Kind.TheVariants.{SubscriptCheck}
use Rattle.fort_syntax.specs.declared.stmt.Dim.{Dim}
use Rattle.fort_syntax.specs.declared.unit.Unit.{Unit as Routine}
use Rattle.fort_model.specs.Conditions.{sight}
use Rattle.fort_model.specs.Events.{Event, checks}
use Rattle.fort_model.specs.Program.{Program}
use Rattle.fort_model.specs.Seen.{Named}
use Rattle.fort_model.specs.Senses.{make2, of_terms}
use Rattle.fort_model.specs.WalkExpr as steps
use Rattle.fort_model.specs.WalkPlaces.{place, subscripts_fit}
use Rattle.walk_state.specs.declared.walk.Walk.{Walk}
use Rattle.walk_state.specs.Moments.{Did, Moment, moment, with_event}
use Rattle.walk_places.proofs.ShapeRows.{below_parts, trees_grow}
use Rattle.walk_elements.specs.Events.{greatest_or_least, subscript_check, with_events}

append_nothing : {A : Type 0} (xs : List A) → xs ≡ xs ++ []
append_nothing [] = refl
append_nothing (x ∷ xs) = ap (λ (ys : List _). x ∷ ys) (append_nothing xs)

-- no event is met
pub no_events : (m : Moment) → m ≡ with_events m []
no_events m = λ i. record { now = m.now; past = m.past; events = append_nothing m.events i; answers = m.answers }

events_behind : (m : Moment) (e : Event Tree) (es : List (Event Tree)) → with_events (with_event m e) es ≡ with_events m (e ∷ es)
events_behind m e es = λ i. record { now = m.now; past = m.past; events = append_assoc m.events (e ∷ []) es i; answers = m.answers }

-- where there is no subscript left, or no dimension, nothing is checked
pub none_fit : (now : Named Tree) (card : ℕ) (ts : List Tree) (dims : List Dim) (m : Moment) → ts ≡ [] → m ≡ with_events m (checks SubscriptCheck card (subscripts_fit of_terms now ts dims))
none_fit now card ts dims m e = no_events m ∙ ap (λ (us : List Tree). with_events m (checks SubscriptCheck card (subscripts_fit of_terms now us dims))) (sym e)

pub none_dims : (now : Named Tree) (card : ℕ) (ts : List Tree) (dims : List Dim) (m : Moment) → dims ≡ [] → m ≡ with_events m (checks SubscriptCheck card (subscripts_fit of_terms now ts dims))
none_dims now card [] dims m e = no_events m
none_dims now card (t ∷ ts) dims m e = no_events m ∙ ap (λ (ds : List Dim). with_events m (checks SubscriptCheck card (subscripts_fit of_terms now (t ∷ ts) ds))) (sym e)

pub check_step : (w0 w1 w2 : Walk) (card : ℕ) (s : TermId) (d : Dim) (ids more : List TermId) (dims rest : List Dim) → AllBelow (length w0.pool) ids → Grows w0.pool w1.pool → ids ≡ s ∷ more
    → dims ≡ d ∷ rest → moment w1 ≡ with_event (moment w0) (subscript_check card (moment w0).now (tree_of w0.pool s) d)
    → moment w2 ≡ with_events (moment w1) (checks SubscriptCheck card (subscripts_fit of_terms (moment w1).now (map (tree_of w1.pool) more) rest))
    → moment w2 ≡ with_events (moment w0) (checks SubscriptCheck card (subscripts_fit of_terms (moment w0).now (map (tree_of w0.pool) ids) dims))
check_step w0 w1 w2 card s d ids more dims rest below g e f first second =
    let m0 = moment w0 in
    let parts = below_parts (length w0.pool) ids more s e below in
    let now : (moment w1).now ≡ m0.now = ap (λ (m : Moment). m.now) first in
    second ∙ (λ i. with_events (first i) (checks SubscriptCheck card (subscripts_fit of_terms (now i) (trees_grow w0.pool w1.pool more g parts.1 i) rest)))
    ∙ events_behind m0 (subscript_check card m0.now (tree_of w0.pool s) d) (checks SubscriptCheck card (subscripts_fit of_terms m0.now (map (tree_of w0.pool) more) rest))
    ∙ (λ i. with_events m0 (checks SubscriptCheck card (subscripts_fit of_terms m0.now (map (tree_of w0.pool) (sym e i)) (sym f i))))

-- the checks of subscripts, and the place behind them
pub place_behind : (w0 w1 w2 : Walk) (p : Program) (i : ℕ) (u : Routine) (card : ℕ) (ids : List TermId) (dims : List Dim) (t : Tree) → AllBelow (length w0.pool) ids → Grows w0.pool w1.pool
    → moment w1 ≡ with_events (moment w0) (checks SubscriptCheck card (subscripts_fit of_terms (moment w0).now (map (tree_of w0.pool) ids) dims)) → moment w2 ≡ moment w1
    → t ≡ place of_terms (moment w1).now (map (tree_of w1.pool) ids) dims
    → Did (moment w0) (steps.place_checked (sight of_terms p i u) card (moment w0).now dims (map (tree_of w0.pool) ids)) (moment w2) t
place_behind w0 w1 w2 p i u card ids dims t below g checked same is =
    let m0 = moment w0 in
    let es = checks SubscriptCheck card (subscripts_fit of_terms m0.now (map (tree_of w0.pool) ids) dims) in
    let now : (moment w1).now ≡ m0.now = ap (λ (m : Moment). m.now) checked in
    record {
      is = same ∙ checked ∙ (λ j. record { now = m0.now; past = m0.past; events = m0.events ++ append_nothing es j; answers = m0.answers });
      gives = is ∙ (λ j. place of_terms (now j) (trees_grow w0.pool w1.pool ids g below j) dims);
    }

-- a function of two values is put on a value and further ones
pub fold_step : (p0 p1 : List Node) (p : Program) (i : ℕ) (u : Routine) (b : Bool) (first other both : TermId) (ids rest : List TermId) (t : Tree) → AllBelow (length p0) ids → Grows p0 p1
    → ids ≡ other ∷ rest → tree_of p1 both ≡ make2 of_terms (greatest_or_least b) (tree_of p0 first) (tree_of p0 other)
    → t ≡ steps.folded (sight of_terms p i u) (greatest_or_least b) (tree_of p1 both) (map (tree_of p1) rest)
    → t ≡ steps.folded (sight of_terms p i u) (greatest_or_least b) (tree_of p0 first) (map (tree_of p0) ids)
fold_step p0 p1 p i u b first other both ids rest t below g e made is =
    let s = sight of_terms p i u in
    let parts = below_parts (length p0) ids rest other e below in
    is ∙ (λ j. steps.folded s (greatest_or_least b) (made j) (trees_grow p0 p1 rest g parts.1 j)) ∙ ap (λ (l : List TermId). steps.folded s (greatest_or_least b) (tree_of p0 first) (map (tree_of p0) l)) (sym e)
