-- The start of a path.
use Rattle.std.proofs.Common.{◌≡◌, ℕ, zero, suc, Bool, true, List, [], ◌∷◌, ◌++◌, length, map, Option, Some, None, slice_get, refl, sym, ap, ◌∙◌, subst}
use Rattle.std.specs.List.{All}
use Rattle.std.proofs.lemmas.List.Elements.{All-head, All-tail}
use Rattle.entry_frames.proofs.Frames.{frame_set}
use Rattle.entry_frames.specs.Entries.{IsFrame, at_entry_in}
use Rattle.formula.specs.Pool.{AllBelow, Grows, tree_of}
use Rattle.formula.specs.Tree.{Tree}
use Rattle.formula.specs.declared.node.Node.{Node}
use Rattle.formula.specs.declared.node.TermId.{TermId}
use Rattle.formula.proofs.Grown.{AllBelow-Grows}
use Rattle.fort_model.specs.Conditions.{sight}
use Rattle.fort_model.specs.Fitting.{has_entry as may_have_entry, terms_fit}
use Rattle.fort_model.specs.Lists.{IsAmong}
use Rattle.fort_model.specs.Program.{Program, notes_of}
use Rattle.fort_model.specs.Seen.{Named}
use Rattle.fort_model.specs.Senses.{of_terms, note}
use Rattle.fort_model.specs.Walk.{at_entry, at_start, bound_facts, dim_dummies, dim_facts, entry_facts, smashed_in_order, start_facts}
use Rattle.fort_model.specs.WalkPlaces.{sorts}
use Rattle.fort_notes.specs.Assertions.{assertion_tree}
use Rattle.fort_notes.specs.declared.notes.AssertSpec.{AssertSpec}
use Rattle.fort_syntax.specs.Names.{commons}
use Rattle.fort_syntax.specs.declared.name.Name.{Name}
use Rattle.fort_syntax.specs.declared.unit.Role.{Role}
use Rattle.fort_syntax.specs.declared.unit.Unit.{Unit as Routine}
use Rattle.note_terms.proofs.Added.{trees_grow}
use Rattle.note_terms.proofs.KnownTerms.{fitting_terms_are_known}
use Rattle.note_terms.specs.Stated.{are_known_terms, at_least_0, trees_in}
use Rattle.path_scene.specs.Scenes.{IsAssertIn}
use Rattle.path_starts.specs.Starts.{IsStartOf, shape_facts, told_by}
use Rattle.start_terms.proofs.StartLaws.{dim_facts_are_those_of_walks}
use Rattle.start_terms.specs.Starts.{facts_of_dims}
use Rattle.walk_names.specs.declared.names.Names.{Names}
use Rattle.walk_state.specs.declared.walk.Walk.{Walk}
use Rattle.walk_state.specs.Moments.{Follows, moment}

-- ---- terms that a walk tells

pub known_of : (nodes : List Node) (u : Routine) (names : Names) (entry : List TermId) (now : Named Tree) (is : Role → Bool) (entries : List ℕ → Bool) (ts : List Tree) → IsFrame nodes u names entry now
    → ((x : List ℕ) → entries x ≡ true → may_have_entry u x ≡ true) → terms_fit u is entries ts → are_known_terms names.table entry ts ≡ true
known_of nodes u names entry now is entries ts h may fit = fitting_terms_are_known u is entries names.table entry ts h.has h.terms may fit

pub told_is : (w : Walk) (u : Routine) (entry : List TermId) (now : Named Tree) (p : Program) (i : ℕ) (ids : List TermId) → IsFrame w.pool u w.names entry now
    → told_by w entry ids ≡ map (note of_terms (at_entry (sight of_terms p i u)) now) (trees_in w.pool ids)
told_is w u entry now p i ids h = λ j. map (λ (t : Tree). note of_terms (h.entered j) (h.stand j) t) (trees_in w.pool ids)

-- a walk that goes on still tells
pub frame_on : (w0 w1 : Walk) (u : Routine) (entry : List TermId) (was : Named Tree) → Follows w0 w1 → IsFrame w0.pool u w0.names entry was → IsFrame w1.pool u w1.names entry (moment w1).now
frame_on w0 w1 u entry was on h = frame_set w0.pool w1.pool u w0.names w1.names entry was (moment w1).now on.grows h on.kept.names refl on.extends

-- terms that fitted a unit before the pool grew
pub start_of : (p0 : List Node) (w : Walk) (u : Routine) (entry : List TermId) (now : Named Tree) (ids : List TermId) (is : Role → Bool) (entries : List ℕ → Bool) → Grows p0 w.pool
    → IsFrame w.pool u w.names entry now → AllBelow (length p0) ids → ((x : List ℕ) → entries x ≡ true → may_have_entry u x ≡ true) → terms_fit u is entries (trees_in p0 ids) → IsStartOf w entry ids
start_of p0 w u entry now ids is entries g h below may fit = record {
  unit = u;
  framed = record { kept = h.kept; stand = refl; has = h.has; terms = h.terms; count = h.count; below = h.below; entered = h.entered };
  inside = AllBelow-Grows p0 w.pool ids g below;
  role = is;
  entries = entries;
  may = may;
  fit = subst (λ (ts : List Tree). terms_fit u is entries ts) (sym (trees_grow p0 w.pool ids g below)) fit;
}

pub start_known : (w : Walk) (entry ids : List TermId) (h : IsStartOf w entry ids) → are_known_terms w.names.table entry (trees_in w.pool ids) ≡ true
start_known w entry ids h = known_of w.pool h.unit w.names entry (moment w).now h.role h.entries (trees_in w.pool ids) h.framed h.may h.fit

pub start_follows : (w0 w1 : Walk) (entry ids : List TermId) → Follows w0 w1 → IsStartOf w0 entry ids → IsStartOf w1 entry ids
start_follows w0 w1 entry ids on h = start_of w0.pool w1 h.unit entry (moment w1).now ids h.role h.entries on.grows (frame_on w0 w1 h.unit entry (moment w0).now on h.framed) h.inside h.may h.fit

-- where names stand for what they stood for, terms are told as before
pub told_follows : (w0 w1 : Walk) (entry ids : List TermId) → Follows w0 w1 → (moment w1).now ≡ (moment w0).now → IsStartOf w0 entry ids → told_by w1 entry ids ≡ told_by w0 entry ids
told_follows w0 w1 entry ids on same h =
    let before = at_entry_in h.unit.names in
    let later = frame_on w0 w1 h.unit entry (moment w0).now on h.framed in
    (λ j. map (λ (t : Tree). note of_terms (later.entered j) (same j) t) (trees_grow w0.pool w1.pool ids on.grows h.inside j))
    ∙ sym (λ j. map (λ (t : Tree). note of_terms (h.framed.entered j) (moment w0).now t) (trees_in w0.pool ids))

-- ---- the entry

pub entry_is : (p : Program) (i : ℕ) (u : Routine) (now : Named Tree) (us : List Tree) → now ≡ at_entry (sight of_terms p i u)
    → us ≡ map (note of_terms (at_entry (sight of_terms p i u)) (at_entry (sight of_terms p i u))) (notes_of p i).input
    → entry_facts (sight of_terms p i u) ≡ shape_facts (sight of_terms p i u) now ++ us
entry_is p i u now us e f =
    let w = sight of_terms p i u in
    let dims : facts_of_dims (at_entry w) (dim_dummies u) ≡ dim_facts w (dim_dummies u) = dim_facts_are_those_of_walks p i u (at_entry w) (dim_dummies u) refl in
    sym
    ((λ j. shape_facts w (e j) ++ f j)
    ∙ (λ j. (bound_facts w ++ sorts of_terms u (at_entry w) u.dummies ++ sorts of_terms u (at_entry w) (commons u) ++ dims j) ++ map (note of_terms (at_entry w) (at_entry w)) (notes_of p i).input))

-- ---- an ASSERT

pub fused : (f g : Tree → Tree) (ts : List Tree) → map f (map g ts) ≡ map (λ (t : Tree). f (g t)) ts
fused f g [] = refl
fused f g (t ∷ ts) = ap (λ (us : List Tree). f (g t) ∷ us) (fused f g ts)

-- what is taken where a path starts at an ASSERT
pub start_is : (p : Program) (i : ℕ) (u : Routine) (nodes : List Node) (last : Walk) (entry : List TermId) (a : AssertSpec) (order : List Name) (now : Named Tree) (sorted : List Tree)
    → IsFrame last.pool u last.names entry now → now ≡ at_start (sight of_terms p i u) → order ≡ smashed_in_order (sight of_terms p i u) → sorted ≡ sorts of_terms u now order
    → trees_in last.pool a.terms ≡ map (tree_of nodes) a.terms → trees_in last.pool a.clock ≡ map (tree_of nodes) a.clock
    → sorted ++ told_by last entry a.terms ++ map at_least_0 (told_by last entry a.clock) ≡ start_facts (sight of_terms p i u) (assertion_tree nodes a)
start_is p i u nodes last entry a order now sorted h e o s terms clock =
    let w = sight of_terms p i u in
    (λ j. s j ++ told_is last u entry now p i a.terms h j ++ map at_least_0 (told_is last u entry now p i a.clock h j))
    ∙ ((λ j. sorts of_terms u (e j) (o j) ++ map (note of_terms (at_entry w) (e j)) (terms j) ++ map at_least_0 (map (note of_terms (at_entry w) (e j)) (clock j)))
    ∙ (λ j. sorts of_terms u (at_start w) (smashed_in_order w) ++ map (note of_terms (at_entry w) (at_start w)) (map (tree_of nodes) a.terms)
    ++ fused at_least_0 (note of_terms (at_entry w) (at_start w)) (map (tree_of nodes) a.clock) j))

-- ---- one of the ASSERTs

some_is : {X : Type 0} (a b : X) → ◌≡◌ {A = Option X} (Some a) (Some b) → a ≡ b
some_is a b e = cc

none_some : {X : Type 0} (a : X) → ◌≡◌ {A = Option X} None (Some a) → ⊥
none_some a e = cc

pub assert_inside : (n : ℕ) (as' : List AssertSpec) (k : ℕ) (a : AssertSpec) → slice_get as' k ≡ Some a → All (IsAssertIn n) as' → IsAssertIn n a
assert_inside n [] k a e h = absurd (none_some a e)
assert_inside n (x ∷ xs) zero a e h = subst (IsAssertIn n) (some_is x a e) (All-head (IsAssertIn n) x xs h)
assert_inside n (x ∷ xs) (suc k) a e h = assert_inside n xs k a e (All-tail (IsAssertIn n) x xs h)

pub assert_among : (nodes : List Node) (as' : List AssertSpec) (k : ℕ) (a : AssertSpec) → slice_get as' k ≡ Some a → IsAmong (assertion_tree nodes a) (map (assertion_tree nodes) as')
assert_among nodes as' k a e = (k, at as' k e)
  where
    at : (xs : List AssertSpec) (k : ℕ) → slice_get xs k ≡ Some a → slice_get (map (assertion_tree nodes) xs) k ≡ Some (assertion_tree nodes a)
    at [] k e = absurd (none_some a e)
    at (x ∷ xs) zero e = ap (λ (y : AssertSpec). Some (assertion_tree nodes y)) (some_is x a e)
    at (x ∷ xs) (suc k) e = at xs k e
