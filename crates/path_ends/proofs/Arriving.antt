-- What is checked where a path ends, as a walk tells it and by the model.
use Rattle.std.proofs.Common.{◌≡◌, ℕ, zero, suc, ◌<◌, ◌≤◌, Option, Some, None, option_map, List, [], ◌∷◌, ◌++◌, length, map, slice_get, append_assoc, refl, sym, ap, ◌∙◌, arith}
use Rattle.entry_frames.specs.Entries.{IsFrame}
use Rattle.formula.specs.Tree.{Tree}
use Rattle.formula.specs.declared.node.Node.{Node}
use Rattle.formula.specs.declared.node.TermId.{TermId}
use Rattle.fort_model.specs.Conditions.{sight}
use Rattle.fort_model.specs.Events.{Check, checks}
use Rattle.fort_model.specs.Paths.{AtAssert, AtEnd, cut_in, cut_of}
use Rattle.fort_model.specs.Program.{Program, assertion_at, notes_of}
use Rattle.fort_model.specs.Seen.{Named}
use Rattle.fort_model.specs.Senses.{note, of_terms}
use Rattle.fort_model.specs.Walk.{arrive, at_entry, fall}
use Rattle.fort_notes.specs.Assertions.{Assertion, assertion_tree}
use Rattle.fort_notes.specs.declared.notes.AssertSpec.{AssertSpec}
use Rattle.fort_syntax.specs.declared.condition.Kind.TheVariants.{AssertCheck, ClockCheck, FallCheck}
use Rattle.fort_syntax.specs.declared.unit.Line.{Line}
use Rattle.fort_syntax.specs.declared.unit.Unit.{Unit as Routine}
use Rattle.note_terms.proofs.KnownTerms.{facts_are_those_of_walks}
use Rattle.note_terms.specs.Stated.{at_least_0, trees_in}
use Rattle.path_ends.proofs.Told.{first_tree}
use Rattle.path_ends.specs.Ends.{assert_checks, fall_in, first_at}
use Rattle.path_plans.specs.declared.plan.Plan.{Plan}
use Rattle.path_plans.specs.Plans.{IsPlanIn}
use Rattle.path_starts.proofs.Begun.{fused, told_is}
use Rattle.walk_state.specs.declared.walk.Walk.{Walk}

fall_is : (p : Program) (i : ℕ) (u : Routine) (card : ℕ) (clock : Option (List Tree)) (new : List Tree) → fall_in card clock new ≡ fall (sight of_terms p i u) card clock new
fall_is p i u card None new = refl
fall_is p i u card (Some old) new = ap (λ (t : Tree). Check FallCheck card t ∷ []) ((facts_are_those_of_walks p i u).falls new old)

-- what is checked at an ASSERT
pub assert_is : (w : Walk) (u : Routine) (entry : List TermId) (now : Named Tree) (p : Program) (i : ℕ) (card : ℕ) (clock : Option (List Tree)) (a : AssertSpec)
    → IsFrame w.pool u w.names entry now → assert_checks w entry clock a ≡ arrive (sight of_terms p i u) clock card (AtAssert (assertion_tree w.pool a)) now []
assert_is w u entry now p i card clock a h =
    let seen = sight of_terms p i u in
    let say = note of_terms (at_entry seen) now in
    let ts = map say (trees_in w.pool a.terms) in
    let cs = map say (trees_in w.pool a.clock) in
    let terms = told_is w u entry now p i a.terms h in
    let parts = told_is w u entry now p i a.clock h in
    (λ j. checks AssertCheck a.card (terms j) ++ (checks ClockCheck a.card (map at_least_0 (parts j)) ++ fall_in a.card clock (parts j)))
    ∙ ((λ j. checks AssertCheck a.card ts ++ (checks ClockCheck a.card (fused at_least_0 say (trees_in w.pool a.clock) j) ++ fall_is p i u a.card clock cs j))
    ∙ sym (append_assoc (checks AssertCheck a.card ts) (checks ClockCheck a.card (map (λ (t : Tree). at_least_0 (say t)) (trees_in w.pool a.clock))) (fall seen a.card clock cs)))

-- the ASSERT at a point in a program
pub assert_there : (nodes : List Node) (plan : Plan) (p : Program) (pc : ℕ) (o : Option AssertSpec) → IsPlanIn nodes plan p → first_at plan.spec.now.asserts pc ≡ o
    → assertion_at (notes_of p plan.setting.now.number) pc ≡ option_map (assertion_tree nodes) o
assert_there nodes plan p pc o here e =
    (λ j. assertion_at (sym here.notes j) pc) ∙ (first_tree nodes plan.spec.now.asserts pc ∙ ap (option_map (assertion_tree nodes)) e)

-- a point is one of the statements, or the end
pub cut_within : (xs : List Line) (k : ℕ) (a : Option Assertion) → k < length xs → cut_in (slice_get xs k) a ≡ cut_of a
cut_within [] k a lt = absurd (omega arith)
cut_within (x ∷ xs) zero a lt = refl
cut_within (x ∷ xs) (suc k) a lt = cut_within xs k a (omega arith)

pub cut_beyond : (xs : List Line) (k : ℕ) (a : Option Assertion) → length xs ≤ k → cut_in (slice_get xs k) a ≡ AtEnd
cut_beyond [] k a le = refl
cut_beyond (x ∷ xs) zero a le = absurd (omega arith)
cut_beyond (x ∷ xs) (suc k) a le = cut_beyond xs k a (omega arith)
