-- Statements one behind another.
use Rattle.std.proofs.lemmas.Grind.{common_steps}
use Rattle.std.proofs.Common.{◌≡◌, ℕ, zero, suc, ◌-◌, get_or, take, ◌<◌, ◌≤◌, Option, Some, None, List, [], ◌∷◌, ◌++◌, length, drop, slice_get, append_assoc, refl, sym, ap, ◌∙◌, arith}
use Rattle.formula.specs.Tree.{Tree}
use Rattle.fort_model.specs.Conditions.{sight}
use Rattle.fort_model.specs.Events.{takes}
use Rattle.fort_model.specs.Program.{Program}
use Rattle.fort_model.specs.Senses.{of_terms}
use Rattle.fort_model.specs.WalkCalls.{Sight}
use Rattle.fort_syntax.specs.declared.unit.Line.{Line}
use Rattle.fort_syntax.specs.declared.unit.Unit.{Unit as Routine}
use Rattle.path_cut.specs.declared.step.Step.{Step}
use Rattle.path_cut.specs.declared.step.Step.TheVariants.{At}
use Rattle.path_fronts.specs.Steps.{HasStart, behind}
use Rattle.walk_state.specs.Moments.{Did, Moment, at_first}
use Rattle.std.specs.Option.{IsSome}
use Rattle.fort_model.specs.Paths.{cut_at}
use Rattle.fort_model.specs.Seen.{meet}
use Rattle.fort_model.specs.Walk.{arrive, at_entry, at_start, entry_facts, notes_here, start_facts}
use Rattle.fort_notes.specs.Assertions.{Assertion}
use Rattle.path_openings.specs.Openings.{clock_at, clock_from, set_at, set_from}
use Rattle.path_starts.specs.Starts.{begun_with}
use Rattle.way_laws.specs.PathsOf.{turns}
use Rattle.way_walks.specs.Along.{Gone, along, along_from_assert, arrives_behind, gone, gone_on, stops}

-- what is left from a place, by the steps that are left
abbrev pub left : Sight Tree → List Step → ℕ → Moment → Gone Tree
left w steps card m = gone w (stops steps) card m.now m.answers

-- there is no such statement
pub beyond : (w : Sight Tree) (m : Moment) (here there : List Step) (card pc : ℕ) → here ≡ At pc ∷ there → slice_get w.unit.lines pc ≡ None
    → left w here card m ≡ record { card = card; now = m.now; events = []; rest = m.answers }
beyond w m here there card pc e is =
    (λ i. left w (e i) card m) ∙ (λ i. gone_on w (is i) pc (turns there) card m.now m.answers (λ c after rest. gone w (stops there) c after rest))

pub none_beyond : (xs : List Line) (k : ℕ) → length xs ≤ k → slice_get xs k ≡ None
none_beyond [] k le = refl
none_beyond (x ∷ xs) zero le = absurd (omega arith)
none_beyond (x ∷ xs) (suc k) le = none_beyond xs k (omega arith)

-- ---- from the start to the end

-- the events of a walk that went along some steps and arrived
pub arrived_events : (w : Sight Tree) (clock : Option (List Tree)) (end card : ℕ) (m1 m2 m3 : Moment) (g : Gone Tree) → m2 ≡ behind m1 g → card ≡ g.card
    → Did m2 (meet (arrive w clock card (cut_at w.unit (notes_here w) end) m2.now [])) m3 tt → m3.events ≡ m1.events ++ arrives_behind w clock end g
arrived_events w clock end card m1 m2 m3 g went is d =
    ap (λ (m : Moment). m.events) d.is
    ∙ ((λ i. (went i).events ++ arrive w clock (is i) (cut_at w.unit (notes_here w) end) (went i).now [])
    ∙ append_assoc m1.events g.events (arrive w clock g.card (cut_at w.unit (notes_here w) end) g.now []))

-- from an ASSERT, or from none
from_assert : (p : Program) (n : ℕ) (u : Routine) (o : Option Assertion) (end : ℕ) (steps : List Step) (m0 : Moment)
    → m0 ≡ begun_with at_first (entry_facts (sight of_terms p n u)) (at_entry (sight of_terms p n u)) → IsSome o
    → (set_at (sight of_terms p n u) o m0).events
    ++ arrives_behind (sight of_terms p n u) (clock_at (sight of_terms p n u) o) end
    (gone (sight of_terms p n u) (stops steps) 0 (set_at (sight of_terms p n u) o m0).now (set_at (sight of_terms p n u) o m0).answers)
    ≡ along_from_assert (sight of_terms p n u) o steps end
from_assert p n u None end steps m0 begun is = absurd (cc)
from_assert p n u (Some a) end steps m0 begun is =
    let w = sight of_terms p n u in
    (λ i. ((begun i).events ++ takes (start_facts w a)) ++ arrives_behind w (clock_at w (Some a)) end (gone w (stops steps) 0 (at_start w) (begun i).answers))

-- the events of a walk that began at the entry, set out, went along some steps and arrived
pub events_along : (p : Program) (n : ℕ) (u : Routine) (start end : ℕ) (steps : List Step) (m0 m1 m3 : Moment) (clock : Option (List Tree))
    → m0 ≡ begun_with at_first (entry_facts (sight of_terms p n u)) (at_entry (sight of_terms p n u)) → m1 ≡ set_from (sight of_terms p n u) start m0 → clock ≡ clock_from (sight of_terms p n u) start
    → HasStart (sight of_terms p n u) start
    → m3.events ≡ m1.events ++ arrives_behind (sight of_terms p n u) clock end (gone (sight of_terms p n u) (stops steps) 0 m1.now m1.answers)
    → m3.events ≡ along (sight of_terms p n u) start steps end
events_along p n u zero end steps m0 m1 m3 clock begun set told is e =
    let w = sight of_terms p n u in
    e
    ∙ ((λ i. (set i).events ++ arrives_behind w (told i) end (gone w (stops steps) 0 (set i).now (set i).answers))
    ∙ (λ i. (begun i).events ++ arrives_behind w None end (gone w (stops steps) 0 (begun i).now (begun i).answers)))
events_along p n u (suc k) end steps m0 m1 m3 clock begun set told is e =
    let w = sight of_terms p n u in
    e
    ∙ ((λ i. (set i).events ++ arrives_behind w (told i) end (gone w (stops steps) 0 (set i).now (set i).answers))
    ∙ from_assert p n u (slice_get (notes_here w).asserts k) end steps m0 begun is)

-- ---- steps by their places

pub drop_at : (xs : List Step) (k n : ℕ) (d x : Step) → k < length xs → get_or xs k d ≡ x → n ≡ suc k → drop k xs ≡ x ∷ drop n xs
drop_at xs k n d x lt is e = at xs k lt is ∙ (λ i. x ∷ drop (sym e i) xs)
  where
    at : (xs : List Step) (k : ℕ) → k < length xs → get_or xs k d ≡ x → drop k xs ≡ x ∷ drop (suc k) xs
    at [] k lt is = absurd (omega arith)
    at (y ∷ xs) zero lt is = λ i. is i ∷ xs
    at (y ∷ xs) (suc k) lt is = at xs k (omega arith) is

-- all behind a place
pub all_behind : (xs : List Step) (k : ℕ) → take (length xs - k) (drop k xs) ≡ drop k xs
all_behind xs k = grind (arith, common_steps)

pub all_dropped : (xs : List Step) (k : ℕ) → length xs ≤ k → drop k xs ≡ []
all_dropped xs k le = grind (arith, common_steps)
