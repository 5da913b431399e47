-- A path weighs what its way does.
use Rattle.std.proofs.Common.{◌≡◌, ℕ, zero, suc, ◌+◌, List, [], ◌∷◌, ◌++◌, map, length, Option, Some, None, slice_get, refl, sym, ap, ◌∙◌, arith}
use Rattle.std.specs.Prelude.{sum}
use Rattle.formula.specs.Tree.{Tree}
use Rattle.fort_syntax.specs.declared.unit.Line.{Line}
use Rattle.fort_syntax.specs.declared.unit.Unit.{Unit as Routine}
use Rattle.fort_notes.specs.Assertions.{Assertion, Notes}
use Rattle.fort_model.specs.Flow.{leads, leads_at, leads_by}
use Rattle.fort_model.specs.PathPoints.{on_from, points_from, point_in, start_point}
use Rattle.fort_model.specs.Paths.{Cut, NoCut, AtEnd, AtAssert, cut_at, over_or, goes_on, goes_from, IsWay, starts_at, is_path_from}
use Rattle.fort_model.specs.Program.{Program, notes_of}
use Rattle.fort_model.specs.Seen.{Named}
use Rattle.fort_model.specs.WalkCalls.{Sight}
use Rattle.path_cut.specs.Ways.{ways_of}
use Rattle.path_cut.specs.declared.step.Step.{Step}
use Rattle.path_cut.specs.declared.step.Step.TheVariants.{At, Choice}
use Rattle.path_sizes.specs.Weighed as h
use Rattle.path_sizes.specs.Weights as g
use Rattle.way_laws.specs.PathsOf.{turns, choices_of, path_of, points_in}
use Rattle.way_laws.proofs.Read.{ways_have_points}
use Rattle.way_laws.proofs.Whole.{ways_are_paths}
use Rattle.weight_caps.specs.Capped.{capped}
use Rattle.weight_caps.specs.Loads.{nothing_yet}
use Rattle.weight_caps.specs.declared.loads.Load.{Load}
use Rattle.weight_tallies.specs.Laws.{TalliesAreWeights}
use Rattle.weight_tallies.specs.Tallied as t
use Rattle.weight_tallies.specs.Tallies as c
use Rattle.weight_tallies.proofs.Capping.{Caps, Any, IsCapOf, AreCapsOf, CapNames, then, rests, nothing_done, adds, tests, tests_all, cap_both, cap_all}
use Rattle.weight_tallies.proofs.CapCalls as k
use Rattle.weight_tallies.proofs.CapCalls.{cap_notes}
use Rattle.weight_tallies.proofs.Weighing.{performed_capped}

apart : (x y : ℕ) (xs ys : List ℕ) → x ∷ xs ≡ y ∷ ys → (x ≡ y) × (xs ≡ ys)
apart x y xs ys e = (cc, cc)

module _ (p : Program) (i : ℕ) (u : Routine) where
  abbrev v : Sight ℕ
  v = k.v p i u

  abbrev w : Sight ℕ
  w = k.w p i u

  abbrev notes : Notes
  notes = notes_of p i

  -- ---- the exact weights, along steps

  abbrev perform : Option Line → ℕ → Named ℕ → List ℕ → h.Weigh (Named ℕ)
  perform None pc now cs = h.weighed now
  perform (Some line) pc now cs = g.performed v pc now line.stmt cs

  abbrev arrive : Option (List ℕ) → ℕ → Named ℕ → h.Weigh (Unit {0})
  arrive clock end now = g.arrive v clock (cut_at u notes end) now (h.weighed tt)

  abbrev along : Option (List ℕ) → List Step → ℕ → Named ℕ → h.Weigh (Unit {0})
  along clock [] end now = arrive clock end now
  along clock (At pc ∷ steps) end now = h.◌>>=◌ (perform (slice_get u.lines pc) pc now (turns steps)) (λ after. along clock steps end after)
  along clock (Choice j d ∷ steps) end now = along clock steps end now

  -- behind a cut point no statement follows
  ended : (steps : List Step) (clock : Option (List ℕ)) (q end : ℕ) (now : Named ℕ) → choices_of steps ≡ [] → q ∷ [] ≡ points_in steps ++ end ∷ [] → along clock steps end now ≡ arrive clock q now
  ended [] clock q end now e f = let same : q ≡ end = cc in ap (λ r. arrive clock r now) (sym same)
  ended (At pc ∷ steps) clock q end now e f = absurd cc
  ended (Choice j d ∷ steps) clock q end now e f = ended steps clock q end now e f

  module _ (steps : List Step) (clock : Option (List ℕ)) (end : ℕ) where
    -- the statements of a way weigh what they do along its steps
    abbrev Goes : Type 0
    Goes = (q : ℕ) (now : Named ℕ) → IsWay p.dialect u notes q (choices_of steps) → points_from p.dialect u q (choices_of steps) ≡ points_in steps ++ end ∷ []
        → g.weigh_from v clock q now (choices_of steps) ≡ along clock steps end now

    cut_along : Goes → (cut : Cut) (q : ℕ) (now : Named ℕ) → cut_at u notes q ≡ cut
        → over_or p.dialect u notes cut (choices_of steps) (IsWay p.dialect u notes q (choices_of steps))
        → points_from p.dialect u q (choices_of steps) ≡ points_in steps ++ end ∷ []
        → g.arrive v clock cut now (g.weigh_from v clock q now (choices_of steps)) ≡ along clock steps end now
    cut_along ih NoCut q now e l f = ih q now l f
    cut_along ih AtEnd q now e l f = ap (λ x. g.arrive v clock x now (h.weighed tt)) (sym e) ∙ sym (ended steps clock q end now l (sym (ap (points_from p.dialect u q) l) ∙ f))
    cut_along ih (AtAssert a) q now e l f = ap (λ x. g.arrive v clock x now (h.weighed tt)) (sym e) ∙ sym (ended steps clock q end now l (sym (ap (points_from p.dialect u q) l) ∙ f))

    lead_along : Goes → (o : Option ℕ) (now : Named ℕ)
        → goes_on p.dialect u notes o (choices_of steps) (λ q. IsWay p.dialect u notes q (choices_of steps))
        → on_from o (λ q. points_from p.dialect u q (choices_of steps)) ≡ points_in steps ++ end ∷ []
        → g.go_on v clock o now (λ q. g.weigh_from v clock q now (choices_of steps)) ≡ along clock steps end now
    lead_along ih None now l f = absurd l
    lead_along ih (Some q) now l f = cut_along ih (cut_at u notes q) q now refl l f

    line_along : Goes → (o : Option Line) (pc : ℕ) (now : Named ℕ)
        → goes_from p.dialect u notes o pc (turns steps) (choices_of steps) (λ q. IsWay p.dialect u notes q (choices_of steps))
        → on_from (leads_by p.dialect u pc o (turns steps)) (λ q. points_from p.dialect u q (choices_of steps)) ≡ points_in steps ++ end ∷ []
        → g.perform_line v clock o pc now (turns steps) (λ q after. g.weigh_from v clock q after (choices_of steps)) ≡ h.◌>>=◌ (perform o pc now (turns steps)) (λ after. along clock steps end after)
    line_along ih None pc now l f = absurd l
    line_along ih (Some line) pc now l f =
        ap (λ next. h.◌>>=◌ (g.performed v pc now line.stmt (turns steps)) next) (λ j after. lead_along ih (leads p.dialect u pc line.stmt (turns steps)) after l f j)

  from_along : (steps : List Step) (clock : Option (List ℕ)) (end pc : ℕ) (now : Named ℕ) → IsWay p.dialect u notes pc (choices_of steps)
      → points_from p.dialect u pc (choices_of steps) ≡ points_in steps ++ end ∷ [] → g.weigh_from v clock pc now (choices_of steps) ≡ along clock steps end now
  from_along [] clock end pc now l f = absurd l
  from_along (Choice j d ∷ steps) clock end pc now l f = from_along steps clock end pc now l f
  from_along (At r ∷ steps) clock end pc now l f =
      let parts = apart pc r (on_from (leads_at p.dialect u pc (turns steps)) (λ q. points_from p.dialect u q (choices_of steps))) (points_in steps ++ end ∷ []) f in
      line_along steps clock end (λ q after. from_along steps clock end q after) (slice_get u.lines pc) pc now l parts.1
      ∙ ap (λ s. h.◌>>=◌ (perform (slice_get u.lines s) s now (turns steps)) (λ after. along clock steps end after)) parts.0

  abbrev weigh_assert : Option Assertion → List Step → ℕ → h.Weigh (Unit {0})
  weigh_assert None steps end = h.weighed tt
  weigh_assert (Some a) steps end =
      h.◌>>◌ (h.added (g.entry_weight v + sum (g.told v g.all_one a.terms) + sum (g.told v g.all_one a.clock))) (along (Some (g.told v g.all_one a.clock)) steps end g.all_one)

  abbrev weigh_start : ℕ → List Step → ℕ → h.Weigh (Unit {0})
  weigh_start zero steps end = h.◌>>◌ (h.added (g.entry_weight v)) (along None steps end g.all_one)
  weigh_start (suc j) steps end = weigh_assert (slice_get notes.asserts j) steps end

  assert_along : (o : Option Assertion) (steps : List Step) (end : ℕ) → starts_at p.dialect u notes o (choices_of steps)
      → on_from (point_in o) (λ pc. points_from p.dialect u pc (choices_of steps)) ≡ points_in steps ++ end ∷ []
      → g.from_assert v o (choices_of steps) ≡ weigh_assert o steps end
  assert_along None steps end l f = absurd l
  assert_along (Some a) steps end l f =
      ap (λ part. h.◌>>◌ (h.added (g.entry_weight v + sum (g.told v g.all_one a.terms) + sum (g.told v g.all_one a.clock))) part)
      (from_along steps (Some (g.told v g.all_one a.clock)) end a.point g.all_one l f)

  start_along : (start : ℕ) (steps : List Step) (end : ℕ) → is_path_from p.dialect u notes start (choices_of steps)
      → on_from (start_point notes start) (λ pc. points_from p.dialect u pc (choices_of steps)) ≡ points_in steps ++ end ∷ []
      → g.from_start v start (choices_of steps) ≡ weigh_start start steps end
  start_along zero steps end l f =
      ap (λ part. h.◌>>◌ (h.added (g.entry_weight v)) part)
      (cut_along steps None end (λ q after. from_along steps None end q after) (cut_at u notes 0) 0 g.all_one refl l f)
  start_along (suc j) steps end l f = assert_along (slice_get notes.asserts j) steps end l f

  -- ---- as far as the cap

  ones : CapNames g.all_one g.all_one
  ones x = refl

  told_capped : (now now' : Named ℕ) → CapNames now now' → (ts : List Tree) → AreCapsOf (g.told v now ts) (c.told w now' ts)
  told_capped now now' e ts = cap_notes v w g.all_one g.all_one now now' refl refl ones e ts

  weight_told : (now now' : Named ℕ) → CapNames now now' → (ts : List Tree) → IsCapOf (sum (g.told v now ts)) (t.all (c.told w now' ts))
  weight_told now now' e ts = cap_all (g.told v now ts) (c.told w now' ts) (told_capped now now' e ts)

  abbrev CapClock : Option (List ℕ) → Option ℕ → Type 0
  CapClock None None = Unit {0}
  CapClock None (Some m) = ⊥
  CapClock (Some ns) None = ⊥
  CapClock (Some ns) (Some m) = IsCapOf (sum ns) m

  fall_capped : (clock : Option (List ℕ)) (clock' : Option ℕ) (ns ms : List ℕ) → CapClock clock clock' → AreCapsOf ns ms → Caps Any (g.fall v clock ns) (c.fall clock' ms)
  fall_capped None None ns ms q e = nothing_done
  fall_capped None (Some m) ns ms q e = absurd q
  fall_capped (Some past) None ns ms q e = absurd q
  fall_capped (Some past) (Some m) ns ms q e = tests (sum past + sum ns) (t.both m (t.all ms)) (cap_both (sum past) (sum ns) m (t.all ms) q (cap_all ns ms e))

  arrive_capped : (clock : Option (List ℕ)) (clock' : Option ℕ) (cut : Cut) (now now' : Named ℕ) → CapClock clock clock' → CapNames now now'
      → Caps Any (g.arrive v clock cut now (h.weighed tt)) (c.arrive w clock' cut now')
  arrive_capped clock clock' NoCut now now' q e = nothing_done
  arrive_capped clock clock' AtEnd now now' q e = tests_all (g.told v now notes.output) (c.told w now' notes.output) (told_capped now now' e notes.output)
  arrive_capped clock clock' (AtAssert a) now now' q e =
      then Any Any (h.all_tested (g.told v now a.terms)) (t.all_tested (c.told w now' a.terms))
      (λ z. h.◌>>◌ (h.all_tested (g.told v now a.clock)) (g.fall v clock (g.told v now a.clock))) (λ z. t.◌>>◌ (t.all_tested (c.told w now' a.clock)) (c.fall clock' (c.told w now' a.clock)))
      (tests_all (g.told v now a.terms) (c.told w now' a.terms) (told_capped now now' e a.terms))
      (λ x y z. then Any Any (h.all_tested (g.told v now a.clock)) (t.all_tested (c.told w now' a.clock)) (λ z. g.fall v clock (g.told v now a.clock)) (λ z. c.fall clock' (c.told w now' a.clock))
      (tests_all (g.told v now a.clock) (c.told w now' a.clock) (told_capped now now' e a.clock))
      (λ x y z. fall_capped clock clock' (g.told v now a.clock) (c.told w now' a.clock) q (told_capped now now' e a.clock)))

  line_capped : (o : Option Line) (pc : ℕ) (now now' : Named ℕ) → CapNames now now' → (cs : List ℕ) → Caps CapNames (perform o pc now cs) (c.perform_line w o pc now' cs)
  line_capped None pc now now' e cs = rests CapNames now now' e
  line_capped (Some line) pc now now' e cs = performed_capped p i u pc now now' e line.stmt cs

  along_capped : (steps : List Step) (clock : Option (List ℕ)) (clock' : Option ℕ) (end : ℕ) (now now' : Named ℕ) → CapClock clock clock' → CapNames now now'
      → Caps Any (along clock steps end now) (c.along w clock' steps end now')
  along_capped [] clock clock' end now now' q e = arrive_capped clock clock' (cut_at u notes end) now now' q e
  along_capped (At pc ∷ steps) clock clock' end now now' q e =
      then CapNames Any (perform (slice_get u.lines pc) pc now (turns steps)) (c.perform_line w (slice_get u.lines pc) pc now' (turns steps)) (λ after. along clock steps end after) (λ after. c.along w clock' steps end after)
      (line_capped (slice_get u.lines pc) pc now now' e (turns steps)) (λ after after' r. along_capped steps clock clock' end after after' q r)
  along_capped (Choice j d ∷ steps) clock clock' end now now' q e = along_capped steps clock clock' end now now' q e

  entry_capped : IsCapOf (g.entry_weight v) (c.entry_weight w)
  entry_capped =
      cap_both (2 + length u.names) (sum (g.told v g.all_one notes.input)) (t.both 2 (capped (length u.names))) (t.all (c.told w g.all_one notes.input))
      (cap_both 2 (length u.names) 2 (capped (length u.names)) refl refl) (weight_told g.all_one g.all_one ones notes.input)

  assert_capped : (o : Option Assertion) (steps : List Step) (end : ℕ) → Caps Any (weigh_assert o steps end) (c.from_assert w o steps end)
  assert_capped None steps end = nothing_done
  assert_capped (Some a) steps end =
      then Any Any (h.added (g.entry_weight v + sum (g.told v g.all_one a.terms) + sum (g.told v g.all_one a.clock))) (t.added (t.both (t.both (c.entry_weight w) (t.all (c.told w g.all_one a.terms))) (t.all (c.told w g.all_one a.clock))))
      (λ z. along (Some (g.told v g.all_one a.clock)) steps end g.all_one) (λ z. c.along w (Some (t.all (c.told w g.all_one a.clock))) steps end g.all_one)
      (adds (g.entry_weight v + sum (g.told v g.all_one a.terms) + sum (g.told v g.all_one a.clock)) (t.both (t.both (c.entry_weight w) (t.all (c.told w g.all_one a.terms))) (t.all (c.told w g.all_one a.clock)))
      (cap_both (g.entry_weight v + sum (g.told v g.all_one a.terms)) (sum (g.told v g.all_one a.clock)) (t.both (c.entry_weight w) (t.all (c.told w g.all_one a.terms))) (t.all (c.told w g.all_one a.clock))
      (cap_both (g.entry_weight v) (sum (g.told v g.all_one a.terms)) (c.entry_weight w) (t.all (c.told w g.all_one a.terms)) entry_capped (weight_told g.all_one g.all_one ones a.terms))
      (weight_told g.all_one g.all_one ones a.clock)))
      (λ x y z. along_capped steps (Some (g.told v g.all_one a.clock)) (Some (t.all (c.told w g.all_one a.clock))) end g.all_one g.all_one (weight_told g.all_one g.all_one ones a.clock) ones)

  start_capped : (start : ℕ) (steps : List Step) (end : ℕ) → Caps Any (weigh_start start steps end) (c.from_start w start steps end)
  start_capped zero steps end =
      then Any Any (h.added (g.entry_weight v)) (t.added (c.entry_weight w)) (λ z. along None steps end g.all_one) (λ z. c.along w None steps end g.all_one) (adds (g.entry_weight v) (c.entry_weight w) entry_capped)
      (λ x y z. along_capped steps None None end g.all_one g.all_one tt ones)
  start_capped (suc j) steps end = assert_capped (slice_get notes.asserts j) steps end

is_among_map : {A B : Type 0} (f : A → B) (x : A) (xs : List A) (j : ℕ) → slice_get xs j ≡ Some x → slice_get (map f xs) j ≡ Some (f x)
is_among_map f x [] j e = absurd cc
is_among_map f x (y ∷ xs) zero e = let same : y ≡ x = cc in ap (λ z. Some (f z)) same
is_among_map f x (y ∷ xs) (suc j) e = is_among_map f x xs j e

from_zero : (n : ℕ) → 0 + n ≡ n
from_zero n = omega arith

pub tallies_are_weights : TalliesAreWeights
tallies_are_weights p i u graph is way among =
    let path = (ways_are_paths p.dialect u (notes_of p i) graph is).whole (path_of way) in
    let l = path.1 (among.0, is_among_map path_of way (ways_of graph) among.0 among.1) in
    let f = ways_have_points p.dialect u (notes_of p i) graph is way among in
    let same = start_along p i u way.start way.steps way.end l f in
    let q = (start_capped p i u way.start way.steps way.end nothing_yet).0 in (
      ap (λ (x : Load). x.conditions) q ∙ ap capped (from_zero (length (weigh_start p i u way.start way.steps way.end 0).weights)) ∙ ap (λ part. capped (length (part 0).weights)) (sym same),
      ap (λ (x : Load). x.weight) q ∙ ap capped (from_zero (sum (weigh_start p i u way.start way.steps way.end 0).weights)) ∙ ap (λ part. capped (sum (part 0).weights)) (sym same),
    )
