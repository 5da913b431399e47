-- Walks along the paths of ways.
use Rattle.std.proofs.Common.{◌≡◌, ℕ, zero, suc, List, [], ◌∷◌, ◌++◌, map, Option, Some, None, slice_get, append_assoc, refl, sym, ap, ◌∙◌, subst}
use Rattle.formula.specs.Tree.{Tree}
use Rattle.fort_syntax.specs.declared.unit.Line.{Line}
use Rattle.fort_model.specs.Events.{Event, takes}
use Rattle.fort_model.specs.Flow.{leads, leads_by}
use Rattle.fort_model.specs.PathPoints.{on_from, point_in, points_from, points_of, start_point}
use Rattle.fort_model.specs.Paths.{AtAssert, AtEnd, Cut, IsPath, IsWay, NoCut, cut_at, goes_from, goes_on, is_path_from, over_or, starts_at}
use Rattle.fort_model.specs.Seen.{Answers, Named, symbols_of_calls}
use Rattle.fort_model.specs.Senses.{note}
use Rattle.fort_model.specs.Walk.{arrive, at_entry, at_start, entry_facts, from_assert, from_start, go_on, notes_here, perform_line, start_facts, walk, walk_from}
use Rattle.fort_model.specs.WalkCalls.{Sight}
use Rattle.fort_model.specs.WalkStmt.{performed}
use Rattle.fort_notes.specs.Assertions.{Assertion}
use Rattle.path_cut.specs.Ways.{Way}
use Rattle.path_cut.specs.declared.step.Step.{Step}
use Rattle.path_cut.specs.declared.step.Step.TheVariants.{At, Choice}
use Rattle.way_laws.specs.PathsOf.{choices_of, path_of, points_in, turns, way_points}
use Rattle.way_walks.specs.Along.{Gone, along, along_from_assert, arrives_behind, gone, gone_on, stops}
use Rattle.way_walks.specs.Laws.{WalksGoAlong}

abbrev choices : List (ℕ × List ℕ) → List (List ℕ)
choices ss = map (λ (s : ℕ × List ℕ). s.1) ss

abbrev points : List (ℕ × List ℕ) → List ℕ
points ss = map (λ (s : ℕ × List ℕ). s.0) ss

same_choices : (steps : List Step) → choices_of steps ≡ choices (stops steps)
same_choices [] = refl
same_choices (At pc ∷ steps) = ap (λ (css : List (List ℕ)). turns steps ∷ css) (same_choices steps)
same_choices (Choice k c ∷ steps) = same_choices steps

same_points : (steps : List Step) → points_in steps ≡ points (stops steps)
same_points [] = refl
same_points (At pc ∷ steps) = ap (λ (ps : List ℕ). pc ∷ ps) (same_points steps)
same_points (Choice k c ∷ steps) = same_points steps

nothing_is : {X : Type 0} (x : X) (xs : List X) → ◌≡◌ {A = List X} (x ∷ xs) [] → ⊥
nothing_is x xs e = cc

first_is : {X : Type 0} (x y : X) (xs ys : List X) → ◌≡◌ {A = List X} (x ∷ xs) (y ∷ ys) → x ≡ y
first_is x y xs ys e = cc

rest_is : {X : Type 0} (x y : X) (xs ys : List X) → ◌≡◌ {A = List X} (x ∷ xs) (y ∷ ys) → ◌≡◌ {A = List X} xs ys
rest_is x y xs ys e = cc

-- at no cut point nothing comes behind a list of points that is empty
none_left : (ss : List (ℕ × List ℕ)) → choices ss ≡ [] → ss ≡ []
none_left [] e = refl
none_left (s ∷ ss) e = absurd (nothing_is s.1 (choices ss) e)

module _ (w : Sight Tree) (clock : Option (List Tree)) (end : ℕ) where
  -- the walk from a point along some statements, as the model has it and as they stand
  abbrev Agree : ℕ → List (ℕ × List ℕ) → Type 0
  Agree pc ss =
      (card : ℕ) (now : Named Tree) (answers : Answers Tree) → IsWay w.program.dialect w.unit (notes_here w) pc (choices ss)
      → points_from w.program.dialect w.unit pc (choices ss) ≡ points ss ++ end ∷ []
      → walk_from w clock pc now answers (choices ss) ≡ arrives_behind w clock end (gone w ss card now answers)

  -- a path that ends at a cut point
  ended : (cut : Cut) (q : ℕ) (ss : List (ℕ × List ℕ)) (card : ℕ) (now : Named Tree) (answers : Answers Tree) (on : List (Event Tree)) → cut_at w.unit (notes_here w) q ≡ cut → choices ss ≡ []
      → points_from w.program.dialect w.unit q (choices ss) ≡ points ss ++ end ∷ [] → arrive w clock card cut now on ≡ arrive w clock card cut now []
      → arrive w clock card cut now on ≡ arrives_behind w clock end (gone w ss card now answers)
  ended cut q ss card now answers on c over pts same =
      let nil = none_left ss over in
      let one : q ∷ [] ≡ end ∷ [] = (λ i. points_from w.program.dialect w.unit q (choices (sym nil i))) ∙ (pts ∙ (λ i. points (nil i) ++ end ∷ [])) in
      let e = first_is q end [] [] one in
      same
      ∙ ((λ i. arrive w clock card ((sym c ∙ ap (cut_at w.unit (notes_here w)) e) i) now [])
      ∙ (λ i. arrives_behind w clock end (gone w (sym nil i) card now answers)))

  -- behind a statement, at a cut point or before the next statement
  behind_cut : (cut : Cut) (q : ℕ) (ss : List (ℕ × List ℕ)) (card : ℕ) (now : Named Tree) (answers : Answers Tree) → cut_at w.unit (notes_here w) q ≡ cut
      → over_or w.program.dialect w.unit (notes_here w) cut (choices ss) (IsWay w.program.dialect w.unit (notes_here w) q (choices ss))
      → points_from w.program.dialect w.unit q (choices ss) ≡ points ss ++ end ∷ [] → Agree q ss
      → arrive w clock card cut now (walk_from w clock q now answers (choices ss)) ≡ arrives_behind w clock end (gone w ss card now answers)
  behind_cut NoCut q ss card now answers c over pts agree = agree card now answers over pts
  behind_cut AtEnd q ss card now answers c over pts agree = ended AtEnd q ss card now answers (walk_from w clock q now answers (choices ss)) c over pts refl
  behind_cut (AtAssert a) q ss card now answers c over pts agree = ended (AtAssert a) q ss card now answers (walk_from w clock q now answers (choices ss)) c over pts refl

  lead_case : (o : Option ℕ) (ss : List (ℕ × List ℕ)) (card : ℕ) (now : Named Tree) (answers : Answers Tree)
      → goes_on w.program.dialect w.unit (notes_here w) o (choices ss) (λ q. IsWay w.program.dialect w.unit (notes_here w) q (choices ss))
      → on_from o (λ q. points_from w.program.dialect w.unit q (choices ss)) ≡ points ss ++ end ∷ [] → ((q : ℕ) → Agree q ss)
      → go_on w clock card o now (λ q. walk_from w clock q now answers (choices ss)) ≡ arrives_behind w clock end (gone w ss card now answers)
  lead_case None ss card now answers way pts agree = absurd way
  lead_case (Some q) ss card now answers way pts agree = behind_cut (cut_at w.unit (notes_here w) q) q ss card now answers refl way pts (agree q)

  line_case : (o : Option Line) (pc : ℕ) (cs : List ℕ) (ss : List (ℕ × List ℕ)) (card : ℕ) (now : Named Tree) (answers : Answers Tree)
      → goes_from w.program.dialect w.unit (notes_here w) o pc cs (choices ss) (λ q. IsWay w.program.dialect w.unit (notes_here w) q (choices ss))
      → on_from (leads_by w.program.dialect w.unit pc o cs) (λ q. points_from w.program.dialect w.unit q (choices ss)) ≡ points ss ++ end ∷ [] → ((q : ℕ) → Agree q ss)
      → perform_line w clock o pc now answers cs (λ q after rest. walk_from w clock q after rest (choices ss))
      ≡ arrives_behind w clock end (gone_on w o pc cs card now answers (λ c later left. gone w ss c later left))
  line_case None pc cs ss card now answers way pts agree = absurd way
  line_case (Some line) pc cs ss card now answers way pts agree =
      let done = performed w line.card pc now line.stmt cs answers in
      let later = gone w ss line.card done.value done.rest in
      ap (λ (es : List (Event Tree)). done.events ++ es) (lead_case (leads w.program.dialect w.unit pc line.stmt cs) ss line.card done.value done.rest way pts agree)
      ∙ sym (append_assoc done.events later.events (arrive w clock later.card (cut_at w.unit (notes_here w) end) later.now []))

  agrees : (ss : List (ℕ × List ℕ)) (pc : ℕ) → Agree pc ss
  agrees [] pc card now answers way pts = absurd way
  agrees (s ∷ ss) pc card now answers way pts =
      let e = first_is pc s.0 (on_from (leads_by w.program.dialect w.unit pc (slice_get w.unit.lines pc) s.1) (λ q. points_from w.program.dialect w.unit q (choices ss))) (points ss ++ end ∷ []) pts in
      let r = rest_is pc s.0 (on_from (leads_by w.program.dialect w.unit pc (slice_get w.unit.lines pc) s.1) (λ q. points_from w.program.dialect w.unit q (choices ss))) (points ss ++ end ∷ []) pts in
      line_case (slice_get w.unit.lines pc) pc s.1 ss card now answers way r (λ q. agrees ss q)
      ∙ (λ i. arrives_behind w clock end (gone_on w (slice_get w.unit.lines (e i)) (e i) s.1 card now answers (λ c later left. gone w ss c later left)))

-- ---- from a start

points_same : (w : Sight Tree) (pc : ℕ) (steps : List Step) (end : ℕ) → points_from w.program.dialect w.unit pc (choices_of steps) ≡ points_in steps ++ end ∷ []
    → points_from w.program.dialect w.unit pc (choices (stops steps)) ≡ points (stops steps) ++ end ∷ []
points_same w pc steps end pts = (λ i. points_from w.program.dialect w.unit pc (sym (same_choices steps) i)) ∙ (pts ∙ (λ i. same_points steps i ++ end ∷ []))

from_assert_case : (w : Sight Tree) (o : Option Assertion) (steps : List Step) (end : ℕ) → starts_at w.program.dialect w.unit (notes_here w) o (choices_of steps)
    → on_from (point_in o) (λ pc. points_from w.program.dialect w.unit pc (choices_of steps)) ≡ points_in steps ++ end ∷ []
    → from_assert w (symbols_of_calls w.sense) o (choices_of steps) ≡ along_from_assert w o steps end
from_assert_case w None steps end way pts = absurd way
from_assert_case w (Some a) steps end way pts =
    let clock = Some (map (note w.sense (at_entry w) (at_start w)) a.clock) in
    ap (λ (es : List (Event Tree)). takes (entry_facts w) ++ takes (start_facts w a) ++ es)
    ((λ i. walk_from w clock a.point (at_start w) (symbols_of_calls w.sense) (same_choices steps i))
    ∙ agrees w clock end (stops steps) a.point 0 (at_start w) (symbols_of_calls w.sense)
    (subst (λ (css : List (List ℕ)). IsWay w.program.dialect w.unit (notes_here w) a.point css) (same_choices steps) way) (points_same w a.point steps end pts))

from_start_case : (w : Sight Tree) (start : ℕ) (steps : List Step) (end : ℕ) → is_path_from w.program.dialect w.unit (notes_here w) start (choices_of steps)
    → on_from (start_point (notes_here w) start) (λ pc. points_from w.program.dialect w.unit pc (choices_of steps)) ≡ points_in steps ++ end ∷ []
    → from_start w (symbols_of_calls w.sense) start (choices_of steps) ≡ along w start steps end
from_start_case w zero steps end way pts =
    let cut = cut_at w.unit (notes_here w) 0 in
    ap (λ (es : List (Event Tree)). takes (entry_facts w) ++ es)
    ((λ i. arrive w None 0 cut (at_entry w) (walk_from w None 0 (at_entry w) (symbols_of_calls w.sense) (same_choices steps i)))
    ∙ behind_cut w None end cut 0 (stops steps) 0 (at_entry w) (symbols_of_calls w.sense) refl
    (subst (λ (css : List (List ℕ)). over_or w.program.dialect w.unit (notes_here w) cut css (IsWay w.program.dialect w.unit (notes_here w) 0 css)) (same_choices steps) way)
    (points_same w 0 steps end pts) (agrees w None end (stops steps) 0))
from_start_case w (suc k) steps end way pts = from_assert_case w (slice_get (notes_here w).asserts k) steps end way pts

pub walks_go_along : WalksGoAlong
walks_go_along w way path pts = from_start_case w way.start way.steps way.end path pts
