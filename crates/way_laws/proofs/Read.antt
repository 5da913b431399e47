-- The points of ways are those of their paths.
use Rattle.std.proofs.Common.{◌≡◌, ◌⊎◌, ℕ, zero, suc, ◌+◌, ◌-◌, Bool, true, false, Option, Some, None, List, [], ◌∷◌, ◌++◌, map, slice_get, refl, sym, ap, ◌∙◌, subst, inl, inr, arith}
use Rattle.fort_syntax.specs.declared.dialect.Dialect.{Dialect}
use Rattle.fort_syntax.specs.declared.unit.Unit.{Unit as Routine}
use Rattle.fort_model.specs.Flow.{leads_at}
use Rattle.fort_model.specs.Graphs.{taken, goes_to, follow, IsGraphOf}
use Rattle.fort_model.specs.Lists.{IsAmong}
use Rattle.fort_model.specs.PathPoints.{on_from, points_from, point_in, start_point, points_of}
use Rattle.fort_model.specs.declared.graph.Fork.{Fork}
use Rattle.fort_model.specs.declared.graph.Graph.{Graph}
use Rattle.fort_model.specs.declared.graph.Target.{Target}
use Rattle.fort_model.specs.declared.graph.Target.TheVariants.{Point, Fork as AtFork}
use Rattle.fort_model.proofs.GraphLeads.{graphs_lead}
use Rattle.fort_notes.specs.Assertions.{Assertion, Notes}
use Rattle.note_laws.proofs.Small.{none_among, among_append}
use Rattle.path_cut.specs.declared.step.Step.TheVariants.{At, Choice}
use Rattle.path_cut.specs.Ways.{Way, is_marked, marks_of, limit_of, targets_of, behind_statement, ways_on, ways_from, ways_of}
use Rattle.path_laws.proofs.Pairs.{map_among}
use Rattle.way_laws.specs.PathsOf.{turns, choices_of, path_of, points_in, way_points}
use Rattle.way_laws.specs.Laws.{WaysHavePoints}
use Rattle.way_laws.proofs.Trails.{Trail, before, trails, statement_trails, each_trails, end_trails, way_by, ways_trails}

module _ (dialect : Dialect) (u : Routine) (notes : Notes) (graph : Graph) (h : IsGraphOf dialect u notes graph) where
  abbrev cut : ℕ → Bool
  cut = is_marked (marks_of graph)

  -- a trail from a target leads to a point, and from there through its points
  record Reads (t : Target) (r : Trail) : Type 0 where
    point : ℕ
    led : follow graph.forks t (turns r.steps) ≡ Some point
    points : points_from dialect u point (choices_of r.steps) ≡ points_in r.steps ++ r.end ∷ []

  -- from a statement on
  statement_points : (p : ℕ) (t : Target) → slice_get graph.starts p ≡ Some t → (r : Trail) → Reads t r
      → points_from dialect u p (choices_of (At p ∷ r.steps)) ≡ points_in (At p ∷ r.steps) ++ r.end ∷ []
  statement_points p t e r k =
      let leads : leads_at dialect u p (turns r.steps) ≡ Some k.point =
      sym (graphs_lead dialect u notes graph h p (turns r.steps)) ∙ ap (λ (o : Option Target). goes_to o (λ x. follow graph.forks x (turns r.steps))) e ∙ k.led in
      ap (λ (o : Option ℕ). p ∷ on_from o (λ q. points_from dialect u q (choices_of r.steps))) leads ∙ ap (λ ps. p ∷ ps) k.points

  module _ (n : ℕ) (rec : (t : Target) (r : Trail) → IsAmong r (trails graph cut n t) → Reads t r) where
    statement_reads : (p : ℕ) (o : Option Target) → slice_get graph.starts p ≡ o → (r : Trail) → IsAmong r (statement_trails graph cut (trails graph cut n) p o) → Reads (Point p) r
    statement_reads p None e r m = none_among m
    statement_reads p (Some t) e r m =
        let b = map_among (before (At p)) (trails graph cut n t) r m in
        subst (Reads (Point p)) b.2 (record { point = p; led = refl; points = statement_points p t e b.0 (rec t b.0 b.1) })

    end_reads : (b : Bool) (q : ℕ) (rs : List Trail) → ((r : Trail) → IsAmong r rs → Reads (Point q) r) → (r : Trail) → IsAmong r (end_trails graph cut b q rs) → Reads (Point q) r
    end_reads true q rs f r (zero, e) = let same : record { steps = []; end = q } ≡ r = cc in subst (Reads (Point q)) same (record { point = q; led = refl; points = refl })
    end_reads true q rs f r (suc i, e) = absurd cc
    end_reads false q rs f r m = f r m

    taken_at : (o : Option Fork) (i : ℕ) → taken o (suc i) ≡ slice_get (targets_of o) i
    taken_at None i = refl
    taken_at (Some f) i = refl

    each_reads : (k c : ℕ) (ts : List Target) → ((i : ℕ) → slice_get (targets_of (slice_get graph.forks k)) (c + i) ≡ slice_get ts i)
        → (r : Trail) → IsAmong r (each_trails graph cut (trails graph cut n) k c ts) → Reads (AtFork k) r
    each_reads k c [] same r m = none_among m
    each_reads k c (t ∷ ts) same r m = by (among_append r (map (before (Choice k (suc c))) (trails graph cut n t)) (each_trails graph cut (trails graph cut n) k (suc c) ts) m) (λ g. each_reads k (suc c) ts next r g)
      where
        next : (i : ℕ) → slice_get (targets_of (slice_get graph.forks k)) (suc c + i) ≡ slice_get ts i
        next i = let e : suc c + i ≡ c + suc i = omega arith in ap (λ j. slice_get (targets_of (slice_get graph.forks k)) j) e ∙ same (suc i)

        here : slice_get (targets_of (slice_get graph.forks k)) c ≡ Some t
        here = let e : c ≡ c + 0 = omega arith in ap (λ j. slice_get (targets_of (slice_get graph.forks k)) j) e ∙ same 0

        by : IsAmong r (map (before (Choice k (suc c))) (trails graph cut n t)) ⊎ IsAmong r (each_trails graph cut (trails graph cut n) k (suc c) ts)
            → (IsAmong r (each_trails graph cut (trails graph cut n) k (suc c) ts) → Reads (AtFork k) r) → Reads (AtFork k) r
        by (inl g) later =
            let b = map_among (before (Choice k (suc c))) (trails graph cut n t) r g in
            let v = rec t b.0 b.1 in
            subst (Reads (AtFork k)) b.2 (record {
              point = v.point;
              led = ap (λ (o : Option Target). goes_to o (λ x. follow graph.forks x (turns b.0.steps))) (taken_at (slice_get graph.forks k) c ∙ here) ∙ v.led;
              points = v.points;
            })
        by (inr g) later = later g

    reads_more : (t : Target) (r : Trail) → IsAmong r (trails graph cut (suc n) t) → Reads t r
    reads_more (Point q) r m = end_reads (cut q) q (statement_trails graph cut (trails graph cut n) q (slice_get graph.starts q)) (statement_reads q (slice_get graph.starts q) refl) r m
    reads_more (AtFork k) r m = each_reads k 0 (targets_of (slice_get graph.forks k)) zeroth r m
      where
        zeroth : (i : ℕ) → slice_get (targets_of (slice_get graph.forks k)) (0 + i) ≡ slice_get (targets_of (slice_get graph.forks k)) i
        zeroth i = let e : 0 + i ≡ i = omega arith in ap (λ j. slice_get (targets_of (slice_get graph.forks k)) j) e

  reads : (n : ℕ) (t : Target) (r : Trail) → IsAmong r (trails graph cut n t) → Reads t r
  reads zero t r m = none_among m
  reads (suc n) t r m = reads_more n (reads n) t r m

  -- ---- ways

  abbrev limit : ℕ
  limit = limit_of graph

  entry_right : (r : Trail) → Reads (Point 0) r → points_from dialect u 0 (choices_of r.steps) ≡ points_in r.steps ++ r.end ∷ []
  entry_right r k = by (turns r.steps) k.led
    where
      by : (cs : List ℕ) → follow graph.forks (Point 0) cs ≡ Some k.point → points_from dialect u 0 (choices_of r.steps) ≡ points_in r.steps ++ r.end ∷ []
      by [] e = let same : 0 ≡ k.point = cc in ap (λ q. points_from dialect u q (choices_of r.steps)) same ∙ k.points
      by (c ∷ cs) e = absurd cc

  from_entry : (w : Way) → IsAmong w (ways_on graph cut limit 0 [] (Point 0)) → points_of dialect u notes (path_of w) ≡ way_points w
  from_entry w m =
      let b = map_among (way_by graph cut 0 []) (trails graph cut (limit - 0) (Point 0)) w (subst (IsAmong w) (ways_trails graph cut 0 (limit - 0) [] (Point 0)) m) in
      subst (λ (v : Way). points_of dialect u notes (path_of v) ≡ way_points v) b.2 (entry_right b.0 (reads (limit - 0) (Point 0) b.0 b.1))

  from_statement : (s p : ℕ) → start_point notes s ≡ Some p → (o : Option Target) → slice_get graph.starts p ≡ o
      → (w : Way) → IsAmong w (behind_statement graph cut s (ways_on graph cut limit s) [] p o) → points_of dialect u notes (path_of w) ≡ way_points w
  from_statement s p e None g w m = none_among m
  from_statement s p e (Some t) g w m =
      let n = limit - 1 in
      let b = map_among (way_by graph cut s (At p ∷ [])) (trails graph cut n t) w (subst (IsAmong w) (ways_trails graph cut s n (At p ∷ []) t) m) in
      subst (λ (v : Way). points_of dialect u notes (path_of v) ≡ way_points v) b.2
      (ap (λ (q : Option ℕ). on_from q (λ pc. points_from dialect u pc (choices_of (At p ∷ b.0.steps)))) e ∙ statement_points p t g b.0 (reads n t b.0 b.1))

  from_asserts : (k : ℕ) (asserts : List Assertion) → ((i : ℕ) → slice_get notes.asserts (k + i) ≡ slice_get asserts i)
      → (w : Way) → IsAmong w (ways_from graph cut limit (suc k) (map (λ (a : Assertion). a.point) asserts)) → points_of dialect u notes (path_of w) ≡ way_points w
  from_asserts k [] same w m = none_among m
  from_asserts k (a ∷ asserts) same w m =
      by (among_append w (behind_statement graph cut (suc k) (ways_on graph cut limit (suc k)) [] a.point (slice_get graph.starts a.point)) (ways_from graph cut limit (suc (suc k)) (map (λ (b : Assertion). b.point) asserts)) m)
      (λ g. from_asserts (suc k) asserts next w g)
    where
      next : (i : ℕ) → slice_get notes.asserts (suc k + i) ≡ slice_get asserts i
      next i = let e : suc k + i ≡ k + suc i = omega arith in ap (λ j. slice_get notes.asserts j) e ∙ same (suc i)

      here : start_point notes (suc k) ≡ Some a.point
      here = let e : k ≡ k + 0 = omega arith in ap (λ (o : Option Assertion). point_in o) (ap (λ j. slice_get notes.asserts j) e ∙ same 0)

      by : IsAmong w (behind_statement graph cut (suc k) (ways_on graph cut limit (suc k)) [] a.point (slice_get graph.starts a.point))
          ⊎ IsAmong w (ways_from graph cut limit (suc (suc k)) (map (λ (b : Assertion). b.point) asserts))
          → (IsAmong w (ways_from graph cut limit (suc (suc k)) (map (λ (b : Assertion). b.point) asserts)) → points_of dialect u notes (path_of w) ≡ way_points w)
          → points_of dialect u notes (path_of w) ≡ way_points w
      by (inl g) later = from_statement (suc k) a.point here (slice_get graph.starts a.point) refl w g
      by (inr g) later = later g

  all_right : (w : Way) → IsAmong w (ways_of graph) → points_of dialect u notes (path_of w) ≡ way_points w
  all_right w m = by (among_append w (ways_on graph cut limit 0 [] (Point 0)) (ways_from graph cut limit 1 graph.cuts) m)
    where
      zeroth : (i : ℕ) → slice_get notes.asserts (0 + i) ≡ slice_get notes.asserts i
      zeroth i = let e : 0 + i ≡ i = omega arith in ap (λ j. slice_get notes.asserts j) e

      by : IsAmong w (ways_on graph cut limit 0 [] (Point 0)) ⊎ IsAmong w (ways_from graph cut limit 1 graph.cuts) → points_of dialect u notes (path_of w) ≡ way_points w
      by (inl g) = from_entry w g
      by (inr g) = from_asserts 0 notes.asserts zeroth w (subst (λ ps. IsAmong w (ways_from graph cut limit 1 ps)) h.cuts g)

pub ways_have_points : WaysHavePoints
ways_have_points dialect u notes graph h w m = all_right dialect u notes graph h w m
