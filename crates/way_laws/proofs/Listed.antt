-- The trails from a target are all choices that lead to a cut point, in order.
use Rattle.std.proofs.Common.{◌≡◌, ◌⊎◌, ℕ, zero, suc, ◌+◌, ◌<◌, Bool, true, false, Option, Some, None, List, [], ◌∷◌, ◌++◌, map, slice_get, refl, sym, ap, ◌∙◌, subst, inl, inr, arith}
use Rattle.std.specs.List.{concat}
use Rattle.fort_syntax.specs.declared.dialect.Dialect.{Dialect}
use Rattle.fort_syntax.specs.declared.unit.Line.{Line}
use Rattle.fort_syntax.specs.declared.unit.Unit.{Unit as Routine}
use Rattle.fort_model.specs.Flow.{leads_by, leads_at}
use Rattle.fort_model.specs.Graphs.{taken, goes_to, follow, IsGraphOf}
use Rattle.fort_model.specs.Paths.{Cut, NoCut, AtEnd, AtAssert, cut_at, over_or, goes_on, goes_from, IsWay}
use Rattle.fort_model.specs.declared.graph.Fork.{Fork}
use Rattle.fort_model.specs.declared.graph.Graph.{Graph}
use Rattle.fort_model.specs.declared.graph.Target.{Target}
use Rattle.fort_model.specs.declared.graph.Target.TheVariants.{Point, Fork as AtFork}
use Rattle.fort_model.proofs.GraphLeads.{graphs_lead}
use Rattle.fort_notes.specs.Assertions.{Notes}
use Rattle.path_cut.specs.declared.step.Step.TheVariants.{At, Choice}
use Rattle.path_cut.specs.Ways.{is_marked, marks_of, targets_of}
use Rattle.path_laws.proofs.Pairs.{Below, below_front, below_heads}
use Rattle.way_laws.specs.PathsOf.{turns, choices_of}
use Rattle.way_laws.proofs.Fuel.{enough, each_enough, start_enough, or_enough}
use Rattle.way_laws.proofs.Lists.{Lists, none_in, one_in, retold_in, both_in, made_in, in_same}
use Rattle.way_laws.proofs.Marks.{is_cut, marks_agree, unmarked_goes_on}
use Rattle.way_laws.proofs.Trails.{Trail, before, map_append, map_twice, trails, statement_trails, each_trails, end_trails}

-- the choices at the statement that leads to a target, and at those behind it
abbrev pub full : Trail → List (List ℕ)
full r = turns r.steps ∷ choices_of r.steps

-- one choice more at the first statement
abbrev turn_by : ℕ → List (List ℕ) → List (List ℕ)
turn_by i [] = (i ∷ []) ∷ []
turn_by i (cs ∷ way) = (i ∷ cs) ∷ way

turned : (i : ℕ) (w : List (List ℕ)) → concat (turn_by i w) ≡ i ∷ concat w
turned i [] = refl
turned i (cs ∷ way) = refl

turn_order : (i : ℕ) (x y : List (List ℕ)) → Below (concat x) (concat y) → Below (concat (turn_by i x)) (concat (turn_by i y))
turn_order i x y h =
    subst (λ a. Below a (concat (turn_by i y))) (sym (turned i x)) (subst (λ b. Below (i ∷ concat x) b) (sym (turned i y)) (below_front (i ∷ []) (concat x) (concat y) h))

-- at a cut point a way is over
pub over_at : (c : Cut) (way : List (List ℕ)) (P : Type 0) → is_cut c ≡ true → (dialect : Dialect) (u : Routine) (notes : Notes) → over_or dialect u notes c way P → way ≡ []
over_at NoCut way P e dialect u notes h = absurd cc
over_at AtEnd way P e dialect u notes h = h
over_at (AtAssert a) way P e dialect u notes h = h

pub over_there : (c : Cut) (P : Type 0) → is_cut c ≡ true → (dialect : Dialect) (u : Routine) (notes : Notes) → over_or dialect u notes c [] P
over_there NoCut P e dialect u notes = absurd cc
over_there AtEnd P e dialect u notes = refl
over_there (AtAssert a) P e dialect u notes = refl

module _ (dialect : Dialect) (u : Routine) (notes : Notes) (graph : Graph) (h : IsGraphOf dialect u notes graph) where
  abbrev cut : ℕ → Bool
  cut = is_marked (marks_of graph)

  agree : (q : ℕ) (b : Bool) → cut q ≡ b → is_cut (cut_at u notes q) ≡ b
  agree q b e = sym (marks_agree dialect u notes graph h q) ∙ e

  -- choices that lead from a target to the next cut point
  abbrev pub Goes : Target → List (List ℕ) → Type 0
  Goes t [] = ⊥
  Goes t (cs ∷ way) = goes_on dialect u notes (follow graph.forks t cs) way (λ q. IsWay dialect u notes q way)

  -- ---- at a point

  same_from : (o : Option Line) (pc : ℕ) (cs : List ℕ) (way : List (List ℕ)) (on : ℕ → Type 0)
      → goes_from dialect u notes o pc cs way on ≡ goes_on dialect u notes (leads_by dialect u pc o cs) way on
  same_from None pc cs way on = refl
  same_from (Some line) pc cs way on = refl

  -- what leads from a point is what leads from its target
  led : (q : ℕ) (o : Option Target) → slice_get graph.starts q ≡ o → (cs : List ℕ) → leads_at dialect u q cs ≡ goes_to o (λ x. follow graph.forks x cs)
  led q o e cs = sym (graphs_lead dialect u notes graph h q cs) ∙ ap (λ (p : Option Target). goes_to p (λ x. follow graph.forks x cs)) e

  pub way_goes : (q : ℕ) (t : Target) → slice_get graph.starts q ≡ Some t → (w : List (List ℕ)) → IsWay dialect u notes q w → Goes t w
  way_goes q t e [] k = k
  way_goes q t e (cs ∷ way) k =
      let on = subst (λ (T : Type 0). T) (same_from (slice_get u.lines q) q cs way (λ r. IsWay dialect u notes r way)) k in
      subst (λ (o : Option ℕ). goes_on dialect u notes o way (λ r. IsWay dialect u notes r way)) (led q (Some t) e cs) on

  pub goes_way : (q : ℕ) (t : Target) → slice_get graph.starts q ≡ Some t → (w : List (List ℕ)) → Goes t w → IsWay dialect u notes q w
  goes_way q t e [] k = k
  goes_way q t e (cs ∷ way) k =
      let on = subst (λ (o : Option ℕ). goes_on dialect u notes o way (λ r. IsWay dialect u notes r way)) (sym (led q (Some t) e cs)) k in
      subst (λ (T : Type 0). T) (sym (same_from (slice_get u.lines q) q cs way (λ r. IsWay dialect u notes r way))) on

  pub no_way : (q : ℕ) → slice_get graph.starts q ≡ None → (w : List (List ℕ)) → IsWay dialect u notes q w → ⊥
  no_way q e [] k = k
  no_way q e (cs ∷ way) k =
      let on = subst (λ (T : Type 0). T) (same_from (slice_get u.lines q) q cs way (λ r. IsWay dialect u notes r way)) k in
      subst (λ (o : Option ℕ). goes_on dialect u notes o way (λ r. IsWay dialect u notes r way)) (led q None e cs) on

  abbrev no_turn : List (List ℕ)
  no_turn = [] ∷ []

  cut_goes : (q : ℕ) → cut q ≡ true → (w : List (List ℕ)) → Goes (Point q) w → no_turn ≡ w
  cut_goes q e [] k = absurd k
  cut_goes q e ([] ∷ way) k = ap (λ (z : List (List ℕ)). [] ∷ z) (sym (over_at (cut_at u notes q) way (IsWay dialect u notes q way) (agree q true e) dialect u notes k))
  cut_goes q e ((c ∷ cs) ∷ way) k = absurd k

  -- where a point is no cut point the way goes on there
  uncut : (q : ℕ) → cut q ≡ false → cut_at u notes q ≡ NoCut
  uncut q e = unmarked_goes_on (cut_at u notes q) (agree q false e)

  point_way : (q : ℕ) → cut q ≡ false → (w : List (List ℕ)) → Goes (Point q) w → (way : List (List ℕ)) × IsWay dialect u notes q way × ([] ∷ way ≡ w)
  point_way q e [] k = absurd k
  point_way q e ([] ∷ way) k = (way, subst (λ (c : Cut). over_or dialect u notes c way (IsWay dialect u notes q way)) (uncut q e) k, refl)
  point_way q e ((c ∷ cs) ∷ way) k = absurd k

  way_point : (q : ℕ) → cut q ≡ false → (way : List (List ℕ)) → IsWay dialect u notes q way → Goes (Point q) ([] ∷ way)
  way_point q e way k = subst (λ (c : Cut). over_or dialect u notes c way (IsWay dialect u notes q way)) (sym (uncut q e)) k

  -- ---- at a fork

  -- choices that begin with one of some targets, before which so many others stand
  record Picks (c : ℕ) (ts : List Target) (w : List (List ℕ)) : Type 0 where
    place : ℕ
    picked : Target
    at : slice_get ts place ≡ Some picked
    way : List (List ℕ)
    goes : Goes picked way
    whole : turn_by (suc c + place) way ≡ w

  abbrev FirstPick : ℕ → Target → List (List ℕ) → Type 0
  FirstPick c t w = (way : List (List ℕ)) × Goes t way × (turn_by (suc c) way ≡ w)

  pick_order : (c : ℕ) (t : Target) (ts : List Target) (x y : List (List ℕ)) → FirstPick c t x → Picks (suc c) ts y → Below (concat x) (concat y)
  pick_order c t ts x y f p =
      let lt : suc c < suc (suc c) + p.place = omega arith in
      let below = below_heads (suc c) (suc (suc c) + p.place) (concat f.0) (concat p.way) lt in
      subst (λ a. Below (concat a) (concat y)) f.2 (subst (λ b. Below (concat (turn_by (suc c) f.0)) (concat b)) p.whole
      (subst (λ a. Below a (concat (turn_by (suc (suc c) + p.place) p.way))) (sym (turned (suc c) f.0)) (subst (λ b. Below (suc c ∷ concat f.0) b) (sym (turned (suc (suc c) + p.place) p.way)) below)))

  pick_first : (c : ℕ) (t : Target) (ts : List Target) (w : List (List ℕ)) → FirstPick c t w → Picks c (t ∷ ts) w
  pick_first c t ts w f = let e : suc c + 0 ≡ suc c = omega arith in record { place = 0; picked = t; at = refl; way = f.0; goes = f.1; whole = ap (λ i. turn_by i f.0) e ∙ f.2 }

  pick_later : (c : ℕ) (t : Target) (ts : List Target) (w : List (List ℕ)) → Picks (suc c) ts w → Picks c (t ∷ ts) w
  pick_later c t ts w p =
      let e : suc c + suc p.place ≡ suc (suc c) + p.place = omega arith in
      record { place = suc p.place; picked = p.picked; at = p.at; way = p.way; goes = p.goes; whole = ap (λ i. turn_by i p.way) e ∙ p.whole }

  pick_split : (c : ℕ) (t : Target) (ts : List Target) (w : List (List ℕ)) → Picks c (t ∷ ts) w → FirstPick c t w ⊎ Picks (suc c) ts w
  pick_split c t ts w p = by p.place p.picked p.at p.way p.goes p.whole
    where
      by : (i : ℕ) (x : Target) → slice_get (t ∷ ts) i ≡ Some x → (way : List (List ℕ)) → Goes x way → turn_by (suc c + i) way ≡ w → FirstPick c t w ⊎ Picks (suc c) ts w
      by zero x e way g f =
          let same : t ≡ x = cc in
          let k : suc c ≡ suc c + 0 = omega arith in
          inl (way, subst (λ (z : Target). Goes z way) (sym same) g, ap (λ i. turn_by i way) k ∙ f)
      by (suc i) x e way g f =
          let k : suc (suc c) + i ≡ suc c + suc i = omega arith in
          inr (record { place = i; picked = x; at = e; way = way; goes = g; whole = ap (λ j. turn_by j way) k ∙ f })

  taken_at : (o : Option Fork) (i : ℕ) → taken o (suc i) ≡ slice_get (targets_of o) i
  taken_at None i = refl
  taken_at (Some f) i = refl

  abbrev targets : ℕ → List Target
  targets k = targets_of (slice_get graph.forks k)

  pick_goes : (k : ℕ) (w : List (List ℕ)) → Picks 0 (targets k) w → Goes (AtFork k) w
  pick_goes k w p = by p.way p.goes p.whole
    where
      by : (way : List (List ℕ)) → Goes p.picked way → turn_by (suc 0 + p.place) way ≡ w → Goes (AtFork k) w
      by [] g f = absurd g
      by (cs ∷ way) g f =
          let n : suc p.place ≡ suc 0 + p.place = omega arith in
          let e : goes_to (taken (slice_get graph.forks k) (suc p.place)) (λ x. follow graph.forks x cs) ≡ follow graph.forks p.picked cs
          = ap (λ (o : Option Target). goes_to o (λ x. follow graph.forks x cs)) (taken_at (slice_get graph.forks k) p.place ∙ p.at) in
          let goes : Goes (AtFork k) ((suc p.place ∷ cs) ∷ way) = subst (λ (o : Option ℕ). goes_on dialect u notes o way (λ q. IsWay dialect u notes q way)) (sym e) g in
          subst (Goes (AtFork k)) (ap (λ i. turn_by i (cs ∷ way)) n ∙ f) goes

  zero_taken : (o : Option Fork) → taken o zero ≡ None
  zero_taken None = refl
  zero_taken (Some f) = refl

  goes_pick : (k : ℕ) (w : List (List ℕ)) → Goes (AtFork k) w → Picks 0 (targets k) w
  goes_pick k [] g = absurd g
  goes_pick k ([] ∷ way) g = absurd g
  goes_pick k ((zero ∷ cs) ∷ way) g =
      absurd (subst (λ (o : Option ℕ). goes_on dialect u notes o way (λ q. IsWay dialect u notes q way)) (ap (λ (o : Option Target). goes_to o (λ x. follow graph.forks x cs)) (zero_taken (slice_get graph.forks k))) g)
  goes_pick k ((suc i ∷ cs) ∷ way) g = by (slice_get (targets k) i) refl
    where
      by : (o : Option Target) → slice_get (targets k) i ≡ o → Picks 0 (targets k) ((suc i ∷ cs) ∷ way)
      by None e =
          absurd (subst (λ (o : Option ℕ). goes_on dialect u notes o way (λ q. IsWay dialect u notes q way)) (ap (λ (o : Option Target). goes_to o (λ x. follow graph.forks x cs)) (taken_at (slice_get graph.forks k) i ∙ e)) g)
      by (Some t) e =
          let n : suc 0 + i ≡ suc i = omega arith in
          record {
            place = i;
            picked = t;
            at = e;
            way = cs ∷ way;
            goes = subst (λ (o : Option ℕ). goes_on dialect u notes o way (λ q. IsWay dialect u notes q way)) (ap (λ (o : Option Target). goes_to o (λ x. follow graph.forks x cs)) (taken_at (slice_get graph.forks k) i ∙ e)) g;
            whole = ap (λ j. turn_by j (cs ∷ way)) n;
          }

  -- ---- all

  -- steps before trails are choices more at the first statement, or a statement more
  turn_full : (k i : ℕ) (rs : List Trail) → map (turn_by i) (map full rs) ≡ map full (map (before (Choice k i)) rs)
  turn_full k i rs = map_twice (turn_by i) full rs ∙ sym (map_twice full (before (Choice k i)) rs)

  at_full : (p : ℕ) (rs : List Trail) → map (λ (w : List (List ℕ)). [] ∷ w) (map full rs) ≡ map full (map (before (At p)) rs)
  at_full p rs = map_twice (λ (w : List (List ℕ)). [] ∷ w) full rs ∙ sym (map_twice full (before (At p)) rs)

  module _ (n : ℕ) (rec : (t : Target) → enough graph cut n t → Lists (Goes t) concat (map full (trails graph cut n t))) where
    point_listed : (q : ℕ) (b : Bool) → cut q ≡ b → (o : Option Target) → slice_get graph.starts q ≡ o → or_enough graph cut b (start_enough graph cut (enough graph cut n) o)
        → Lists (Goes (Point q)) concat (map full (end_trails graph cut b q (statement_trails graph cut (trails graph cut n) q o)))
    point_listed q true e o s k =
        one_in (Goes (Point q)) concat no_turn (over_there (cut_at u notes q) (IsWay dialect u notes q []) (agree q true e) dialect u notes) (cut_goes q e)
    point_listed q false e None s k = none_in (Goes (Point q)) concat (λ w g. let r = point_way q e w g in no_way q s r.0 r.1)
    point_listed q false e (Some t) s k =
        in_same (Goes (Point q)) concat (map (λ w. [] ∷ w) (map full (trails graph cut n t))) (map full (map (before (At q)) (trails graph cut n t))) (at_full q (trails graph cut n t))
        (made_in (Goes t) (Goes (Point q)) concat concat (λ w. [] ∷ w) (map full (trails graph cut n t)) (rec t k) (λ x y below. below)
        (λ w g. way_point q e w (goes_way q t s w g))
        (λ w g. let r = point_way q e w g in (r.0, way_goes q t s r.0 r.1, r.2)))

    each_listed : (k c : ℕ) (ts : List Target) → each_enough graph cut (enough graph cut n) ts → Lists (Picks c ts) concat (map full (each_trails graph cut (trails graph cut n) k c ts))
    each_listed k c [] e = none_in (Picks c []) concat (λ w p. let f = p.at in absurd cc)
    each_listed k c (t ∷ ts) e =
        let rs = trails graph cut n t in
        let others = each_trails graph cut (trails graph cut n) k (suc c) ts in
        let first : Lists (FirstPick c t) concat (map full (map (before (Choice k (suc c))) rs)) =
        in_same (FirstPick c t) concat (map (turn_by (suc c)) (map full rs)) (map full (map (before (Choice k (suc c))) rs)) (turn_full k (suc c) rs)
        (made_in (Goes t) (FirstPick c t) concat concat (turn_by (suc c)) (map full rs) (rec t e.0) (turn_order (suc c)) (λ w g. (w, g, refl)) (λ w f. f)) in
        in_same (Picks c (t ∷ ts)) concat (map full (map (before (Choice k (suc c))) rs) ++ map full others) (map full (map (before (Choice k (suc c))) rs ++ others))
        (sym (map_append full (map (before (Choice k (suc c))) rs) others))
        (both_in (FirstPick c t) (Picks (suc c) ts) (Picks c (t ∷ ts)) concat (map full (map (before (Choice k (suc c))) rs)) (map full others) first (each_listed k (suc c) ts e.1)
        (pick_order c t ts) (pick_first c t ts) (pick_later c t ts) (pick_split c t ts))

    listed_more : (t : Target) → enough graph cut (suc n) t → Lists (Goes t) concat (map full (trails graph cut (suc n) t))
    listed_more (Point q) e = point_listed q (cut q) refl (slice_get graph.starts q) refl e
    listed_more (AtFork k) e =
        retold_in (Picks 0 (targets k)) (Goes (AtFork k)) concat (map full (each_trails graph cut (trails graph cut n) k 0 (targets k))) (pick_goes k) (goes_pick k) (each_listed k 0 (targets k) e)

  -- the trails from a target, where so many steps suffice, are all choices from it to the next cut point
  pub listed : (n : ℕ) (t : Target) → enough graph cut n t → Lists (Goes t) concat (map full (trails graph cut n t))
  listed zero t e = absurd e
  listed (suc n) t e = listed_more n (listed n) t e
