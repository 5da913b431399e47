-- The ways through the graph of a unit are its paths.
use Rattle.std.proofs.Common.{◌≡◌, ◌⊎◌, ℕ, zero, suc, ◌+◌, ◌-◌, ◌<◌, Bool, true, false, Option, Some, None, List, [], ◌∷◌, ◌++◌, map, slice_get, refl, sym, ap, ◌∙◌, subst, inl, inr, arith}
use Rattle.std.specs.List.{concat}
use Rattle.fort_syntax.specs.declared.dialect.Dialect.{Dialect}
use Rattle.fort_syntax.specs.declared.unit.Unit.{Unit as Routine}
use Rattle.fort_model.specs.Graphs.{IsGraphOf}
use Rattle.fort_model.specs.Paths.{Cut, NoCut, cut_at, over_or, IsWay, IsWayIn, Path, starts_at, IsPath, ascend_from, Ascend}
use Rattle.fort_model.specs.declared.graph.Graph.{Graph}
use Rattle.fort_model.specs.declared.graph.Target.{Target}
use Rattle.fort_model.specs.declared.graph.Target.TheVariants.{Point}
use Rattle.fort_notes.specs.Assertions.{Assertion, Notes}
use Rattle.path_cut.specs.declared.step.Step.TheVariants.{At}
use Rattle.path_cut.specs.Ways.{is_marked, marks_of, limit_of, behind_statement, end_or, ways, ways_on, ways_from}
use Rattle.path_laws.proofs.Pairs.{Below, below_heads, below_front, below_itself, Pairs}
use Rattle.path_laws.proofs.UnitPaths.{key}
use Rattle.way_laws.specs.PathsOf.{path_of, paths_of}
use Rattle.way_laws.specs.Laws.{WaysArePaths}
use Rattle.way_laws.proofs.Enough.{from_statement, limit_some}
use Rattle.way_laws.proofs.Listed.{full, Goes, listed, way_goes, goes_way, no_way, over_at, over_there}
use Rattle.way_laws.proofs.Lists.{Lists, none_in, one_in, retold_in, both_in, made_in, in_same}
use Rattle.way_laws.proofs.Marks.{is_cut, marks_agree, unmarked_goes_on}
use Rattle.way_laws.proofs.Trails.{Trail, map_append, map_twice, trails, way_by, ways_trails}

-- paths with one start, whose choices are of some kind
abbrev Starts : ℕ → (List (List ℕ) → Type 0) → Path → Type 0
Starts s P path = (path.start ≡ s) × P path.choices

abbrev started : ℕ → List (List ℕ) → Path
started s way = record { start = s; choices = way }

start_order : (s : ℕ) (x y : List (List ℕ)) → Below (concat x) (concat y) → Below (key (started s x)) (key (started s y))
start_order s x y h = below_front (s ∷ []) (concat x) (concat y) h

module _ (dialect : Dialect) (u : Routine) (notes : Notes) (graph : Graph) (h : IsGraphOf dialect u notes graph) where
  abbrev cut : ℕ → Bool
  cut = is_marked (marks_of graph)

  abbrev limit : ℕ
  limit = limit_of graph

  abbrev Way_from : ℕ → List (List ℕ) → Type 0
  Way_from = IsWay dialect u notes

  agree : (q : ℕ) (b : Bool) → cut q ≡ b → is_cut (cut_at u notes q) ≡ b
  agree q b e = sym (marks_agree dialect u notes graph h q) ∙ e

  -- ---- from a statement

  path_full : (s p : ℕ) (rs : List Trail) → map (started s) (map full rs) ≡ map path_of (map (way_by graph cut s (At p ∷ [])) rs)
  path_full s p rs = map_twice (started s) full rs ∙ sym (map_twice path_of (way_by graph cut s (At p ∷ [])) rs)

  statement_by : (s p : ℕ) (o : Option Target) → slice_get graph.starts p ≡ o
      → Lists (Starts s (Way_from p)) key (map path_of (behind_statement graph cut s (ways graph cut s (limit - 1)) [] p o))
  statement_by s p None e = none_in (Starts s (Way_from p)) key (λ path k. no_way dialect u notes graph h p e path.choices k.1)
  statement_by s p (Some t) e =
      let rs = trails graph cut (limit - 1) t in
      in_same (Starts s (Way_from p)) key (map (started s) (map full rs)) (map path_of (ways graph cut s (limit - 1) (At p ∷ []) t))
      (path_full s p rs ∙ ap (map path_of) (sym (ways_trails graph cut s (limit - 1) (At p ∷ []) t)))
      (made_in (Goes dialect u notes graph h t) (Starts s (Way_from p)) concat key (started s) (map full rs)
      (listed dialect u notes graph h (limit - 1) t (from_statement dialect u notes graph h p t e)) (start_order s)
      (λ way g. (refl, goes_way dialect u notes graph h p t e way g))
      (λ path k. (path.choices, way_goes dialect u notes graph h p t e path.choices k.1, (λ z. record { start = sym k.0 z; choices = path.choices }))))

  -- ---- from the entry

  abbrev Way_in : List (List ℕ) → Type 0
  Way_in = IsWayIn dialect u notes

  abbrev nowhere : Path
  nowhere = record { start = 0; choices = [] }

  only_nowhere : cut 0 ≡ true → (path : Path) → Starts 0 Way_in path → nowhere ≡ path
  only_nowhere e path k =
      let over = over_at (cut_at u notes 0) path.choices (Way_from 0 path.choices) (agree 0 true e) dialect u notes k.1 in
      λ z. record { start = sym k.0 z; choices = sym over z }

  uncut : cut 0 ≡ false → cut_at u notes 0 ≡ NoCut
  uncut e = unmarked_goes_on (cut_at u notes 0) (agree 0 false e)

  entry_by : (b : Bool) → cut 0 ≡ b
      → Lists (Starts 0 Way_in) key (map path_of (end_or graph cut 0 b [] 0 (behind_statement graph cut 0 (ways graph cut 0 (limit - 1)) [] 0 (slice_get graph.starts 0))))
  entry_by true e =
      one_in (Starts 0 Way_in) key nowhere (refl, over_there (cut_at u notes 0) (Way_from 0 []) (agree 0 true e) dialect u notes) (only_nowhere e)
  entry_by false e =
      retold_in (Starts 0 (Way_from 0)) (Starts 0 Way_in) key (map path_of (behind_statement graph cut 0 (ways graph cut 0 (limit - 1)) [] 0 (slice_get graph.starts 0)))
      (λ path k. (k.0, subst (λ (c : Cut). over_or dialect u notes c path.choices (Way_from 0 path.choices)) (sym (uncut e)) k.1))
      (λ path k. (k.0, subst (λ (c : Cut). over_or dialect u notes c path.choices (Way_from 0 path.choices)) (uncut e) k.1))
      (statement_by 0 0 (slice_get graph.starts 0) refl)

  entry_listed : Lists (Starts 0 Way_in) key (map path_of (ways_on graph cut limit 0 [] (Point 0)))
  entry_listed =
      let e : suc (limit - 1) ≡ limit - 0 = let f = limit_some dialect u notes graph h in omega arith in
      in_same (Starts 0 Way_in) key (map path_of (ways graph cut 0 (suc (limit - 1)) [] (Point 0))) (map path_of (ways_on graph cut limit 0 [] (Point 0)))
      (ap (λ n. map path_of (ways graph cut 0 n [] (Point 0))) e) (entry_by (cut 0) refl)

  -- ---- from ASSERTs of a list, of which the first has the number k

  record FromAsserts (k : ℕ) (asserts : List Assertion) (path : Path) : Type 0 where
    place : ℕ
    assert : Assertion
    at : slice_get asserts place ≡ Some assert
    start : path.start ≡ k + place
    way : Way_from assert.point path.choices

  starts_below : (x y : Path) → x.start < y.start → Below (key x) (key y)
  starts_below x y lt = below_heads x.start y.start (concat x.choices) (concat y.choices) lt

  statement_on : (s p : ℕ) (o : Option Target) → slice_get graph.starts p ≡ o
      → Lists (Starts s (Way_from p)) key (map path_of (behind_statement graph cut s (ways_on graph cut limit s) [] p o))
  statement_on s p None e = statement_by s p None e
  statement_on s p (Some t) e = statement_by s p (Some t) e

  asserts_listed : (k : ℕ) (asserts : List Assertion) → Lists (FromAsserts k asserts) key (map path_of (ways_from graph cut limit k (map (λ (a : Assertion). a.point) asserts)))
  asserts_listed k [] = none_in (FromAsserts k []) key no
    where
      no : (path : Path) → FromAsserts k [] path → ⊥
      no path f = let e = f.at in absurd cc
  asserts_listed k (a ∷ asserts) =
      let here = behind_statement graph cut k (ways_on graph cut limit k) [] a.point (slice_get graph.starts a.point) in
      let later = ways_from graph cut limit (suc k) (map (λ (b : Assertion). b.point) asserts) in
      in_same (FromAsserts k (a ∷ asserts)) key (map path_of here ++ map path_of later) (map path_of (here ++ later)) (sym (map_append path_of here later))
      (both_in (Starts k (Way_from a.point)) (FromAsserts (suc k) asserts) (FromAsserts k (a ∷ asserts)) key (map path_of here) (map path_of later)
      (statement_on k a.point (slice_get graph.starts a.point) refl) (asserts_listed (suc k) asserts)
      (λ x y f n. starts_below x y (less x.start y.start f.0 n.place n.start))
      (λ path f. let zeroth : k ≡ k + 0 = omega arith in record { place = 0; assert = a; at = refl; start = f.0 ∙ zeroth; way = f.1 })
      (λ path n. let next : suc k + n.place ≡ k + suc n.place = omega arith in
      record { place = suc n.place; assert = n.assert; at = n.at; start = n.start ∙ next; way = n.way })
      (λ path n. split path n.place n.assert n.at n.start n.way))
    where
      less : (s t : ℕ) → s ≡ k → (i : ℕ) → t ≡ suc k + i → s < t
      less s t e i f = omega arith

      split : (path : Path) (i : ℕ) (b : Assertion) → slice_get (a ∷ asserts) i ≡ Some b → path.start ≡ k + i → Way_from b.point path.choices
          → Starts k (Way_from a.point) path ⊎ FromAsserts (suc k) asserts path
      split path zero b e s w =
          let same : a ≡ b = cc in
          let start : path.start ≡ k = omega arith in
          inl (start, subst (λ (x : Assertion). Way_from x.point path.choices) (sym same) w)
      split path (suc i) b e s w =
          let start : path.start ≡ suc k + i = omega arith in
          inr (record { place = i; assert = b; at = e; start = start; way = w })

  -- ---- all

  entry_path : (path : Path) → Starts 0 Way_in path → IsPath dialect u notes path
  entry_path path k = subst (IsPath dialect u notes) (λ z. record { start = sym k.0 z; choices = path.choices }) k.1

  assert_path : (path : Path) → FromAsserts 1 notes.asserts path → IsPath dialect u notes path
  assert_path path f =
      let next : 1 + f.place ≡ suc f.place = omega arith in
      subst (IsPath dialect u notes) (λ z. record { start = sym (f.start ∙ next) z; choices = path.choices })
      (subst (λ (o : Option Assertion). starts_at dialect u notes o path.choices) (sym f.at) f.way)

  paths_split : (path : Path) → IsPath dialect u notes path → Starts 0 Way_in path ⊎ FromAsserts 1 notes.asserts path
  paths_split path k = by path.start refl (subst (IsPath dialect u notes) whole k)
    where
      whole : path ≡ record { start = path.start; choices = path.choices }
      whole = refl

      by : (s : ℕ) → path.start ≡ s → IsPath dialect u notes (record { start = path.start; choices = path.choices }) → Starts 0 Way_in path ⊎ FromAsserts 1 notes.asserts path
      by zero e g = inl (e, subst (λ (s : ℕ). IsPath dialect u notes (record { start = s; choices = path.choices })) e g)
      by (suc i) e g = inr (at (slice_get notes.asserts i) refl (subst (λ (s : ℕ). IsPath dialect u notes (record { start = s; choices = path.choices })) e g))
        where
          at : (o : Option Assertion) → slice_get notes.asserts i ≡ o → starts_at dialect u notes o path.choices → FromAsserts 1 notes.asserts path
          at None f g = absurd g
          at (Some a) f g = let next : suc i ≡ 1 + i = omega arith in record { place = i; assert = a; at = f; start = e ∙ next; way = g }

  paths_listed : Lists (IsPath dialect u notes) key (paths_of graph)
  paths_listed =
      let here = ways_on graph cut limit 0 [] (Point 0) in
      let later = ways_from graph cut limit 1 graph.cuts in
      in_same (IsPath dialect u notes) key (map path_of here ++ map path_of later) (map path_of (here ++ later)) (sym (map_append path_of here later))
      (both_in (Starts 0 Way_in) (FromAsserts 1 notes.asserts) (IsPath dialect u notes) key (map path_of here) (map path_of later) entry_listed
      (subst (λ ps. Lists (FromAsserts 1 notes.asserts) key (map path_of (ways_from graph cut limit 1 ps))) (sym h.cuts) (asserts_listed 1 notes.asserts))
      (λ x y f n. starts_below x y (first x.start y.start f.0 n.place n.start)) entry_path assert_path paths_split)
    where
      first : (s t : ℕ) → s ≡ 0 → (i : ℕ) → t ≡ 1 + i → s < t
      first s t e i f = omega arith

-- ---- in order

ascend_pairs : (paths : List Path) → Pairs (λ x y. Below (key x) (key y)) paths → Ascend paths
ascend_pairs [] h = tt
ascend_pairs (a ∷ paths) h = from a paths h
  where
    from : (a : Path) (paths : List Path) → Pairs (λ x y. Below (key x) (key y)) (a ∷ paths) → ascend_from a paths
    from a [] h = tt
    from a (b ∷ paths) h = (below_itself (key a) (key b) (h.0 b (0, refl)), from b paths h.1)

pub ways_are_paths : WaysArePaths
ways_are_paths dialect u notes graph h =
    let l = paths_listed dialect u notes graph h in
    record { ascending = ascend_pairs (paths_of graph) l.apart; whole = λ path. (λ k. l.whole path k, λ m. l.sound path m) }
