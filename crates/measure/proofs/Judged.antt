-- One unit after another.
use Rattle.std.proofs.Common.{◌≡◌, inl, inr, ℕ, zero, suc, ◌+◌, ◌<◌, ◌≤◌, List, [], ◌∷◌, length, drop, get_or, Some, slice_get, refl, sym, ap, ◌∙◌, subst, arith}
use Rattle.std.proofs.lemmas.List.{drop_all}
use Rattle.formula.specs.declared.node.Node.{Node}
use Rattle.fort_syntax.specs.declared.refusal.Fault.{Fault}
use Rattle.fort_syntax.specs.declared.unit.Unit.{Unit as Routine}
use Rattle.fort_laws.proofs.OnePath.{paths_are_one}
use Rattle.fort_model.specs.Conditions.{AreAllPaths, are_all_paths}
use Rattle.fort_model.specs.Graphs.{IsGraphOf}
use Rattle.fort_model.specs.Paths.{Path}
use Rattle.fort_model.specs.Program.{Program, notes_of}
use Rattle.fort_model.specs.declared.graph.Graph.{Graph}
use Rattle.path_cut.specs.Ways.{Way, ways_of}
use Rattle.path_scene.specs.Graphs.{AreGraphsOf, are_graphs_of}
use Rattle.path_scene.specs.Scenes.{IsScene}
use Rattle.path_scene.specs.declared.scene.Scene.{Scene}
use Rattle.path_sizes.specs.Limits.{Sizes, nothing, AreWithin, IsSizeFault, IsWithinLimits, Passes, with_paths, with_units}
use Rattle.size_tallies.proofs.Adding.{sizes_are_tallied}
use Rattle.size_tallies.proofs.Judging.{units_are_judged, units_follow}
use Rattle.size_tallies.specs.Totals.{AreCapped, AreLeft, with_load, with_ways}
use Rattle.way_laws.specs.PathsOf.{paths_of}
use Rattle.way_laws.proofs.Whole.{ways_are_paths}
use Rattle.weight_caps.specs.Capped.{capped}
use Rattle.weight_caps.proofs.CappedSums.{CapOf, cap_of}
use Rattle.weight_calls.specs.Programs.{seen_program}
use Rattle.weight_tallies.specs.Tallies.{bare, load_of}
use Rattle.measure.specs.Sizes.{AreCountsOf, AreSizesBefore, IsSoFar, PassesBy, StaysWithin}
use Rattle.measure.specs.declared.counts.Counts.{Counts}

-- ---- the program of a scene

pub bare_seen : (pool : List Node) (scene : Scene) (p : Program) → IsScene pool scene p → bare p ≡ bare (seen_program pool scene)
bare_seen pool scene p h =
    λ i. record { dialect = sym h.dialect i; units = sym h.units i; notes = sym h.notes i; functions = []; bound = sym h.bound i; smashes = sym h.smashes i }

-- ---- units and graphs

unit_here : (us : List Routine) (n : ℕ) → n < length us → (u : Routine) × (slice_get us n ≡ Some u) × (drop n us ≡ u ∷ drop (suc n) us)
unit_here [] n h = absurd (omega arith)
unit_here (u ∷ us) zero h = (u, refl, refl)
unit_here (u ∷ us) (suc n) h = unit_here us n (omega arith)

graph_here : (p : Program) (i : ℕ) (us : List Routine) (gs : List Graph) (n k : ℕ) (u : Routine) (d : Graph) → are_graphs_of p i us gs → k ≡ i + n → slice_get us n ≡ Some u
    → IsGraphOf p.dialect u (notes_of p k) (get_or gs n d)
graph_here p i [] gs n k u d h at e = absurd cc
graph_here p i (v ∷ us) [] n k u d h at e = absurd h
graph_here p i (v ∷ us) (g ∷ gs) zero k u d h at e =
    let same : v ≡ u = cc in
    let here : k ≡ i = omega arith in
    let T : Routine → ℕ → Type 0 = λ w j. IsGraphOf p.dialect w (notes_of p j) g in
    subst (λ w. T w k) same (subst (T v) (sym here) h.0)
graph_here p i (v ∷ us) (g ∷ gs) (suc n) k u d h at e = graph_here p (suc i) us gs n k u d h.1 (omega arith) e

as_many : (p : Program) (i : ℕ) (us : List Routine) (gs : List Graph) → are_graphs_of p i us gs → length gs ≡ length us
as_many p i [] [] h = refl
as_many p i [] (g ∷ gs) h = absurd h
as_many p i (u ∷ us) [] h = absurd h
as_many p i (u ∷ us) (g ∷ gs) h = ap suc (as_many p (suc i) us gs h.1)

pub number_within : (pool : List Node) (scene : Scene) (p : Program) (gs : List Graph) (n : ℕ) → IsScene pool scene p → AreGraphsOf p gs → n < length gs → n < length scene.books.now.units.now
number_within pool scene p gs n h g less =
    let many : length gs ≡ length p.units = as_many p 0 p.units gs g in
    let units : length scene.books.now.units.now ≡ length p.units = ap (λ (us : List Routine). length us) h.units in
    omega arith

module _ (p q : Program) (same : bare p ≡ bare q) where
  -- sizes along ways don't depend on definitions
  ways_alike : (i : ℕ) (u : Routine) (s : Sizes) (ways : List Way) → with_ways p i u s ways ≡ with_ways q i u s ways
  ways_alike i u s [] = refl
  ways_alike i u s (way ∷ ways) =
      (λ j. with_ways p i u (with_load s (load_of (same j) i u way)) ways) ∙ ways_alike i u (with_load s (load_of (bare q) i u way)) ways

  module _ (i : ℕ) (u : Routine) (graph : Graph) (is : IsGraphOf p.dialect u (notes_of p i) graph) (exact told : Sizes) (h : AreCapped exact told) where
    alike : with_ways q i u told (ways_of graph) ≡ with_ways p i u told (ways_of graph)
    alike = sym (ways_alike i u told (ways_of graph))

    unit_passes : (f : Fault) → PassesBy q i u graph told f → Passes p i u exact f
    unit_passes f (inl (e, many)) = subst (Passes p i u exact) (sym e) ((units_are_judged p i u graph is exact told h).paths many)
    unit_passes f (inr (inl (e, few, many))) =
        subst (Passes p i u exact) (sym e) ((units_are_judged p i u graph is exact told h).conditions few (subst (λ (s : Sizes). 100000 < s.conditions) alike many))
    unit_passes f (inr (inr (e, few, less, heavy))) =
        subst (Passes p i u exact) (sym e)
        ((units_are_judged p i u graph is exact told h).weight few (subst (λ (s : Sizes). s.conditions ≤ 100000) alike less) (subst (λ (s : Sizes). 2000000 < s.weight) alike heavy))

    unit_within : (behind : Sizes) → StaysWithin q i u graph told behind → AreWithin (with_paths p i u exact (paths_of graph))
    unit_within behind s =
        let T : Sizes → Type 0 = λ x. (x.conditions ≤ 100000) × (x.weight ≤ 2000000) in
        let b : T (with_ways p i u told (ways_of graph)) = subst T (s.is ∙ alike) (s.conditions, s.weight) in
        (units_are_judged p i u graph is exact told h).within s.paths b.0 b.1

    unit_capped : (behind : Sizes) → StaysWithin q i u graph told behind → AreCapped (with_paths p i u exact (paths_of graph)) behind
    unit_capped behind s = subst (AreCapped (with_paths p i u exact (paths_of graph))) (sym (s.is ∙ alike)) (sizes_are_tallied p i u graph is exact told h)

-- ---- sizes behind some units

module _ (p : Program) where
  next_left : (i : ℕ) (u : Routine) (us : List Routine) (graph : Graph) (before whole : Sizes) → IsGraphOf p.dialect u (notes_of p i) graph
      → (left : List (List Path)) × are_all_paths p i (u ∷ us) left × (with_units p i before (u ∷ us) left ≡ whole)
      → (left : List (List Path)) × are_all_paths p (suc i) us left × (with_units p (suc i) (with_paths p i u before (paths_of graph)) us left ≡ whole)
  next_left i u us graph before whole is ([], h, e) = absurd h
  next_left i u us graph before whole is (ps ∷ rest, h, e) =
      let same : paths_of graph ≡ ps = paths_are_one p.dialect u (notes_of p i) (paths_of graph) ps (ways_are_paths p.dialect u (notes_of p i) graph is) h.0 in
      (rest, h.1, ap (λ qs. with_units p (suc i) (with_paths p i u before qs) us rest) same ∙ e)

  sizes_next : (i : ℕ) (u : Routine) (us : List Routine) (graph : Graph) (before : Sizes) → IsGraphOf p.dialect u (notes_of p i) graph
      → AreSizesBefore p i before (u ∷ us) → AreSizesBefore p (suc i) (with_paths p i u before (paths_of graph)) us
  sizes_next i u us graph before is k paths all = next_left i u us graph before (with_units p 0 nothing p.units paths) is (k paths all)

  last_left : (i : ℕ) (before whole : Sizes) → (left : List (List Path)) × are_all_paths p i [] left × (with_units p i before [] left ≡ whole) → before ≡ whole
  last_left i before whole ([], h, e) = e
  last_left i before whole (ps ∷ rest, h, e) = absurd h

uncapped : (n c : ℕ) → n ≤ 100000 → CapOf n c → c ≡ n
uncapped n c few (inl (h, e)) = omega arith
uncapped n c few (inr (h, e)) = absurd (omega arith)

uncapped_is : (n c : ℕ) → n ≤ 100000 → c ≡ capped n → c ≡ n
uncapped_is n c few e = uncapped n c few (let T : ℕ → Type 0 = CapOf n in subst T (sym e) (cap_of n))

-- ---- behind some units

pub so_far_first : (p : Program) → IsSoFar p 0 nothing
so_far_first p = record {
  before = nothing;
  capped = record { paths = refl; conditions = refl; weight = refl };
  within = (omega arith, omega arith, omega arith);
  left = units_follow.first p;
  sizes = λ paths all. (paths, all, refl);
}

pub few_so_far : (p : Program) (n : ℕ) (told : Sizes) → IsSoFar p n told → told.paths ≤ 4096
few_so_far p n told s =
    let few = s.within.0 in
    let same = s.capped.paths in
    omega arith

module _ (pool : List Node) (scene : Scene) (p : Program) (h : IsScene pool scene p) (gs : List Graph) (all : AreGraphsOf p gs) (n : ℕ) (told : Sizes) (s : IsSoFar p n told) where
  pub so_far_last : length gs ≤ n → (paths : List (List Path)) → AreAllPaths p paths → IsWithinLimits p paths
  so_far_last past =
      let many : length gs ≡ length p.units = as_many p 0 p.units gs all in
      let over : length p.units ≤ n = omega arith in
      units_follow.last p n s.before (subst (AreLeft p n s.before) (drop_all n p.units over) s.left) s.within

  pub so_far_counts : length gs ≤ n → (c : Counts) → c.paths ≡ told.paths → c.conditions ≡ told.conditions → (paths : List (List Path)) → AreAllPaths p paths → AreCountsOf p paths c
  so_far_counts past c as_paths as_conditions paths ways =
      let many : length gs ≡ length p.units = as_many p 0 p.units gs all in
      let over : length p.units ≤ n = omega arith in
      let whole : s.before ≡ with_units p 0 nothing p.units paths =
      last_left p n s.before (with_units p 0 nothing p.units paths) (subst (AreSizesBefore p n s.before) (drop_all n p.units over) s.sizes paths ways) in
      record {
        paths = as_paths ∙ s.capped.paths ∙ ap (λ (x : Sizes). x.paths) whole;
        conditions = as_conditions ∙ uncapped_is s.before.conditions told.conditions s.within.1 s.capped.conditions ∙ ap (λ (x : Sizes). x.conditions) whole;
      }

  module _ (g d : Graph) (less : n < length gs) (read : g ≡ get_or gs n d) where
    here : (u : Routine) × (slice_get p.units n ≡ Some u) × (drop n p.units ≡ u ∷ drop (suc n) p.units)
    here = unit_here p.units n (let many : length gs ≡ length p.units = as_many p 0 p.units gs all in omega arith)

    graph : IsGraphOf p.dialect here.0 (notes_of p n) g
    graph = subst (IsGraphOf p.dialect here.0 (notes_of p n)) (sym read) (graph_here p 0 p.units gs n n here.0 d all (omega arith) here.1)

    there : slice_get scene.books.now.units.now n ≡ Some here.0
    there = ap (λ (us : List Routine). slice_get us n) h.units ∙ here.1

    pub so_far_broken : (f : Fault) → ((u : Routine) → slice_get scene.books.now.units.now n ≡ Some u → PassesBy (seen_program pool scene) n u g told f) → IsSizeFault p f
    so_far_broken f k =
        units_follow.fault p n here.0 (drop (suc n) p.units) s.before f (subst (AreLeft p n s.before) here.2 s.left)
        (unit_passes p (seen_program pool scene) (bare_seen pool scene p h) n here.0 g graph s.before told s.capped f (k here.0 there))

    pub so_far_next : (m : ℕ) (behind : Sizes) → m ≡ suc n → ((u : Routine) → slice_get scene.books.now.units.now n ≡ Some u → StaysWithin (seen_program pool scene) n u g told behind) → IsSoFar p m behind
    so_far_next m behind next k =
        let q = seen_program pool scene in
        let same = bare_seen pool scene p h in
        let within = unit_within p q same n here.0 g graph s.before told s.capped behind (k here.0 there) in
        subst (λ j. IsSoFar p j behind) (sym next)
        (record {
          before = with_paths p n here.0 s.before (paths_of g);
          capped = unit_capped p q same n here.0 g graph s.before told s.capped behind (k here.0 there);
          within = within;
          left = units_follow.next p n here.0 (drop (suc n) p.units) g s.before graph (subst (AreLeft p n s.before) here.2 s.left) within;
          sizes = sizes_next p n here.0 (drop (suc n) p.units) g s.before graph (subst (AreSizesBefore p n s.before) here.2 s.sizes);
        })
