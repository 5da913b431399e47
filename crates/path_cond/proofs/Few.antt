-- A program within the limits has few paths and few checks along each.
use Rattle.std.proofs.Common.{◌≡◌, ◌<◌, ◌≤◌, ◌+◌, ℕ, zero, suc, List, [], ◌∷◌, length, map, Some, slice_get, refl, sym, ap, ◌∙◌, subst, arith}
use Rattle.fort_laws.proofs.BothSenses.{Correspond, EventsAlike, Pairwise}
use Rattle.fort_laws.proofs.BothWalks.{walks_alike}
use Rattle.fort_model.specs.Conditions.{are_all_paths, checks_of, sight}
use Rattle.fort_model.specs.Events.{Check, Event, Take, labels}
use Rattle.fort_model.specs.Graphs.{IsGraphOf}
use Rattle.fort_model.specs.Lists.{IsAmong}
use Rattle.fort_model.specs.Paths.{Path}
use Rattle.fort_model.specs.Program.{Program, notes_of}
use Rattle.fort_model.specs.Senses.{of_nothing, of_terms}
use Rattle.fort_model.specs.Walk.{walk}
use Rattle.fort_model.specs.declared.graph.Graph.{Graph}
use Rattle.fort_syntax.specs.declared.unit.Unit.{Unit as Routine}
use Rattle.formula.specs.Tree.{Tree}
use Rattle.formula.specs.declared.node.Node.{Node}
use Rattle.met_conditions.specs.Numbered.{checks_in}
use Rattle.path_cond.specs.Found.{AreFew}
use Rattle.path_cond.proofs.UnitWays.{among_mapped, one_way}
use Rattle.path_cut.specs.Ways.{Way, ways_of}
use Rattle.path_plans.specs.declared.plan.Plan.{Plan}
use Rattle.path_scene.specs.Graphs.{are_graphs_of}
use Rattle.path_sizes.specs.Limits.{AreWithin, Sizes, with_path, with_paths, with_units}
use Rattle.path_starts.specs.Starts.{unit_of}
use Rattle.walk_setting.specs.Settings.{seen_from}
use Rattle.walk_state.specs.Moments.{events_in}
use Rattle.walk_state.specs.declared.walk.Met.{Met}
use Rattle.walk_state.specs.declared.walk.Met.TheVariants.{Check as Checked, Take as Taken}
use Rattle.way_laws.proofs.Whole.{ways_are_paths}
use Rattle.way_laws.specs.PathsOf.{path_of, paths_of}
use Rattle.way_walks.specs.Along.{along}

-- ---- the checks of a path

-- what was met has as many checks as its events
as_met : (nodes : List Node) (ms : List Met) → length (labels (events_in nodes ms)) ≡ checks_in ms
as_met nodes [] = refl
as_met nodes (Checked kind card goal ∷ ms) = ap suc (as_met nodes ms)
as_met nodes (Taken fact ∷ ms) = as_met nodes ms

-- what was met along a way has few checks
pub few_met : (nodes : List Node) (now ms : List Met) (es : List (Event Tree)) → now ≡ ms → events_in nodes ms ≡ es → length (labels es) < 4294967296 → checks_in now < 4294967296
few_met nodes now ms es is along few =
    let same : length (labels es) ≡ checks_in now = (λ i. length (labels (sym along i))) ∙ as_met nodes ms ∙ (λ i. checks_in (sym is i)) in
    subst (λ (n : ℕ). n < 4294967296) same few

-- anything corresponds to nothing
abbrev Whatever : Tree → Unit {0} → Type 0
Whatever t n = Unit {0}

with_nothing : Correspond Whatever of_terms of_nothing
with_nothing = record { number = λ z. tt; truth_value = λ b. tt; make = λ g xs ys h. tt; told = λ now now' entry entry' h k t. tt; least = tt; greatest = tt; entries = λ x. tt }

-- events that correspond have as many checks
as_many_checks : (es : List (Event Tree)) (fs : List (Event (Unit {0}))) → Pairwise (EventsAlike Whatever) es fs → length (labels es) ≡ length (labels fs)
as_many_checks [] [] h = refl
as_many_checks [] (f ∷ fs) h = absurd h
as_many_checks (e ∷ es) [] h = absurd h
as_many_checks (Check kind card t ∷ es) (Check other place n ∷ fs) h = ap suc (as_many_checks es fs h.1)
as_many_checks (Check kind card t ∷ es) (Take n ∷ fs) h = absurd h.0
as_many_checks (Take t ∷ es) (Check kind card n ∷ fs) h = absurd h.0
as_many_checks (Take t ∷ es) (Take n ∷ fs) h = as_many_checks es fs h.1

-- along a way there are as many checks as along its path
pub checks_along : (plan : Plan) (p : Program) (graph : Graph) (way : Way) → IsGraphOf p.dialect (unit_of plan) (notes_of p plan.setting.now.number) graph
    → AreFew p plan.setting.now.number (unit_of plan) graph → IsAmong way (ways_of graph)
    → length (labels (along (seen_from plan.setting.now p) way.start way.steps way.end)) < 4294967296
checks_along plan p graph way is few among =
    let i = plan.setting.now.number in
    let u = unit_of plan in
    let path = path_of way in
    let alike : length (labels (walk (sight of_terms p i u) path)) ≡ length (checks_of p i u path) =
    as_many_checks (walk (sight of_terms p i u) path) (walk (sight of_nothing p i u) path) (walks_alike Whatever of_terms of_nothing with_nothing p i u (λ x. tt) path) in
    let same : length (labels (along (seen_from plan.setting.now p) way.start way.steps way.end)) ≡ length (checks_of p i u path) =
    (λ j. length (labels (sym (one_way plan p graph way is among) j))) ∙ alike in
    subst (λ (n : ℕ). n < 4294967296) (sym same) (few.checks path (among_mapped (ways_of graph) way among))

-- ---- parts of sums

module _ (p : Program) where
  -- sizes with those of paths
  paths_more : (i : ℕ) (u : Routine) (s : Sizes) (ps : List Path) → (with_paths p i u s ps).paths ≡ s.paths + length ps
  paths_more i u s [] = omega arith
  paths_more i u s (path ∷ ps) = let more = paths_more i u (with_path p i u s path) ps in omega (arith, more)

  checks_more : (i : ℕ) (u : Routine) (s : Sizes) (ps : List Path) → s.conditions ≤ (with_paths p i u s ps).conditions
  checks_more i u s [] = omega arith
  checks_more i u s (path ∷ ps) = let more = checks_more i u (with_path p i u s path) ps in omega (arith, more)

  -- the checks of one of the paths are among them
  path_part : (i : ℕ) (u : Routine) (s : Sizes) (ps : List Path) (path : Path) (k : ℕ) → slice_get ps k ≡ Some path
      → length (checks_of p i u path) ≤ (with_paths p i u s ps).conditions
  path_part i u s [] path k at = absurd cc
  path_part i u s (other ∷ ps) path zero at =
      let same : other ≡ path = cc in
      let own : length (checks_of p i u other) ≡ length (checks_of p i u path) = λ j. length (checks_of p i u (same j)) in
      let more = checks_more i u (with_path p i u s other) ps in
      omega (arith, own, more)
  path_part i u s (other ∷ ps) path (suc k) at = path_part i u (with_path p i u s other) ps path k at

  -- sizes with those of units
  units_paths_more : (i : ℕ) (s : Sizes) (us : List Routine) (all : List (List Path)) → s.paths ≤ (with_units p i s us all).paths
  units_paths_more i s [] all = omega arith
  units_paths_more i s (u ∷ us) [] = omega arith
  units_paths_more i s (u ∷ us) (ps ∷ all) =
      let more = units_paths_more (suc i) (with_paths p i u s ps) us all in
      let own = paths_more i u s ps in
      omega (arith, more, own)

  units_checks_more : (i : ℕ) (s : Sizes) (us : List Routine) (all : List (List Path)) → s.conditions ≤ (with_units p i s us all).conditions
  units_checks_more i s [] all = omega arith
  units_checks_more i s (u ∷ us) [] = omega arith
  units_checks_more i s (u ∷ us) (ps ∷ all) =
      let more = units_checks_more (suc i) (with_paths p i u s ps) us all in
      let own = checks_more i u s ps in
      omega (arith, more, own)

  -- ---- the paths of graphs

  -- the paths of the graphs of units are all their paths
  pub graphs_paths : (i : ℕ) (us : List Routine) (graphs : List Graph) → are_graphs_of p i us graphs → are_all_paths p i us (map paths_of graphs)
  graphs_paths i [] [] h = tt
  graphs_paths i [] (g ∷ graphs) h = absurd h
  graphs_paths i (u ∷ us) [] h = absurd h
  graphs_paths i (u ∷ us) (g ∷ graphs) h = (ways_are_paths p.dialect u (notes_of p i) g h.0, graphs_paths (suc i) us graphs h.1)

  as_many_paths : (ways : List Way) → length (map path_of ways) ≡ length ways
  as_many_paths [] = refl
  as_many_paths (way ∷ ways) = ap suc (as_many_paths ways)

  -- a unit is few, where all units are within the limits
  first_few : (i : ℕ) (u : Routine) (us : List Routine) (g : Graph) (graphs : List Graph) (s : Sizes) → AreWithin (with_units p i s (u ∷ us) (map paths_of (g ∷ graphs))) → AreFew p i u g
  first_few i u us g graphs s h =
      let rest = map paths_of graphs in
      let here = with_paths p i u s (paths_of g) in
      record {
        paths =
            let own = paths_more i u s (paths_of g) in
            let many = as_many_paths (ways_of g) in
            let more = units_paths_more (suc i) here us rest in
            let most = h.0 in
            omega (arith, own, many, more, most);
        checks = λ path among.
            let own = path_part i u s (paths_of g) path among.0 among.1 in
            let more = units_checks_more (suc i) here us rest in
            let most = h.1 in
            omega (arith, own, more, most);
      }

  few_there : (i n : ℕ) (us : List Routine) (graphs : List Graph) (u : Routine) (g : Graph) (s : Sizes) → slice_get us n ≡ Some u → slice_get graphs n ≡ Some g
      → AreWithin (with_units p i s us (map paths_of graphs)) → AreFew p (i + n) u g
  few_there i n [] graphs u g s at is h = absurd cc
  few_there i n (v ∷ us) [] u g s at is h = absurd cc
  few_there i zero (v ∷ us) (f ∷ graphs) u g s at is h =
      let none : i ≡ i + 0 = omega arith in
      let unit : v ≡ u = cc in
      let graph : f ≡ g = cc in
      subst (λ (k : ℕ). AreFew p k u g) none
      (subst (λ (w : Routine). AreFew p i w g) unit (subst (λ (x : Graph). AreFew p i v x) graph (first_few i v us f graphs s h)))
  few_there i (suc n) (v ∷ us) (f ∷ graphs) u g s at is h =
      let next : suc i + n ≡ i + suc n = omega arith in
      subst (λ (k : ℕ). AreFew p k u g) next (few_there (suc i) n us graphs u g (with_paths p i v s (paths_of f)) at is h)

  pub unit_few : (n : ℕ) (us : List Routine) (graphs : List Graph) (u : Routine) (g : Graph) (s : Sizes) → slice_get us n ≡ Some u → slice_get graphs n ≡ Some g
      → AreWithin (with_units p 0 s us (map paths_of graphs)) → AreFew p n u g
  unit_few n us graphs u g s at is h =
      let start : 0 + n ≡ n = omega arith in
      subst (λ (k : ℕ). AreFew p k u g) start (few_there 0 n us graphs u g s at is h)
