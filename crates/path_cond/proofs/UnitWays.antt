-- The conditions of a unit along the ways of its graph.
use Rattle.std.proofs.Common.{◌≡◌, ℕ, zero, suc, List, [], ◌∷◌, ◌++◌, map, Option, Some, None, slice_get, refl, sym, ap, ◌∙◌}
use Rattle.fort_laws.proofs.OnePath.{paths_are_one}
use Rattle.fort_model.specs.Conditions.{conditions_along, conditions_from}
use Rattle.fort_model.specs.Graphs.{IsGraphOf}
use Rattle.fort_model.specs.Lists.{IsAmong}
use Rattle.fort_model.specs.Paths.{ArePathsInOrder, Path}
use Rattle.fort_model.specs.Program.{Program, notes_of}
use Rattle.fort_model.specs.Walk.{walk}
use Rattle.fort_model.specs.declared.graph.Graph.{Graph}
use Rattle.path_cond.specs.Found.{conditions_of_ways}
use Rattle.path_cut.specs.Ways.{Way, ways_of}
use Rattle.path_plans.specs.declared.plan.Plan.{Plan}
use Rattle.path_starts.specs.Starts.{unit_of}
use Rattle.walk_setting.specs.Settings.{seen_from}
use Rattle.way_laws.proofs.Read.{ways_have_points}
use Rattle.way_laws.proofs.Whole.{ways_are_paths}
use Rattle.way_laws.specs.PathsOf.{path_of, paths_of}
use Rattle.way_walks.proofs.Going.{walks_go_along}
use Rattle.way_walks.specs.Along.{along}

pub among_mapped : (ways : List Way) (way : Way) → IsAmong way ways → IsAmong (path_of way) (map path_of ways)
among_mapped ways way m = (m.0, at ways m.0 m.1)
  where
    none_some : {X : Type 0} (a : X) → ◌≡◌ {A = Option X} None (Some a) → ⊥
    none_some a e = cc

    some_is : {X : Type 0} (a b : X) → ◌≡◌ {A = Option X} (Some a) (Some b) → a ≡ b
    some_is a b e = cc

    at : (ws : List Way) (k : ℕ) → slice_get ws k ≡ Some way → slice_get (map path_of ws) k ≡ Some (path_of way)
    at [] k e = absurd (none_some way e)
    at (w ∷ ws) zero e = ap (λ (x : Way). Some (path_of x)) (some_is w way e)
    at (w ∷ ws) (suc k) e = at ws k e

-- along a way of the graph the walk goes
pub one_way : (plan : Plan) (p : Program) (graph : Graph) (way : Way) → IsGraphOf p.dialect (unit_of plan) (notes_of p plan.setting.now.number) graph → IsAmong way (ways_of graph)
    → walk (seen_from plan.setting.now p) (path_of way) ≡ along (seen_from plan.setting.now p) way.start way.steps way.end
one_way plan p graph way h m =
    let i = plan.setting.now.number in
    let u = unit_of plan in
    walks_go_along (seen_from plan.setting.now p) way
    (((ways_are_paths p.dialect u (notes_of p i) graph h).whole (path_of way)).1 (among_mapped (ways_of graph) way m))
    (ways_have_points p.dialect u (notes_of p i) graph h way m)

along_ways : (plan : Plan) (p : Program) (n : ℕ) (ways : List Way)
    → ((way : Way) → IsAmong way ways → walk (seen_from plan.setting.now p) (path_of way) ≡ along (seen_from plan.setting.now p) way.start way.steps way.end)
    → conditions_of_ways plan n ways p ≡ conditions_along p plan.setting.now.number (unit_of plan) n (map path_of ways)
along_ways plan p n [] h = refl
along_ways plan p n (way ∷ ways) h =
    λ i. conditions_from (unit_of plan).name n 1 [] (sym (h way (zero, refl)) i) ++ along_ways plan p (suc n) ways (λ w m. h w (suc m.0, m.1)) i

-- the conditions of the ways of a unit's graph are those of its paths
pub unit_conditions : (plan : Plan) (p : Program) (graph : Graph) (paths : List Path) → IsGraphOf p.dialect (unit_of plan) (notes_of p plan.setting.now.number) graph
    → ArePathsInOrder p.dialect (unit_of plan) (notes_of p plan.setting.now.number) paths
    → conditions_of_ways plan 1 (ways_of graph) p ≡ conditions_along p plan.setting.now.number (unit_of plan) 1 paths
unit_conditions plan p graph paths h order =
    let i = plan.setting.now.number in
    let u = unit_of plan in
    along_ways plan p 1 (ways_of graph) (λ way m. one_way plan p graph way h m)
    ∙ (λ j. conditions_along p i u 1 (paths_are_one p.dialect u (notes_of p i) (paths_of graph) paths (ways_are_paths p.dialect u (notes_of p i) graph h) order j))
