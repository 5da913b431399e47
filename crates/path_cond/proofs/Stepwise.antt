-- The conditions of units are added one unit after another.
use Rattle.std.proofs.Common.{◌≡◌, ℕ, zero, suc, ◌+◌, ◌<◌, List, [], ◌∷◌, ◌++◌, map, length, drop, get_or, Option, Some, slice_get, append_assoc, refl, sym, ap, ◌∙◌, subst, arith}
use Rattle.std.specs.List.{All}
use Rattle.std.proofs.Math.Seq.{drop-nil}
use Rattle.std.proofs.lemmas.List.Elements.{All-nil}
use Rattle.std.proofs.lemmas.Option.{slice_get-get_or}
use Rattle.event_text.specs.Conditions.{IsConditionIn, condition_tree}
use Rattle.formula.specs.Pool.{Grows}
use Rattle.formula.specs.declared.node.Node.{Node}
use Rattle.formula.proofs.Grown.{Grows-refl, Grows-trans}
use Rattle.fort_model.specs.Conditions.{AreAllPaths, are_all_paths, conditions_along, conditions_of, conditions_of_units}
use Rattle.fort_model.specs.Graphs.{IsGraphOf}
use Rattle.fort_model.specs.Paths.{ArePathsInOrder, Path}
use Rattle.fort_model.specs.Program.{Program, notes_of}
use Rattle.fort_model.specs.declared.graph.Graph.{Graph}
use Rattle.fort_notes.specs.Assertions.{Notes, notes_tree}
use Rattle.fort_syntax.specs.declared.unit.Unit.{Unit as Routine}
use Rattle.path_cond.specs.Found.{AddsPaths, AddsUnit, AreFew, AreFewAt, AreFewIn, IsDraft, IsGraphAt, IsGraphIn, trees_of}
use Rattle.path_cond.specs.declared.found.Drafts.{Drafts}
use Rattle.path_cond.proofs.Added.{nothing_more}
use Rattle.path_cond.proofs.Few.{graphs_paths, unit_few}
use Rattle.path_fronts.proofs.Carrying.{ready_before}
use Rattle.path_cond.proofs.UnitWays.{unit_conditions}
use Rattle.path_cut.specs.Ways.{ways_of}
use Rattle.path_plans.specs.declared.plan.Plan.{Plan}
use Rattle.path_scene.proofs.Staying.{ready_stays}
use Rattle.path_scene.specs.Graphs.{AreGraphsOf, are_graphs_of}
use Rattle.path_scene.specs.Scenes.{IsReady}
use Rattle.path_scene.specs.declared.scene.Scene.{Scene}
use Rattle.path_sizes.specs.Limits.{IsWithinLimits, nothing}
use Rattle.path_starts.specs.Starts.{unit_of}
use Rattle.walk_setting.specs.declared.setting.Setting.{Setting}
use Rattle.way_laws.specs.PathsOf.{paths_of}

-- ---- one unit

map_long : {A B : Type 0} (f : A → B) (xs : List A) → length (map f xs) ≡ length xs
map_long f [] = refl
map_long f (x ∷ xs) = ap suc (map_long f xs)

-- each unit has notes
pub notes_within : (pool : List Node) (scene : Scene) (p : Program) (n : ℕ) → IsReady pool scene p → n < length scene.books.now.units.now → n < length scene.notes.now
notes_within pool scene p n r lt =
    let noted : length scene.notes.now ≡ length p.notes = sym (map_long (notes_tree pool) scene.notes.now) ∙ ap (λ (ns : List Notes). length ns) r.is_scene.notes in
    let many : length p.notes ≡ length scene.books.now.units.now = r.fitting.count ∙ ap (λ (us : List Routine). length us) (sym r.is_scene.units) in
    subst (λ (k : ℕ). n < k) (sym (noted ∙ many)) lt

one_some : {A : Type 0} (a b : A) → ◌≡◌ {A = Option A} (Some a) (Some b) → a ≡ b
one_some a b e = cc

module _
    (plan : Plan) (setting : Setting) (scene : Scene) (n : ℕ) (graph told : Graph) (setting_is : plan.setting.now ≡ setting) (scene_here : setting.scene.now ≡ scene)
    (number_here : setting.number ≡ n) (unit_here : slice_get scene.books.now.units.now n ≡ Some setting.book.now.unit.now) (told_is : told ≡ graph) where
  scene_is : plan.setting.now.scene.now ≡ scene
  scene_is = (λ i. (setting_is i).scene.now) ∙ scene_here

  number_is : plan.setting.now.number ≡ n
  number_is = (λ i. (setting_is i).number) ∙ number_here

  unit_is : slice_get scene.books.now.units.now n ≡ Some (unit_of plan)
  unit_is = unit_here ∙ (λ i. Some (sym setting_is i).book.now.unit.now)

  ready_here : (pool : List Node) (p : Program) → IsReady pool plan.setting.now.scene.now p → IsReady pool scene p
  ready_here pool p r = subst (λ (s : Scene). IsReady pool s p) scene_is r

  ready_there : (pool : List Node) (p : Program) → IsReady pool scene p → IsReady pool plan.setting.now.scene.now p
  ready_there pool p r = subst (λ (s : Scene). IsReady pool s p) (sym scene_is) r

  unit_there : (pool : List Node) (p : Program) → IsReady pool scene p → slice_get p.units n ≡ Some (unit_of plan)
  unit_there pool p r = subst (λ (us : List Routine). slice_get us n ≡ Some (unit_of plan)) r.is_scene.units unit_is

  pub plan_graph : (pool : List Node) → IsGraphAt pool scene n graph → IsGraphIn pool plan told
  plan_graph pool h p r =
      let here : IsReady pool scene p = ready_here pool p r in
      let is : IsGraphOf p.dialect (unit_of plan) (notes_of p n) graph = h p (unit_of plan) here (unit_there pool p here) in
      subst (λ (g : Graph). IsGraphOf p.dialect (unit_of plan) (notes_of p plan.setting.now.number) g) (sym told_is)
      (subst (λ (k : ℕ). IsGraphOf p.dialect (unit_of plan) (notes_of p k) graph) (sym number_is) is)

  pub plan_few : (pool : List Node) → AreFewAt pool scene n graph → AreFewIn pool plan told
  plan_few pool h p r =
      let here : IsReady pool scene p = ready_here pool p r in
      let is : AreFew p n (unit_of plan) graph = h p (unit_of plan) here (unit_there pool p here) in
      subst (λ (g : Graph). AreFew p plan.setting.now.number (unit_of plan) g) (sym told_is) (subst (λ (k : ℕ). AreFew p k (unit_of plan) graph) (sym number_is) is)

  pub unit_added : (before after : Drafts) → IsGraphAt before.pool scene n graph → AddsPaths plan 1 (ways_of told) before after → AddsUnit scene n before after
  unit_added before after h adds = record {
    grows = adds.grows;
    kept = adds.kept;
    is = λ p u paths r at order.
        let there : IsReady before.pool plan.setting.now.scene.now p = ready_there before.pool p r in
        let same : u ≡ unit_of plan = one_some u (unit_of plan) (sym at ∙ unit_there before.pool p r) in
        let order_here : ArePathsInOrder p.dialect (unit_of plan) (notes_of p plan.setting.now.number) paths =
        subst (λ (k : ℕ). ArePathsInOrder p.dialect (unit_of plan) (notes_of p k) paths) (sym number_is)
        (subst (λ (v : Routine). ArePathsInOrder p.dialect v (notes_of p n) paths) same order) in
        adds.is p there
        ∙ ((λ i. trees_of before ++ unit_conditions plan p told paths (plan_graph before.pool h p there) order_here i)
        ∙ (λ i. trees_of before ++ conditions_along p (number_is i) (sym same i) 1 paths));
  }

-- ---- the graphs of units

pub graphs_long : (p : Program) (i : ℕ) (us : List Routine) (graphs : List Graph) → are_graphs_of p i us graphs → length graphs ≡ length us
graphs_long p i [] [] h = refl
graphs_long p i [] (g ∷ graphs) h = absurd h
graphs_long p i (u ∷ us) [] h = absurd h
graphs_long p i (u ∷ us) (g ∷ graphs) h = ap suc (graphs_long p (suc i) us graphs h.1)

graph_there : (p : Program) (i n : ℕ) (us : List Routine) (graphs : List Graph) (u : Routine) (g : Graph) → are_graphs_of p i us graphs → slice_get us n ≡ Some u → slice_get graphs n ≡ Some g
    → IsGraphOf p.dialect u (notes_of p (i + n)) g
graph_there p i n [] graphs u g h at is = absurd cc
graph_there p i n (v ∷ us) [] u g h at is = absurd h
graph_there p i zero (v ∷ us) (f ∷ graphs) u g h at is =
    let none : i ≡ i + 0 = omega arith in
    subst (λ (k : ℕ). IsGraphOf p.dialect u (notes_of p k) g) none
    (subst (λ (w : Routine). IsGraphOf p.dialect w (notes_of p i) g) (one_some v u at) (subst (λ (x : Graph). IsGraphOf p.dialect v (notes_of p i) x) (one_some f g is) h.0))
graph_there p i (suc n) (v ∷ us) (f ∷ graphs) u g h at is =
    let next : suc i + n ≡ i + suc n = omega arith in
    subst (λ (k : ℕ). IsGraphOf p.dialect u (notes_of p k) g) next (graph_there p (suc i) n us graphs u g h.1 at is)

-- graphs are those of the units of a scene
abbrev pub AreSceneGraphs : List Node → Scene → List Graph → Type 0
AreSceneGraphs pool scene graphs = (p : Program) → IsReady pool scene p → AreGraphsOf p graphs

pub as_many : (pool : List Node) (scene : Scene) (p : Program) (graphs : List Graph) → IsReady pool scene p → AreSceneGraphs pool scene graphs → length graphs ≡ length scene.books.now.units.now
as_many pool scene p graphs r h = graphs_long p 0 p.units graphs (h p r) ∙ ap (λ (us : List Routine). length us) (sym r.is_scene.units)

pub graph_at : (old new : List Node) (scene : Scene) (p0 : Program) (graphs : List Graph) (n : ℕ) (g : Graph) → Grows old new → IsReady old scene p0 → AreSceneGraphs old scene graphs
    → n < length graphs → g ≡ get_or graphs n g → IsGraphAt new scene n g
graph_at old new scene p0 graphs n g grows r0 h lt is p u r at =
    let here : slice_get graphs n ≡ Some g = slice_get-get_or graphs n g lt ∙ ap Some (sym is) in
    let start : 0 + n ≡ n = omega arith in
    subst (λ (k : ℕ). IsGraphOf p.dialect u (notes_of p k) g) start
    (graph_there p 0 n p.units graphs u g (h p (ready_before old new grows scene p0 p r0 r)) at here)

-- programs that a scene is ready for are within the limits
abbrev pub AreWithinLimits : List Node → Scene → Type 0
AreWithinLimits pool scene = (p : Program) → IsReady pool scene p → (paths : List (List Path)) → AreAllPaths p paths → IsWithinLimits p paths

pub few_at : (old new : List Node) (scene : Scene) (p0 : Program) (graphs : List Graph) (n : ℕ) (g : Graph) → Grows old new → IsReady old scene p0 → AreSceneGraphs old scene graphs
    → AreWithinLimits old scene → n < length graphs → g ≡ get_or graphs n g → AreFewAt new scene n g
few_at old new scene p0 graphs n g grows r0 h within lt is p u r at =
    let here : slice_get graphs n ≡ Some g = slice_get-get_or graphs n g lt ∙ ap Some (sym is) in
    let back : IsReady old scene p = ready_before old new grows scene p0 p r0 r in
    unit_few p n p.units graphs u g nothing at here (within p back (map paths_of graphs) (graphs_paths p 0 p.units graphs (h p back)))

-- ---- one unit after another

-- the conditions of the units before a number were added
pub record Counted (scene : Scene) (pool : List Node) (now : Drafts) (n : ℕ) : Type 0 where
  pub grows : Grows pool now.pool
  pub kept : IsDraft now
  pub is : (p : Program) → IsReady pool scene p → (paths : List (List Path)) → AreAllPaths p paths
      → trees_of now ++ conditions_of_units p n (drop n p.units) (drop n paths) ≡ conditions_of p paths

pub none_counted : (scene : Scene) (now : Drafts) → now.conditions.items ≡ [] → Counted scene now.pool now 0
none_counted scene now none = record {
  grows = Grows-refl now.pool;
  kept = subst (All (IsConditionIn now.pool)) (sym none) (All-nil (IsConditionIn now.pool));
  is = λ p r paths all.
      let empty : trees_of now ≡ [] = λ i. map (condition_tree now.pool) (none i) in
      λ i. empty i ++ conditions_of_units p 0 (whole p.units i) (whole paths i);
}
  where
    whole : {A : Type 0} (xs : List A) → drop 0 xs ≡ xs
    whole [] = refl
    whole (x ∷ xs) = refl

-- the paths of a unit and of the units behind it
record Parted (p : Program) (i n : ℕ) (u : Routine) (us : List Routine) (paths : List (List Path)) : Type 0 where
  pub own : List Path
  pub order : ArePathsInOrder p.dialect u (notes_of p (i + n)) own
  pub units : drop n us ≡ u ∷ drop (suc n) us
  pub rest : drop n paths ≡ own ∷ drop (suc n) paths

parted : (p : Program) (i n : ℕ) (u : Routine) (us : List Routine) (paths : List (List Path)) → slice_get us n ≡ Some u → are_all_paths p i us paths → Parted p i n u us paths
parted p i n u [] paths at all = absurd cc
parted p i n u (v ∷ us) [] at all = absurd all
parted p i zero u (v ∷ us) (own ∷ paths) at all =
    let none : i ≡ i + 0 = omega arith in
    let same : v ≡ u = one_some v u at in
    record {
      own = own;
      order =
          subst (λ (k : ℕ). ArePathsInOrder p.dialect u (notes_of p k) own) none
          (subst (λ (w : Routine). ArePathsInOrder p.dialect w (notes_of p i) own) same all.0);
      units = λ j. same j ∷ us;
      rest = refl;
    }
parted p i (suc n) u (v ∷ us) (own ∷ paths) at all =
    let next : suc i + n ≡ i + suc n = omega arith in
    let more = parted p (suc i) n u us paths at all.1 in
    record {
      own = more.own;
      order = subst (λ (k : ℕ). ArePathsInOrder p.dialect u (notes_of p k) more.own) next more.order;
      units = more.units;
      rest = more.rest;
    }

there : {A : Type 0} (xs : List A) (n : ℕ) → n < length xs → (x : A) × (slice_get xs n ≡ Some x)
there [] n h = absurd (omega arith)
there (x ∷ xs) zero h = (x, refl)
there (x ∷ xs) (suc n) h = there xs n (omega (arith, h))

pub one_counted : (scene : Scene) (pool : List Node) (now after : Drafts) (n : ℕ) → n < length scene.books.now.units.now → Counted scene pool now n → AddsUnit scene n now after
    → Counted scene pool after (n + 1)
one_counted scene pool now after n lt h adds =
    let next : suc n ≡ n + 1 = omega arith in
    subst (Counted scene pool after) next
    (record {
      grows = Grows-trans pool now.pool after.pool h.grows adds.grows;
      kept = adds.kept;
      is = λ p r paths all.
          let here = there p.units n (subst (λ (us : List Routine). n < length us) r.is_scene.units lt) in
          let part = parted p 0 n here.0 p.units paths here.1 all in
          let start : 0 + n ≡ n = omega arith in
          let order : ArePathsInOrder p.dialect here.0 (notes_of p n) part.own = subst (λ (k : ℕ). ArePathsInOrder p.dialect here.0 (notes_of p k) part.own) start part.order in
          let left = conditions_of_units p (suc n) (drop (suc n) p.units) (drop (suc n) paths) in
          (λ i. adds.is p here.0 part.own (ready_stays pool now.pool h.grows scene p r) here.1 order i ++ left)
          ∙ (append_assoc (trees_of now) (conditions_along p n here.0 1 part.own) left
          ∙ ((λ i. trees_of now ++ conditions_of_units p n (sym part.units i) (sym part.rest i)) ∙ h.is p r paths all));
    })

-- ---- all of them

pub all_counted : (scene : Scene) (pool : List Node) (now : Drafts) (n : ℕ) (graphs : List Graph) → AreSceneGraphs pool scene graphs → n ≡ length graphs → Counted scene pool now n
    → (p : Program) → IsReady pool scene p → (paths : List (List Path)) → AreAllPaths p paths → trees_of now ≡ conditions_of p paths
all_counted scene pool now n graphs h many counted p r paths all =
    let none : drop n p.units ≡ [] = none_behind n p.units (many ∙ graphs_long p 0 p.units graphs (h p r)) in
    nothing_more (trees_of now) ∙ ((λ i. trees_of now ++ conditions_of_units p n (sym none i) (drop n paths)) ∙ counted.is p r paths all)
  where
    none_behind : (n : ℕ) (us : List Routine) → n ≡ length us → drop n us ≡ []
    none_behind n [] e = drop-nil n
    none_behind zero (u ∷ us) e = absurd (omega arith)
    none_behind (suc n) (u ∷ us) e = none_behind n us (omega (arith, e))
