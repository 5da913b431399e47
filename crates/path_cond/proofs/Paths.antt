-- The conditions of paths are added one path after another.
use Rattle.std.proofs.Common.{◌≡◌, ◌<◌, ◌+◌, ℕ, zero, suc, Bool, false, List, [], ◌∷◌, ◌++◌, length, drop, Option, Some, None, is_some, slice_get, append_assoc, refl, sym, ◌∙◌, subst, arith}
use Rattle.std.specs.Option.{IsSome}
use Rattle.formula.specs.Pool.{Grows}
use Rattle.formula.specs.declared.node.Node.{Node}
use Rattle.formula.proofs.Grown.{Grows-refl, Grows-trans}
use Rattle.fort_model.specs.Graphs.{IsGraphOf}
use Rattle.fort_model.specs.Lists.{IsAmong}
use Rattle.fort_model.specs.Paths.{IsPath, starts_at}
use Rattle.fort_model.specs.Program.{Program, notes_of}
use Rattle.fort_model.specs.declared.graph.Graph.{Graph}
use Rattle.fort_notes.specs.Assertions.{Assertion, Notes}
use Rattle.fort_syntax.specs.declared.dialect.Dialect.{Dialect}
use Rattle.fort_syntax.specs.declared.unit.Unit.{Unit as Routine}
use Rattle.path_cond.specs.Found.{AddsPath, AddsPaths, AreFewIn, HasFewChecks, IsDraft, IsGraphIn, StartsIn, conditions_of_way, conditions_of_ways, remaining, trees_of}
use Rattle.path_cond.specs.declared.found.Drafts.{Drafts}
use Rattle.path_cond.proofs.Added.{nothing_more}
use Rattle.path_cond.proofs.Few.{checks_along}
use Rattle.path_cond.proofs.UnitWays.{among_mapped}
use Rattle.path_cut.specs.Ways.{Way, ways_of}
use Rattle.path_fronts.proofs.Carrying.{ready_before}
use Rattle.path_plans.specs.declared.plan.Plan.{Plan}
use Rattle.path_scene.proofs.Staying.{ready_stays}
use Rattle.path_scene.specs.Scenes.{IsReady}
use Rattle.path_starts.specs.Starts.{unit_of}
use Rattle.path_fronts.specs.Steps.{HasStart}
use Rattle.walk_setting.specs.Settings.{seen_from}
use Rattle.walk_setting.specs.declared.setting.Setting.{Setting}
use Rattle.way_laws.proofs.Whole.{ways_are_paths}
use Rattle.way_laws.specs.PathsOf.{path_of}

-- the conditions of some paths were added, and ways are left
pub record Passed (plan : Plan) (graph : Graph) (before now : Drafts) (n : ℕ) (more : Bool) (at : Option Way) (left : List Way) : Type 0 where
  pub grows : Grows before.pool now.pool
  pub kept : IsDraft now
  pub found : more ≡ is_some at
  pub many : n + length (remaining at left) ≡ length (ways_of graph)
  pub among : (way : Way) → IsAmong way (remaining at left) → IsAmong way (ways_of graph)
  pub is : (p : Program) → IsReady before.pool plan.setting.now.scene.now p
      → trees_of now ++ conditions_of_ways plan (suc n) (remaining at left) p ≡ trees_of before ++ conditions_of_ways plan 1 (ways_of graph) p

-- behind a step a cursor has left what it had left before
all_left : (ways : List Way) (at : Option Way) (left : List Way) → at ≡ slice_get ways 0 → left ≡ drop 1 ways → remaining at left ≡ ways
all_left [] at left e f = λ i. remaining (e i) (f i)
all_left (way ∷ ways) at left e f = λ i. remaining (e i) (f i)

pub none_passed : (plan : Plan) (graph : Graph) (before : Drafts) (more : Bool) (at : Option Way) (ways left : List Way) → IsDraft before → ways ≡ ways_of graph
    → more ≡ is_some (slice_get ways 0) → at ≡ slice_get ways 0 → left ≡ drop 1 ways → Passed plan graph before before 0 more at left
none_passed plan graph before more at ways left draft all found e f =
    let same : remaining at left ≡ ways_of graph = all_left ways at left e f ∙ all in
    record {
      grows = Grows-refl before.pool;
      kept = draft;
      found = found ∙ (λ i. is_some (sym e i));
      many = let long : length (remaining at left) ≡ length (ways_of graph) = λ i. length (same i) in omega (arith, long);
      among = λ way m. subst (λ (ws : List Way). IsAmong way ws) same m;
      is = λ p r i. trees_of before ++ conditions_of_ways plan 1 (same i) p;
    }

-- ---- one more

behind_first : (way other : Way) (ways : List Way) → IsAmong way ways → IsAmong way (other ∷ ways)
behind_first way other ways m = (suc m.0, m.1)

pub one_passed : (plan : Plan) (graph : Graph) (before now after : Drafts) (n next : ℕ) (more still : Bool) (at then : Option Way) (way : Way) (ways left : List Way)
    → Passed plan graph before now n more at ways → at ≡ Some way → next ≡ suc n → AddsPath plan way next now after
    → still ≡ is_some (slice_get ways 0) → then ≡ slice_get ways 0 → left ≡ drop 1 ways → Passed plan graph before after next still then left
one_passed plan graph before now after n next more still at then way ways left h here count adds found e f =
    let scene = plan.setting.now.scene.now in
    let same : remaining then left ≡ ways = all_left ways then left e f in
    let was : remaining at ways ≡ way ∷ ways = λ i. remaining (here i) ways in
    record {
      grows = Grows-trans before.pool now.pool after.pool h.grows adds.grows;
      kept = adds.kept;
      found = found ∙ (λ i. is_some (sym e i));
      many =
          let long : length (remaining at ways) ≡ suc (length ways) = λ i. length (was i) in
          let left_long : length (remaining then left) ≡ length ways = λ i. length (same i) in
          let passed = h.many in
          omega (arith, long, left_long, passed, count);
      among = λ other m.
          h.among other (subst (λ (ws : List Way). IsAmong other ws) (sym was) (behind_first other way ways (subst (λ (ws : List Way). IsAmong other ws) same m)));
      is = λ p r.
          (λ i. trees_of after ++ conditions_of_ways plan (suc next) (same i) p)
          ∙ ((λ i. adds.is p (ready_stays before.pool now.pool h.grows scene p r) i ++ conditions_of_ways plan (suc next) ways p)
          ∙ (append_assoc (trees_of now) (conditions_of_way plan next way p) (conditions_of_ways plan (suc next) ways p)
          ∙ ((λ i. trees_of now ++ (conditions_of_way plan (count i) way p ++ conditions_of_ways plan (suc (count i)) ways p))
          ∙ ((λ i. trees_of now ++ conditions_of_ways plan (suc n) (sym was i) p) ∙ h.is p r))));
    }

-- ---- all of them

none_there : (at : Option Way) → false ≡ is_some at → at ≡ None
none_there None e = refl
none_there (Some way) e = absurd cc

pub all_passed : (plan : Plan) (graph : Graph) (before now : Drafts) (n : ℕ) (more : Bool) (at : Option Way) (ways : List Way) → Passed plan graph before now n more at ways → more ≡ false
    → AddsPaths plan 1 (ways_of graph) before now
all_passed plan graph before now n more at ways h over =
    let none : at ≡ None = none_there at (sym over ∙ h.found) in
    record {
      grows = h.grows;
      kept = h.kept;
      is = λ p r. nothing_more (trees_of now) ∙ ((λ i. trees_of now ++ conditions_of_ways plan (suc n) (remaining (sym none i) ways) p) ∙ h.is p r);
    }

-- ---- what a path is asked for

-- the graph of a unit, for the walk along its paths
pub graph_known : (plan : Plan) (setting : Setting) (graph : Graph) (pool : List Node) (p : Program) → setting ≡ plan.setting.now → IsReady pool plan.setting.now.scene.now p → IsGraphIn pool plan graph
    → (notes : Notes) × IsGraphOf setting.scene.now.dialect setting.book.now.unit.now notes graph
graph_known plan setting graph pool p same r is =
    let notes = notes_of p plan.setting.now.number in (
      notes,
      subst (λ (s : Setting). IsGraphOf s.scene.now.dialect s.book.now.unit.now notes graph) (sym same)
          (subst (λ (d : Dialect). IsGraphOf d (unit_of plan) notes graph) (sym r.is_scene.dialect) (is p r)),
    )

assert_there : (dialect : Dialect) (u : Routine) (notes : Notes) (a : Option Assertion) (way : List (List ℕ)) → starts_at dialect u notes a way → IsSome a
assert_there dialect u notes None way h = absurd h
assert_there dialect u notes (Some a) way h = refl

start_there : (plan : Plan) (p : Program) (start : ℕ) (way : List (List ℕ)) → IsPath p.dialect (unit_of plan) (notes_of p plan.setting.now.number) (record { start = start; choices = way })
    → HasStart (seen_from plan.setting.now p) start
start_there plan p zero way h = tt
start_there plan p (suc k) way h =
    let notes = notes_of p plan.setting.now.number in
    assert_there p.dialect (unit_of plan) notes (slice_get notes.asserts k) way h

pub start_of : (plan : Plan) (graph : Graph) (before now : Drafts) (n : ℕ) (more : Bool) (at : Option Way) (way : Way) (ways : List Way) (p0 : Program)
    → IsReady before.pool plan.setting.now.scene.now p0 → IsGraphIn before.pool plan graph → Passed plan graph before now n more at ways → at ≡ Some way → StartsIn now.pool plan way.start
start_of plan graph before now n more at way ways p0 r0 is h here p r =
    let i = plan.setting.now.number in
    let u = unit_of plan in
    let back : IsReady before.pool plan.setting.now.scene.now p = ready_before before.pool now.pool h.grows plan.setting.now.scene.now p0 p r0 r in
    let among : IsAmong way (ways_of graph) = h.among way (subst (λ (o : Option Way). IsAmong way (remaining o ways)) (sym here) (0, refl)) in
    let path = ((ways_are_paths p.dialect u (notes_of p i) graph (is p back)).whole (path_of way)).1 (among_mapped (ways_of graph) way among) in
    start_there plan p way.start (path_of way).choices path

-- ---- how many there are

-- a further path has a number
pub number_fits : (plan : Plan) (graph : Graph) (before now : Drafts) (n : ℕ) (more : Bool) (at : Option Way) (way : Way) (ways : List Way) (p : Program)
    → IsReady before.pool plan.setting.now.scene.now p → AreFewIn before.pool plan graph → Passed plan graph before now n more at ways → at ≡ Some way → n + 1 < 4294967296
number_fits plan graph before now n more at way ways p r few h here =
    let long : length (remaining at ways) ≡ suc (length ways) = λ i. length (remaining (here i) ways) in
    let passed = h.many in
    let most = (few p r).paths in
    omega (arith, long, passed, most)

-- its checks have numbers
pub checks_fit : (plan : Plan) (graph : Graph) (before now : Drafts) (n : ℕ) (more : Bool) (at : Option Way) (way : Way) (ways : List Way) (p0 : Program)
    → IsReady before.pool plan.setting.now.scene.now p0 → IsGraphIn before.pool plan graph → AreFewIn before.pool plan graph → Passed plan graph before now n more at ways → at ≡ Some way
    → HasFewChecks now.pool plan way
checks_fit plan graph before now n more at way ways p0 r0 is few h here p r =
    let back : IsReady before.pool plan.setting.now.scene.now p = ready_before before.pool now.pool h.grows plan.setting.now.scene.now p0 p r0 r in
    let among : IsAmong way (ways_of graph) = h.among way (subst (λ (o : Option Way). IsAmong way (remaining o ways)) (sym here) (0, refl)) in
    checks_along plan p graph way (is p back) (few p back) among
