-- The routes of the unit of a number.
use Rattle.std.proofs.Common.{◌≡◌, ℕ, suc, ◌<◌, List, [], ◌∷◌, length, get_or, map, Some, slice_get, IsTrue, refl, sym, ap, ◌∙◌, subst, arith}
use Rattle.std.proofs.lemmas.Option.{slice_get-get_or}
use Rattle.formula.specs.declared.node.Node.{Node}
use Rattle.fort_syntax.specs.DeckOrder.{stand_between}
use Rattle.fort_syntax.specs.FirstFaults.{TellsLeast}
use Rattle.fort_syntax.specs.declared.unit.Unit.{Unit as Routine}
use Rattle.fort_notes.specs.Assertions.{Assertion, Notes, assertion_tree, notes_tree}
use Rattle.fort_notes.specs.declared.notes.AssertSpec.{AssertSpec}
use Rattle.fort_notes.specs.declared.notes.UnitSpec.{UnitSpec}
use Rattle.fort_laws.proofs.Small.{map_at}
use Rattle.fort_model.specs.Program.{Program, notes_in, notes_of}
use Rattle.flow_tests.specs.Tests.{IsFlowing}
use Rattle.path_scene.specs.Scenes.{IsReady}
use Rattle.path_scene.specs.declared.scene.Scene.{Scene}
use Rattle.ready_flows.proofs.Ready.{ready_unit, ready_flows}
use Rattle.flow_cycles.specs.Routes.{TellsRoutes, StandAt, IsUncutAt, IsGraphIn, fault_in}
use Rattle.flow_cycles.specs.declared.graphs.Routes.{Routes}
use Rattle.flow_graph.specs.Units.{TellsRoutesIn}
use Rattle.flow_graph.proofs.Sooner.{one_unit}

there : (pool : List Node) (scene : Scene) (p : Program) (n : ℕ) (v : Routine) → IsReady pool scene p → slice_get scene.books.now.units.now n ≡ Some v
    → slice_get p.units n ≡ Some v
there pool scene p n v ready here = sym (ap (λ (us : List Routine). slice_get us n) ready.is_scene.units) ∙ here

pub flows : (pool : List Node) (scene : Scene) (p : Program) (n : ℕ) (v : Routine) → IsReady pool scene p → slice_get scene.books.now.units.now n ≡ Some v → IsFlowing v
flows pool scene p n v ready here =
    ready_flows pool scene p n v ready (there pool scene p n v ready here)

pub ordered : (pool : List Node) (scene : Scene) (p : Program) (n : ℕ) (v : Routine) → IsReady pool scene p → slice_get scene.books.now.units.now n ≡ Some v
    → IsTrue (stand_between v.head v.lines v.«end»)
ordered pool scene p n v ready here = (ready_unit pool scene p n v ready (there pool scene p n v ready here)).cards

mapped_long : {A B : Type 0} (f : A → B) (xs : List A) → length (map f xs) ≡ length xs
mapped_long f [] = refl
mapped_long f (x ∷ xs) = ap suc (mapped_long f xs)

-- each unit has notes
pub as_long : (pool : List Node) (scene : Scene) (p : Program) → IsReady pool scene p → length scene.notes.now ≡ length scene.books.now.units.now
as_long pool scene p ready =
    sym (mapped_long (notes_tree pool) scene.notes.now) ∙ ap (λ (ns : List Notes). length ns) ready.is_scene.notes ∙ ready.fitting.count
    ∙ ap (λ (us : List Routine). length us) (sym ready.is_scene.units)

pub spec_at : (pool : List Node) (scene : Scene) (p : Program) (n : ℕ) (d : UnitSpec) → IsReady pool scene p → n < length scene.books.now.units.now
    → slice_get scene.notes.now n ≡ Some (get_or scene.notes.now n d)
spec_at pool scene p n d ready inside =
    slice_get-get_or scene.notes.now n d (let long : length scene.notes.now ≡ length scene.books.now.units.now = as_long pool scene p ready in omega (arith, long, inside))

-- the ASSERTs of a unit stand where its notes say
points_stand : (pool : List Node) (asserts : List AssertSpec)
    → map (λ (a : AssertSpec). a.line) asserts ≡ map (λ (a : Assertion). a.point) (map (assertion_tree pool) asserts)
points_stand pool [] = refl
points_stand pool (a ∷ rest) = ap (λ (ps : List ℕ). a.line ∷ ps) (points_stand pool rest)

notes_there : (specs : List UnitSpec) (n : ℕ) (spec : UnitSpec) (p : Program) (pool : List Node) → p.notes ≡ map (notes_tree pool) specs
    → slice_get specs n ≡ Some spec → notes_of p n ≡ notes_tree pool spec
notes_there specs n spec p pool notes at =
    ap (λ (all : List Notes). notes_in (slice_get all n)) notes ∙ ap notes_in (map_at (notes_tree pool) specs n spec at)

pub routes_told : (scene : Scene) (n : ℕ) (v : Routine) (spec : UnitSpec) (asserts : List AssertSpec) (points : List ℕ) (routes : Routes)
    → slice_get scene.books.now.units.now n ≡ Some v → slice_get scene.notes.now n ≡ Some spec → asserts ≡ spec.asserts
    → points ≡ map (λ (a : AssertSpec). a.line) asserts → TellsRoutes scene.dialect v points routes → TellsRoutesIn scene n routes
routes_told scene n v spec asserts points routes here noted is_asserts is_points tells pool p u ready at =
    subst (λ (w : Routine). TellsLeast (IsUncutAt p n w) (fault_in routes) × IsGraphIn p n w routes) (one_unit pool scene p n v u ready here at)
    (tells p n (sym ready.is_scene.dialect) stand)
  where
    stand : StandAt points (notes_of p n)
    stand =
        is_points ∙ ap (map (λ (a : AssertSpec). a.line)) is_asserts ∙ points_stand pool spec.asserts
        ∙ sym (ap (λ (ns : Notes). map (λ (a : Assertion). a.point) ns.asserts) (notes_there scene.notes.now n spec p pool (sym ready.is_scene.notes) noted))
