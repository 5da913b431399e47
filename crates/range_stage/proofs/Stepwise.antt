-- The faults of units lead to the first fault of all of them.
use Rattle.std.proofs.Common.{◌≡◌, ℕ, zero, suc, ◌+◌, ◌<◌, IsTrue, get_or, List, [], ◌∷◌, length, map, Option, Some, None, slice_get, sym, ap, ◌∙◌, subst}
use Rattle.std.proofs.lemmas.Option.{slice_get-get_or}
use Rattle.formula.specs.declared.node.Node.{Node}
use Rattle.fort_syntax.specs.DeckOrder.{stand_between}
use Rattle.fort_syntax.specs.FirstFaults.{TellsLeast}
use Rattle.fort_syntax.specs.WellFormed.{AreWellFormedUnits}
use Rattle.fort_syntax.specs.declared.dialect.Dialect.{Dialect}
use Rattle.fort_syntax.specs.declared.refusal.Fault.{Fault}
use Rattle.fort_syntax.specs.declared.unit.Unit.{Unit as Routine}
use Rattle.fort_notes.specs.Assertions.{Notes, notes_tree}
use Rattle.fort_notes.specs.declared.notes.UnitSpec.{UnitSpec}
use Rattle.fort_model.specs.Program.{Program, notes_in, notes_of}
use Rattle.fort_model.specs.Stages.{IsBrokenOf, IsFirstBroken, KeepsAll, rules_of_ranges}
use Rattle.do_ranges.specs.Stage.{TellsRanges}
use Rattle.path_scene.specs.Scenes.{IsScene}
use Rattle.path_scene.specs.declared.scene.Scene.{Scene}
use Rattle.unit_faults.specs.Sooner.{sooner}
use Rattle.unit_stages.specs.Before.{TellsBefore}
use Rattle.unit_stages.proofs.Joined.{none_before, one_more, all_before, kept_by_all}
use Rattle.range_stage.specs.Ranges.{IsOfUnits, TellsAllRanges}

-- what was read stands at its place
pub at_place : {A : Type 0} (xs : List A) (n : ℕ) (x : A) → n < length xs → x ≡ get_or xs n x → slice_get xs n ≡ Some x
at_place xs n x inside is = slice_get-get_or xs n x inside ∙ ap Some (sym is)

-- the cards of a unit ascend
pub cards_at : (d : Dialect) (units : List Routine) (n : ℕ) (u : Routine) → AreWellFormedUnits d units → slice_get units n ≡ Some u
    → IsTrue (stand_between u.head u.lines u.«end»)
cards_at d [] n u well at = absurd (cc)
cards_at d (v ∷ units) zero u well at =
    let same : v ≡ u = cc in
    subst (λ (w : Routine). IsTrue (stand_between w.head w.lines w.«end»)) same well.0.cards
cards_at d (v ∷ units) (suc n) u well at = cards_at d units n u well.1 at

-- what is told of the units before a number
abbrev pub TellsFirst : List Routine → List UnitSpec → ℕ → Option Fault → Type 0
TellsFirst units specs n told = (p : Program) → IsOfUnits units specs p → TellsBefore p rules_of_ranges n told

pub nothing_told : (units : List Routine) (specs : List UnitSpec) → TellsFirst units specs 0 None
nothing_told units specs p is = none_before p rules_of_ranges

map_at : {A B : Type 0} (f : A → B) (xs : List A) (n : ℕ) (x : A) → slice_get xs n ≡ Some x → slice_get (map f xs) n ≡ Some (f x)
map_at f [] n x e = absurd (cc)
map_at f (y ∷ xs) zero x e = let q : y ≡ x = cc in ap (λ z. Some (f z)) q
map_at f (y ∷ xs) (suc n) x e = map_at f xs n x e

-- the notes of the unit of a number
notes_there : (specs : List UnitSpec) (n : ℕ) (spec : UnitSpec) (p : Program) (pool : List Node) → p.notes ≡ map (notes_tree pool) specs
    → slice_get specs n ≡ Some spec → notes_of p n ≡ notes_tree pool spec
notes_there specs n spec p pool notes at =
    ap (λ (all : List Notes). notes_in (slice_get all n)) notes ∙ ap notes_in (map_at (notes_tree pool) specs n spec at)

pub one_told : (units : List Routine) (specs : List UnitSpec) (n : ℕ) (u : Routine) (spec : UnitSpec) (told fault next : Option Fault)
    → slice_get units n ≡ Some u → slice_get specs n ≡ Some spec → TellsFirst units specs n told → TellsRanges u spec fault
    → next ≡ sooner told fault → TellsFirst units specs (n + 1) next
one_told units specs n u spec told fault next is_unit is_spec before here joined p is =
    subst (TellsBefore p rules_of_ranges (n + 1)) (sym joined)
    (one_more p rules_of_ranges n u told fault (ap (λ (us : List Routine). slice_get us n) is.units_are ∙ is_unit) (before p is)
    (here p n is.pool (notes_there specs n spec p is.pool is.notes_are is_spec)))

pub all_told : (units : List Routine) (specs : List UnitSpec) (n : ℕ) (told : Option Fault) → n ≡ length units → TellsFirst units specs n told
    → TellsAllRanges units specs told
all_told units specs n told whole before p is =
    all_before p rules_of_ranges told
    (subst (λ (k : ℕ). TellsBefore p rules_of_ranges k told) (whole ∙ ap (λ (us : List Routine). length us) (sym is.units_are)) (before p is))

-- ---- scenes

is_of : (pool : List Node) (scene : Scene) (p : Program) → IsScene pool scene p → IsOfUnits scene.books.now.units.now scene.notes.now p
is_of pool scene p is = record { units_are = sym is.units; pool = pool; notes_are = sym is.notes }

pub scene_kept : (scene : Scene) (told : Option Fault) → TellsAllRanges scene.books.now.units.now scene.notes.now told → told ≡ None
    → (pool : List Node) (p : Program) → IsScene pool scene p → KeepsAll p rules_of_ranges
scene_kept scene told tells none pool p is =
    kept_by_all p rules_of_ranges (subst (TellsLeast (IsBrokenOf p rules_of_ranges)) none (tells p (is_of pool scene p is)))

pub scene_broken : (scene : Scene) (told : Option Fault) (f : Fault) → TellsAllRanges scene.books.now.units.now scene.notes.now told → told ≡ Some f
    → (pool : List Node) (p : Program) → IsScene pool scene p → IsFirstBroken p rules_of_ranges f
scene_broken scene told f tells some pool p is = subst (TellsLeast (IsBrokenOf p rules_of_ranges)) some (tells p (is_of pool scene p is))
