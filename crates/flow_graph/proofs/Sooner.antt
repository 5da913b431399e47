-- The sooner of the faults by 29 and by 30.
use Rattle.std.proofs.Common.{◌≡◌, ℕ, List, Option, Some, slice_get, sym, ap, ◌∙◌, subst}
use Rattle.formula.specs.declared.node.Node.{Node}
use Rattle.fort_syntax.specs.FirstFaults.{TellsLeast}
use Rattle.fort_syntax.specs.WellFormed.{IsWellFormedUnit}
use Rattle.fort_syntax.specs.declared.dialect.Dialect.{Dialect}
use Rattle.fort_syntax.specs.declared.refusal.Fault.{Fault}
use Rattle.fort_syntax.specs.declared.rule.Rule.TheVariants.{DoSmashed, FallsOffEnd}
use Rattle.fort_syntax.specs.declared.unit.Unit.{Unit as Routine}
use Rattle.fort_model.specs.Program.{Program}
use Rattle.fort_model.specs.Rules.{at_lines, breaks_do, off_end}
use Rattle.unit_faults.specs.Breaking.{IsBrokenAt}
use Rattle.unit_faults.specs.Sooner.{first_at, sooner}
use Rattle.unit_faults.proofs.Least.{sooner_tells, first_tells}
use Rattle.path_scene.specs.Scenes.{IsReady}
use Rattle.path_scene.specs.declared.scene.Scene.{Scene}
use Rattle.ready_flows.proofs.Ready.{ready_unit}
use Rattle.flow_graph.specs.Units.{IsEarly, TellsEarly}

same_unit : (a b : Routine) → ◌≡◌ {A = Option Routine} (Some a) (Some b) → a ≡ b
same_unit a b e = cc

-- the unit of a number is that of the scene
pub one_unit : (pool : List Node) (scene : Scene) (p : Program) (n : ℕ) (v u : Routine) → IsReady pool scene p → slice_get scene.books.now.units.now n ≡ Some v
    → slice_get p.units n ≡ Some u → v ≡ u
one_unit pool scene p n v u ready here there =
    same_unit v u (sym here ∙ ap (λ (us : List Routine). slice_get us n) ready.is_scene.units ∙ there)

-- and it is well formed
pub well_here : (pool : List Node) (scene : Scene) (p : Program) (n : ℕ) (v : Routine) → IsReady pool scene p → slice_get scene.books.now.units.now n ≡ Some v
    → (d : Dialect) × IsWellFormedUnit d v
well_here pool scene p n v ready here =
    (p.dialect, ready_unit pool scene p n v ready (sym (ap (λ (us : List Routine). slice_get us n) ready.is_scene.units) ∙ here))

-- what a statement told of the table tells of the program
abbrev TellsSmashed : Scene → Routine → Option Fault → Type 0
TellsSmashed scene v fault =
    (p : Program) → p.units ≡ scene.books.now.units.now → p.smashes ≡ scene.smashes.now → fault ≡ first_at DoSmashed (breaks_do p v) 0 v.lines

pub early_told : (scene : Scene) (n : ℕ) (v : Routine) (smashed ended told : Option Fault) → slice_get scene.books.now.units.now n ≡ Some v
    → TellsSmashed scene v smashed → TellsLeast (IsBrokenAt FallsOffEnd (off_end scene.dialect v v.lines)) ended → told ≡ sooner smashed ended
    → TellsEarly scene n told
early_told scene n v smashed ended told here smashes ends joined pool p u ready there =
    subst (TellsLeast (IsEarly p u)) (sym joined)
    (sooner_tells (IsBrokenAt DoSmashed (at_lines u (breaks_do p u))) (IsBrokenAt FallsOffEnd (off_end p.dialect u u.lines)) smashed ended first second)
  where
    same : v ≡ u
    same = one_unit pool scene p n v u ready here there

    well : IsWellFormedUnit p.dialect u
    well = ready_unit pool scene p n u ready there

    found : smashed ≡ first_at DoSmashed (breaks_do p u) 0 u.lines
    found =
        subst (λ (w : Routine). smashed ≡ first_at DoSmashed (breaks_do p w) 0 w.lines) same
        (smashes p (sym ready.is_scene.units) (sym ready.is_scene.smashes))

    first : TellsLeast (IsBrokenAt DoSmashed (at_lines u (breaks_do p u))) smashed
    first =
        subst (TellsLeast (IsBrokenAt DoSmashed (at_lines u (breaks_do p u)))) (sym found)
        (first_tells DoSmashed (breaks_do p u) 0 u.lines u.head u.«end» well.cards)

    second : TellsLeast (IsBrokenAt FallsOffEnd (off_end p.dialect u u.lines)) ended
    second =
        subst (λ (w : Routine). TellsLeast (IsBrokenAt FallsOffEnd (off_end p.dialect w w.lines)) ended) same
        (subst (λ (d : Dialect). TellsLeast (IsBrokenAt FallsOffEnd (off_end d v v.lines)) ended) ready.is_scene.dialect ends)
