-- What is told of the flow of one unit of a program.
use Rattle.std.specs.Prelude.{◌≡◌, ◌⊎◌, ℕ, List, Option, Some, slice_get}
use Rattle.formula.specs.declared.node.Node.{Node}
use Rattle.fort_syntax.specs.FirstFaults.{TellsLeast}
use Rattle.fort_syntax.specs.declared.refusal.Fault.{Fault}
use Rattle.fort_syntax.specs.declared.rule.Rule.{Rule}
use Rattle.fort_syntax.specs.declared.rule.Rule.TheVariants.{DoSmashed, FallsOffEnd}
use Rattle.fort_syntax.specs.declared.unit.Unit.{Unit as Routine}
use Rattle.fort_model.specs.Graphs.{IsGraphOf}
use Rattle.fort_model.specs.Program.{Program, notes_of}
use Rattle.fort_model.specs.Rules.{at_lines, breaks_do, off_end}
use Rattle.fort_model.specs.Stages.{rules_of_flow}
use Rattle.fort_model.specs.declared.graph.Graph.{Graph}
use Rattle.unit_faults.specs.Breaking.{BreaksOneOf, IsBrokenAt}
use Rattle.path_scene.specs.Scenes.{IsReady}
use Rattle.path_scene.specs.declared.scene.Scene.{Scene}
use Rattle.flow_cycles.specs.Routes.{IsUncutAt, IsGraphIn, fault_in}
use Rattle.flow_cycles.specs.declared.graphs.Routes.{Routes}

-- something holds of the unit of number n, in every program that a scene is of
abbrev pub OfUnit : Scene → ℕ → (Program → Routine → Type 0) → Type 0
OfUnit scene n claim = (pool : List Node) (p : Program) (u : Routine) → IsReady pool scene p
    → slice_get p.units n ≡ Some u → claim p u

-- 29 or 30 is broken at a card
abbrev pub IsEarly : Program → Routine → Rule → ℕ → Type 0
IsEarly p u rule card = IsBrokenAt DoSmashed (at_lines u (breaks_do p u)) rule card ⊎ IsBrokenAt FallsOffEnd
    (off_end p.dialect u u.lines) rule card

-- the first fault of the unit by 29 and 30, or that it keeps them
abbrev pub TellsEarly : Scene → ℕ → Option Fault → Type 0
TellsEarly scene n told = OfUnit scene n (λ p u. TellsLeast (IsEarly p u) told)

-- its graph and that it keeps 31, or its first fault by it
abbrev pub TellsRoutesIn : Scene → ℕ → Routes → Type 0
TellsRoutesIn scene n routes = OfUnit scene n (λ p u. TellsLeast (IsUncutAt p n u) (fault_in routes) × IsGraphIn p n u routes)

-- the graph of the unit
abbrev pub IsGraphOfUnit : Scene → ℕ → Graph → Type 0
IsGraphOfUnit scene n graph = OfUnit scene n (λ p u. IsGraphOf p.dialect u (notes_of p n) graph)

-- the first fault of the unit by the rules on the flow, or that it keeps them
abbrev pub TellsFlow : Scene → ℕ → Option Fault → Type 0
TellsFlow scene n told = OfUnit scene n (λ p u. TellsLeast (BreaksOneOf p rules_of_flow n u) told)
