-- What is told of the flow of a unit with cut points.
use Rattle.std.specs.Prelude.{◌≡◌, ◌<◌, ℕ, List, map, length, Option, None, Some}
use Rattle.fort_syntax.specs.FirstFaults.{TellsLeast}
use Rattle.fort_syntax.specs.declared.dialect.Dialect.{Dialect}
use Rattle.fort_syntax.specs.declared.refusal.Fault.{Fault}
use Rattle.fort_syntax.specs.declared.rule.Rule.{Rule}
use Rattle.fort_syntax.specs.declared.rule.Rule.TheVariants.{UncutCycle}
use Rattle.fort_syntax.specs.declared.unit.Unit.{Unit as Routine}
use Rattle.fort_notes.specs.Assertions.{Assertion, Notes}
use Rattle.fort_model.specs.declared.graph.Graph.{Graph}
use Rattle.fort_model.specs.Graphs.{IsGraphOf}
use Rattle.fort_model.specs.Paths.{Uncut as UncutWay}
use Rattle.fort_model.specs.Program.{Program, notes_of}
use Rattle.fort_model.specs.Rules.{LiesOnUncutCycle}
use Rattle.flow_cycles.specs.declared.graphs.Routes.{Routes}
use Rattle.flow_cycles.specs.declared.graphs.Routes.TheVariants.{Whole, Uncut}

-- the ASSERTs of notes stand at these points
abbrev pub StandAt : List ℕ → Notes → Type 0
StandAt cuts notes = cuts ≡ map (λ (a : Assertion). a.point) notes.asserts

-- the graph of a unit, in which no statement lies on an uncut cycle
pub record IsCutGraph (dialect : Dialect) (u : Routine) (notes : Notes) (graph : Graph) : Type 0 where
  pub graph_of : IsGraphOf dialect u notes graph
  pub free : (p : ℕ) → UncutWay dialect u notes p p → ⊥

-- the first statement that lies on an uncut cycle
pub record IsFirstUncut (dialect : Dialect) (u : Routine) (notes : Notes) (p : ℕ) : Type 0 where
  pub inside : p < length u.lines
  pub cycle : UncutWay dialect u notes p p
  pub first : (q : ℕ) → q < p → UncutWay dialect u notes q q → ⊥

-- a point is the first on an uncut cycle, whatever notes have their ASSERTs at the points
abbrev pub TellsFirstUncut : Dialect → Routine → List ℕ → ℕ → Type 0
TellsFirstUncut dialect u cuts p = (notes : Notes) → StandAt cuts notes → IsFirstUncut dialect u notes p

-- rule 31 is broken at a card by the unit of number i of a program
abbrev pub IsUncutAt : Program → ℕ → Routine → Rule → ℕ → Type 0
IsUncutAt p i u rule card = (rule ≡ UncutCycle) × LiesOnUncutCycle p i u card

abbrev pub fault_in : Routes → Option Fault
fault_in (Whole graph) = None
fault_in (Uncut fault) = Some fault

abbrev pub IsGraphIn : Program → ℕ → Routine → Routes → Type 0
IsGraphIn p i u (Whole graph) = IsGraphOf p.dialect u (notes_of p i) graph
IsGraphIn p i u (Uncut fault) = Unit {0}

-- for each program in which the unit has some number and its ASSERTs stand at the points: the first fault by
-- rule 31, or that there is none, and the graph
abbrev pub TellsRoutes : Dialect → Routine → List ℕ → Routes → Type 0
TellsRoutes dialect u cuts routes =
    (p : Program) (i : ℕ) → p.dialect ≡ dialect → StandAt cuts (notes_of p i)
    → TellsLeast (IsUncutAt p i u) (fault_in routes) × IsGraphIn p i u routes
