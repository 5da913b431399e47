-- What a graph of the flow is to its unit.
use Rattle.std.specs.Prelude.{◌≡◌, ℕ, zero, suc, ◌<◌, ◌≤◌, List, [], ◌∷◌, ◌++◌, map, length, Option, Some, None, slice_get, get_or}
use Rattle.fort_syntax.specs.TreePatterns.{carried}
use Rattle.fort_syntax.specs.declared.dialect.Dialect.{Dialect}
use Rattle.fort_syntax.specs.declared.dialect.Dialect.TheVariants.{Common, SeventySeven}
use Rattle.fort_syntax.specs.declared.stmt.Stmt.{Stmt}
use Rattle.fort_syntax.specs.declared.stmt.Stmt.TheVariants.{Assign, GoTo, Computed, ArithIf, LogicalIf', Do, Continue, Call, Return, BlockIf, ElseIf, Else, EndIf}
use Rattle.fort_syntax.specs.declared.unit.Line.{Line}
use Rattle.fort_syntax.specs.declared.unit.Unit.{Unit as Routine}
use Rattle.fort_model.specs.declared.graph.Fork.{Fork}
use Rattle.fort_model.specs.declared.graph.Graph.{Graph}
use Rattle.fort_model.specs.declared.graph.Target.{Target}
use Rattle.fort_model.specs.declared.graph.Target.TheVariants.{Point, Fork as AtFork}
use Rattle.fort_model.specs.Flow.{target, Loop, loops_at, loops_around, next_point, next_branch, leads_at}
use Rattle.fort_model.specs.Lists.{IsAmong}
use Rattle.fort_model.specs.Paths.{NoCut, cut_at, Edge}
use Rattle.fort_notes.specs.Assertions.{Assertion, Notes}

-- ---- following choices through a graph

-- the target of a choice at a fork; choices count from 1
abbrev pub taken : Option Fork → ℕ → Option Target
taken None c = None
taken (Some f) zero = None
taken (Some f) (suc i) = slice_get f.targets i

abbrev pub goes_to : Option Target → (Target → Option ℕ) → Option ℕ
goes_to None on = None
goes_to (Some t) on = on t

-- the point that choices lead to from a target: one for each fork on the way, and none left
abbrev pub follow : List Fork → Target → List ℕ → Option ℕ
follow forks (Point q) [] = Some q
follow forks (Point q) (c ∷ cs) = None
follow forks (AtFork k) [] = None
follow forks (AtFork k) (c ∷ cs) = goes_to (taken (slice_get forks k) c) (λ t. follow forks t cs)

-- the point that the statement at a point leads to under choices, by a graph
abbrev pub graph_leads : Graph → ℕ → List ℕ → Option ℕ
graph_leads graph pc cs = goes_to (slice_get graph.starts pc) (λ t. follow graph.forks t cs)

-- ---- the target of a statement

-- a target is a fork with these targets
abbrev pub IsForkTo : List Fork → Target → Option ℕ → List Target → Type 0
IsForkTo forks (Point q) tested targets = ⊥
IsForkTo forks (AtFork k) tested targets = slice_get forks k ≡ Some (record { tested = tested; targets = targets })

-- a target stands for the tests of DOs in turn, the first of them first, and behind them for a point
abbrev pub AreTests : List Fork → ℕ → List Loop → Target → Type 0
AreTests forks q [] t = t ≡ Point q
AreTests forks q (d ∷ ds) t = (next : Target) × IsForkTo forks t (Some d.at) (Point (suc d.at) ∷ next ∷ [])
    × AreTests forks q ds next

-- behind a statement stand the tests of the DOs whose last statement it is
abbrev pub IsBehind : Routine → List Fork → ℕ → Target → Type 0
IsBehind u forks pc t = AreTests forks (next_point u pc) (loops_at u pc) t

abbrev pub points_of_labels : Routine → List ℕ → List Target
points_of_labels u labels = map (λ label. Point (target u.lines label)) labels

-- a DO is entered; under 77 the second choice passes it over
abbrev pub IsDoTarget : Dialect → Routine → List Fork → ℕ → ℕ → Target → Type 0
IsDoTarget Common u forks last pc t = t ≡ Point (suc pc)
IsDoTarget SeventySeven u forks last pc t =
    (over : Target) × IsForkTo forks t None (Point (suc pc) ∷ over ∷ []) × AreTests forks (next_point u last)
    (loops_around u last pc) over

-- a computed GO TO goes to its labels; under 77 the choice behind the last of them goes on behind the statement
abbrev pub IsComputedTarget : Dialect → Routine → List Fork → ℕ → List ℕ → Target → Type 0
IsComputedTarget Common u forks pc labels t = IsForkTo forks t None (points_of_labels u labels)
IsComputedTarget SeventySeven u forks pc labels t =
    (on : Target) × IsForkTo forks t None (points_of_labels u labels ++ on ∷ []) × IsBehind u forks pc on

-- a target is that of a statement at a point
abbrev pub IsTargetOf : Dialect → Routine → List Fork → ℕ → Stmt → Target → Type 0
IsTargetOf dialect u forks pc (Assign left right) t = IsBehind u forks pc t
IsTargetOf dialect u forks pc (GoTo label) t = t ≡ Point (target u.lines label)
IsTargetOf dialect u forks pc (Computed labels x) t = IsComputedTarget dialect u forks pc labels t
IsTargetOf dialect u forks pc (ArithIf e l m n) t = IsForkTo forks t None (points_of_labels u (l ∷ m ∷ n ∷ []))
IsTargetOf dialect u forks pc (LogicalIf' e _ (carried s)) t =
    (then : Target) × (on : Target) × IsForkTo forks t None (then ∷ on ∷ []) × IsTargetOf dialect u forks pc s then
    × IsBehind u forks pc on
IsTargetOf dialect u forks pc (Do label x first last step) t = IsDoTarget dialect u forks (target u.lines label) pc t
IsTargetOf dialect u forks pc Continue t = IsBehind u forks pc t
IsTargetOf dialect u forks pc (Call f args) t = IsBehind u forks pc t
IsTargetOf dialect u forks pc Return t = t ≡ Point (length u.lines)
IsTargetOf dialect u forks pc (BlockIf e) t = IsForkTo forks t None (Point (next_point u pc) ∷ Point (next_branch u pc) ∷ [])
IsTargetOf dialect u forks pc (ElseIf e) t = IsForkTo forks t None (Point (next_point u pc) ∷ Point (next_branch u pc) ∷ [])
IsTargetOf dialect u forks pc Else t = IsBehind u forks pc t
IsTargetOf dialect u forks pc EndIf t = IsBehind u forks pc t
IsTargetOf dialect u forks pc _ t = IsForkTo forks t None []

-- some targets are those of statements, the first of which stands at a point
abbrev pub AreTargetsOf : Dialect → Routine → List Fork → ℕ → List Line → List Target → Type 0
AreTargetsOf dialect u forks pc [] [] = Unit {0}
AreTargetsOf dialect u forks pc [] (t ∷ ts) = ⊥
AreTargetsOf dialect u forks pc (line ∷ lines) [] = ⊥
AreTargetsOf dialect u forks pc (line ∷ lines) (t ∷ ts) = IsTargetOf dialect u forks pc line.stmt t
    × AreTargetsOf dialect u forks (suc pc) lines ts

-- ---- the whole

-- a target is a point of a unit with so many statements, or its end, or one of so many forks
abbrev pub IsWithin : ℕ → ℕ → Target → Type 0
IsWithin size count (Point q) = q ≤ size
IsWithin size count (AtFork k) = k < count

-- The graph of a unit with its notes. Its starts are what the statements lead to; so it says for each point and
-- all choices what `leads` says. Forks lead to points and to lesser forks. Its cuts are the points of the
-- ASSERTs, in order, and its ranks grow along each edge to a statement without an ASSERT: on a path no
-- statement stands twice but the first.
pub record IsGraphOf (dialect : Dialect) (u : Routine) (notes : Notes) (graph : Graph) : Type 0 where
  pub size : graph.size ≡ length u.lines
  pub starts : AreTargetsOf dialect u graph.forks 0 u.lines graph.starts
  pub within : (pc : ℕ) (t : Target) → slice_get graph.starts pc ≡ Some t → IsWithin graph.size (length graph.forks) t
  pub falling : (k : ℕ) (f : Fork) (t : Target) → slice_get graph.forks k ≡ Some f → IsAmong t f.targets → IsWithin graph.size k t
  pub cuts : graph.cuts ≡ map (λ (a : Assertion). a.point) notes.asserts
  pub ranks : length graph.ranks ≡ graph.size
  pub growing : (p q : ℕ) (cs : List ℕ) → Edge dialect u p cs q → cut_at u notes q ≡ NoCut
      → get_or graph.ranks p 0 < get_or graph.ranks q 0

-- a graph of a unit says for each point and all choices where they lead
abbrev pub GraphsLead : Type 0
GraphsLead = (dialect : Dialect) (u : Routine) (notes : Notes) (graph : Graph) → IsGraphOf dialect u notes graph
    → (pc : ℕ) (cs : List ℕ) → graph_leads graph pc cs ≡ leads_at dialect u pc cs
