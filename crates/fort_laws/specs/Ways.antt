-- How the flow of a unit without uncut cycles goes on.
use Rattle.std.specs.Prelude.{ℕ, zero, suc, ◌≡◌, List, [], ◌∷◌, Some, None, slice_get}
use Rattle.fort_syntax.specs.TreePatterns.{carried}
use Rattle.fort_syntax.specs.declared.dialect.Dialect.{Dialect}
use Rattle.fort_syntax.specs.declared.stmt.Stmt.{Stmt}
use Rattle.fort_syntax.specs.declared.stmt.Stmt.TheVariants.{Assign, GoTo, Computed, ArithIf, LogicalIf', Do, Continue, Call, Return, BlockIf, ElseIf, Else, EndIf}
use Rattle.fort_syntax.specs.declared.unit.Line.{Line}
use Rattle.fort_syntax.specs.declared.unit.Unit.{Unit as Routine}
use Rattle.fort_model.specs.Flow.{leads}
use Rattle.fort_model.specs.Paths.{IsWay, Uncut}
use Rattle.fort_notes.specs.Assertions.{Notes}

-- an executable statement; a computed GO TO has a label at least
abbrev pub IsExecutable : Stmt → Type 0
IsExecutable (Assign left right) = Unit {0}
IsExecutable (GoTo label) = Unit {0}
IsExecutable (Computed [] x) = ⊥
IsExecutable (Computed (label ∷ labels) x) = Unit {0}
IsExecutable (ArithIf e l m n) = Unit {0}
IsExecutable (LogicalIf' e q s) = Unit {0}
IsExecutable (Do label x first last step) = Unit {0}
IsExecutable Continue = Unit {0}
IsExecutable (Call f args) = Unit {0}
IsExecutable Return = Unit {0}
IsExecutable (BlockIf e) = Unit {0}
IsExecutable (ElseIf e) = Unit {0}
IsExecutable Else = Unit {0}
IsExecutable EndIf = Unit {0}
IsExecutable _ = ⊥

-- all statements of a unit are executable
abbrev pub AreExecutable : Routine → Type 0
AreExecutable u = (pc : ℕ) (line : Line) → slice_get u.lines pc ≡ Some line → IsExecutable line.stmt

-- a RETURN, alone or behind a condition that is true
abbrev pub IsReturn : Stmt → List ℕ → Type 0
IsReturn Return cs = Unit {0}
IsReturn (LogicalIf' e _ (carried s)) (suc zero ∷ cs) = IsReturn s cs
IsReturn _ _ = ⊥

-- the end of a unit is led to by RETURNs alone
abbrev pub EndsByReturn : Dialect → Routine → Type 0
EndsByReturn dialect u =
    (pc : ℕ) (line : Line) (cs : List ℕ) (q : ℕ) → slice_get u.lines pc ≡ Some line
    → leads dialect u pc line.stmt cs ≡ Some q → slice_get u.lines q ≡ None → IsReturn line.stmt cs

-- no statement lies on an uncut cycle
abbrev pub IsCutUp : Dialect → Routine → Notes → Type 0
IsCutUp dialect u notes = (pc : ℕ) → Uncut dialect u notes pc pc → ⊥

-- under some choices a statement leads on
pub record LeadsOn (dialect : Dialect) (u : Routine) (pc : ℕ) (s : Stmt) : Type 0 where
  pub choices : List ℕ
  pub point : ℕ
  pub to : leads dialect u pc s choices ≡ Some point

abbrev pub StatementsLeadOn : Type 0
StatementsLeadOn = (dialect : Dialect) (u : Routine) (pc : ℕ) (s : Stmt) → IsExecutable s → LeadsOn dialect u pc s

-- choices that lead on from a statement can be completed to choices that lead to a cut point
pub record Completed (dialect : Dialect) (u : Routine) (notes : Notes) (pc : ℕ) (choices : List ℕ) : Type 0 where
  pub way : List (List ℕ)
  pub is : IsWay dialect u notes pc (choices ∷ way)

abbrev pub WaysCanBeCompleted : Type 0
WaysCanBeCompleted =
    (dialect : Dialect) (u : Routine) (notes : Notes) → IsCutUp dialect u notes → AreExecutable u
    → (pc : ℕ) (line : Line) (choices : List ℕ) (q : ℕ) → slice_get u.lines pc ≡ Some line
    → leads dialect u pc line.stmt choices ≡ Some q
    → Completed dialect u notes pc choices
