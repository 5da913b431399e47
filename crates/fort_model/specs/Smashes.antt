-- Which names a unit smashes.
use Rattle.std.specs.Prelude.{◌≡◌, ◌↔◌, ℕ, true, List, [], ◌∷◌, Some, slice_get}
use Rattle.fort_syntax.specs.TreePatterns.{carried}
use Rattle.fort_syntax.specs.Names.{has_common}
use Rattle.fort_syntax.specs.declared.name.Name.{Name}
use Rattle.fort_syntax.specs.declared.expr.Expr.{Expr}
use Rattle.fort_syntax.specs.declared.expr.Expr.TheVariants.{Var, Apply'}
use Rattle.fort_syntax.specs.declared.stmt.Stmt.{Stmt}
use Rattle.fort_syntax.specs.declared.stmt.Stmt.TheVariants.{Assign, LogicalIf', Do}
use Rattle.fort_syntax.specs.declared.unit.Line.{Line}
use Rattle.fort_syntax.specs.declared.unit.Unit.{Unit as Routine}
use Rattle.fort_model.specs.Lists.{IsAmong}
use Rattle.fort_model.specs.Calls.{Calls}
use Rattle.fort_model.specs.Program.{Program, is_smashed}

-- the name that the left side of an assignment sets: a scalar, or an array of which it sets an element
abbrev pub set_name : Expr → List Name
set_name (Var x) = x ∷ []
set_name (Apply' a _ args) = a ∷ []
set_name _ = []

-- what a statement itself sets: the left side of an assignment, or the variable of a DO
abbrev pub set_by : Stmt → List Name
set_by (Assign left right) = set_name left
set_by (Do label x first last step) = x ∷ []
set_by (LogicalIf' e _ (carried s)) = set_by s
set_by _ = []

-- The unit of number i smashes a name where a statement of it sets the name; where it passes the name, bare, to a dummy
-- that the called unit smashes; and where the name is a COMMON entity of both units, and the called unit smashes it.
pub data Smashes (units : List Routine) : ℕ → Name → Type 0 where
  sets : {i : ℕ} {x : Name} (u : Routine) (line : Line) → slice_get units i ≡ Some u → IsAmong line u.lines
      → IsAmong x (set_by line.stmt) → Smashes units i x
  passes : {i j : ℕ} {d x : Name} (c : Calls units i j) (n : ℕ) → slice_get c.callee.dummies n ≡ Some d
      → slice_get c.site.actuals n ≡ Some (Var x)
      → Smashes units j d → Smashes units i x
  shares : {i j : ℕ} {x : Name} (c : Calls units i j) → has_common c.caller x ≡ true → has_common c.callee x ≡ true
      → Smashes units j x → Smashes units i x

-- the table of smashed names holds just these
abbrev pub HoldsSmashed : Program → Type 0
HoldsSmashed p = (i : ℕ) (x : Name) → (is_smashed p i x ≡ true) ↔ Smashes p.units i x
