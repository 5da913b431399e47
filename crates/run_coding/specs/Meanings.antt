-- What the pushed instructions of an expression stand for.
use Rattle.std.specs.Prelude.{◌≡◌, ℕ, suc, ◌+◌, Bool, true, ⊤, List, ◌++◌, map}
use mathlib.Core.Former.{Count}
use Rattle.formula.specs.Atoms.{is_among}
use Rattle.fort_syntax.specs.TreePatterns.{only}
use Rattle.fort_syntax.specs.Names.{Applied, Element, BuiltIn, Reference, applied, function}
use Rattle.fort_syntax.specs.declared.name.Name.{Name}
use Rattle.fort_syntax.specs.declared.expr.Expr.{Expr, Row_of-Expr, end_of-Expr, more_of-Expr}
use Rattle.fort_syntax.specs.declared.expr.Expr.TheVariants as expr
use Rattle.fort_syntax.specs.declared.unit.Unit.{Unit as Routine}
use Rattle.fort_model.specs.Sites.{own_call, calls_in}
use Rattle.run_code.specs.Code as code
use Rattle.run_shapes.specs.Seen.{call_at, seen}
use Rattle.run_shapes.specs.Coded.{AreSlotsOf}
use Rattle.run_shapes.specs.declared.slots.Slots.{Slots}
use Rattle.run_shapes.specs.declared.tests.Test.{Test}
use Rattle.run_shapes.specs.declared.unit_code.CallCode.{CallCode}
use Rattle.run_coding.specs.Pushed.{pushed}

-- a name before a bracket: an array has a slot, and a call stands at its place of the table
abbrev pub AppliedHere : List Routine → List Name → List CallCode → ℕ → Name → Applied → ℕ → Type 0
AppliedHere units names calls k f (Element dims) n = is_among f names ≡ true
AppliedHere units names calls k f (BuiltIn i) n = ⊤
AppliedHere units names calls k f Reference n = call_at calls k
    ≡ record { number = suc k; callee = function units f; actuals = n }

-- each name of an expression with k calls before it has a slot, and each call stands at its place
abbrev mutual
  pub IsHere : Routine → List Routine → List Name → List CallCode → ℕ → Expr → Type 0
  IsHere u units names calls k (expr.Const c) = ⊤
  IsHere u units names calls k (expr.Truth b) = ⊤
  IsHere u units names calls k (expr.Var x) = is_among x names ≡ true
  IsHere u units names calls k (expr.Apply' f _ args) =
      AppliedHere units names calls k f (applied u f) (code.count args) × AreHere u units names calls
      (k + own_call (applied u f)) args
  IsHere u units names calls k (expr.Paren' _ (only a)) = IsHere u units names calls k a
  IsHere u units names calls k (expr.Pos' _ (only a)) = IsHere u units names calls k a
  IsHere u units names calls k (expr.Neg' _ (only a)) = IsHere u units names calls k a
  IsHere u units names calls k (expr.Power' _ (only a) n) = IsHere u units names calls k a
  IsHere u units names calls k (expr.Bin' o _ (only a) _ (only b)) = IsHere u units names calls k a
      × IsHere u units names calls (k + calls_in u a) b
  IsHere u units names calls k (expr.Rel' o _ (only a) _ (only b)) = IsHere u units names calls k a
      × IsHere u units names calls (k + calls_in u a) b
  IsHere u units names calls k (expr.Not' _ (only a)) = IsHere u units names calls k a
  IsHere u units names calls k (expr.And' _ (only a) _ (only b)) = IsHere u units names calls k a
      × IsHere u units names calls (k + calls_in u a) b
  IsHere u units names calls k (expr.Or' _ (only a) _ (only b)) = IsHere u units names calls k a
      × IsHere u units names calls (k + calls_in u a) b

  pub AreHere : Routine → List Routine → List Name → List CallCode → ℕ → {m : Count} → Row_of-Expr m → Type 0
  AreHere u units names calls k end_of-Expr = ⊤
  AreHere u units names calls k (more_of-Expr e es) = IsHere u units names calls k e × AreHere u units names calls
      (k + calls_in u e) es

-- the pushed instructions of an expression stand for its code, before any other code
abbrev pub PushedIsCode : Type 0
PushedIsCode =
    (u : Routine) (units : List Routine) (slots : Slots) (tests : List Test) (calls : List CallCode)
    (targets : List ℕ) (reads : Bool) (k : ℕ) (e : Expr)
    (is : List code.Instr)
    → AreSlotsOf u slots → IsHere u units slots.names calls k e
    → map (seen slots tests calls targets) (pushed u slots.names reads k e) ++ is ≡ code.code u units reads k e is
