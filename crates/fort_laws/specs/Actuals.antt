-- What the actuals of a call are on a walk, and what a run takes for them.
use Rattle.std.specs.Prelude.{ℕ, ◌+◌, ◌<◌, ◌≤◌, ◌≡◌, true, pos, List, [], ◌∷◌, Some}
use Rattle.formula.specs.declared.value.Cell.TheVariants.{Int}
use Rattle.formula.specs.declared.value.Value.{Value}
use Rattle.formula.specs.Values.{of_cell}
use Rattle.fort_syntax.specs.declared.name.Name.{Name}
use Rattle.fort_syntax.specs.declared.dialect.Sort.{Sort}
use Rattle.fort_syntax.specs.declared.expr.Expr.{Expr}
use Rattle.fort_syntax.specs.declared.expr.Expr.TheVariants.{Const, Truth, Var, Apply', Paren', Pos', Neg', Power', Bin', Rel', Not', And', Or'}
use Rattle.fort_syntax.specs.declared.unit.DataName.{DataName}
use Rattle.fort_syntax.specs.declared.unit.Unit.{Unit as Routine}
use Rattle.fort_model.specs.Arguments.{sort_of_expr}
use Rattle.fort_model.specs.Evaluate.{Scene}
use Rattle.fort_model.specs.Fits.{has_sort}
use Rattle.fort_model.specs.Lists.{IsAmong}
use Rattle.fort_model.specs.Passing.{Taken, Cells, Fresh}
use Rattle.fort_model.specs.Processor.{Processor}
use Rattle.fort_model.specs.Seen.{Named}
use Rattle.fort_model.specs.Storage.{Storage, Extent, Environment, load}
use Rattle.fort_model.specs.WalkCalls.{Operand, Bare, Part, Computed}

-- one cell of a data name
pub record IsPart (u : Routine) (env : Environment) (x : Name) (e : Extent) : Type 0 where
  pub its : DataName
  pub among : IsAmong its u.names
  pub name : its.name ≡ x
  pub low : (env x).first ≤ e.first
  pub high : e.first + e.size ≤ (env x).first + (env x).size
  pub one : e.size ≡ 1

-- What an expression is taken as: a bare name as its cells; a constant as a fresh number; an element as a part of
-- its array; every other expression as a fresh value.
abbrev pub IsTakenAs : Environment → (Name → Extent → Type 0) → Expr → Taken → Type 0
IsTakenAs env Has (Const c) x = x ≡ Fresh (Int (pos c))
IsTakenAs env Has (Truth b) (Cells e) = ⊥
IsTakenAs env Has (Truth b) (Fresh v) = Unit {0}
IsTakenAs env Has (Var y) x = x ≡ Cells (env y)
IsTakenAs env Has (Apply' f shape args) (Cells e) = Has f e
IsTakenAs env Has (Apply' f shape args) (Fresh v) = Unit {0}
IsTakenAs env Has (Paren' shape a) (Cells e) = ⊥
IsTakenAs env Has (Paren' shape a) (Fresh v) = Unit {0}
IsTakenAs env Has (Pos' shape a) (Cells e) = ⊥
IsTakenAs env Has (Pos' shape a) (Fresh v) = Unit {0}
IsTakenAs env Has (Neg' shape a) (Cells e) = ⊥
IsTakenAs env Has (Neg' shape a) (Fresh v) = Unit {0}
IsTakenAs env Has (Power' shape a n) (Cells e) = ⊥
IsTakenAs env Has (Power' shape a n) (Fresh v) = Unit {0}
IsTakenAs env Has (Bin' o q a r b) (Cells e) = ⊥
IsTakenAs env Has (Bin' o q a r b) (Fresh v) = Unit {0}
IsTakenAs env Has (Rel' o q a r b) (Cells e) = ⊥
IsTakenAs env Has (Rel' o q a r b) (Fresh v) = Unit {0}
IsTakenAs env Has (Not' shape a) (Cells e) = ⊥
IsTakenAs env Has (Not' shape a) (Fresh v) = Unit {0}
IsTakenAs env Has (And' q a r b) (Cells e) = ⊥
IsTakenAs env Has (And' q a r b) (Fresh v) = Unit {0}
IsTakenAs env Has (Or' q a r b) (Cells e) = ⊥
IsTakenAs env Has (Or' q a r b) (Fresh v) = Unit {0}

abbrev pub AreTakenAs : Environment → (Name → Extent → Type 0) → List Expr → List Taken → Type 0
AreTakenAs env Has [] [] = Unit {0}
AreTakenAs env Has [] (x ∷ xs) = ⊥
AreTakenAs env Has (e ∷ es) [] = ⊥
AreTakenAs env Has (e ∷ es) (x ∷ xs) = IsTakenAs env Has e x × AreTakenAs env Has es xs

-- what is taken holds things of a type, in the processor's range
abbrev pub HoldsSort : Processor → Storage → Sort → Taken → Type 0
HoldsSort p st q (Cells e) = (k : ℕ) → k < e.size → has_sort p q (load st (e.first + k)) ≡ true
HoldsSort p st q (Fresh c) = has_sort p q c ≡ true

-- on a walk a bare name is an operand that is one, and no other expression is
abbrev pub IsOperandOf : Named Value → Expr → Operand Value → Type 0
IsOperandOf now e (Bare x v) = (e ≡ Var x) × (v ≡ now x)
IsOperandOf now e (Part v) = (x : Name) → e ≡ Var x → ⊥
IsOperandOf now e (Computed v) = (x : Name) → e ≡ Var x → ⊥

module _ (s : Scene) (st : Storage) (now : Named Value) where
  -- an actual is taken unread
  abbrev pub ActualOf : Operand Value → Taken → Type 0
  ActualOf (Bare x v) (Cells e) = (e ≡ s.environment x) × (v ≡ now x)
  ActualOf (Bare x v) (Fresh c) = ⊥
  ActualOf (Part v) (Cells e) = v ≡ of_cell (load st e.first)
  ActualOf (Part v) (Fresh c) = ⊥
  ActualOf (Computed v) (Cells e) = ⊥
  ActualOf (Computed v) (Fresh c) = v ≡ of_cell c

  -- an actual, its operand on a walk, and what a run takes for it
  pub record IsPassed (e : Expr) (o : Operand Value) (t : Taken) : Type 0 where
    pub taken : IsTakenAs s.environment (IsPart s.unit s.environment) e t
    pub operand : IsOperandOf now e o
    pub value : ActualOf o t
    pub sort : Sort
    pub sort_is : sort_of_expr s.unit e ≡ Some sort
    pub holds : HoldsSort s.processor st sort t

  -- the actuals of a call, in order
  abbrev pub ArePassed : List Expr → List (Operand Value) → List Taken → Type 0
  ArePassed [] [] [] = Unit {0}
  ArePassed (e ∷ es) (o ∷ os) (t ∷ ts) = IsPassed e o t × ArePassed es os ts
  ArePassed _ _ _ = ⊥
