-- Units, statements and notes whose walks meet readable terms.
use Rattle.std.proofs.Common.{◌≡◌, ℕ, ◌<◌, ◌≤◌, ◌^◌, true, List, length, Option, Some, None, slice_get}
use Rattle.std.specs.List.{AllByRecursion}
use mathlib.Core.Former.{Count}
use Rattle.fort_syntax.specs.TreePatterns.{only, carried, row_of}
use Rattle.fort_syntax.specs.Names.{Applied, Element, BuiltIn, Reference, applied, data_name, dims_of, is_own}
use Rattle.formula.specs.declared.definition.Heading.{Heading}
use Rattle.formula.specs.Atoms.{is_name}
use Rattle.fort_syntax.specs.declared.name.Name.{Name}
use Rattle.fort_syntax.specs.declared.expr.Expr.{Expr, Row_of-Expr, end_of-Expr, more_of-Expr}
use Rattle.fort_syntax.specs.declared.expr.Expr.TheVariants.{Const, Truth, Var, Apply', Paren', Pos', Neg', Power', Bin', Rel', Not', And', Or'}
use Rattle.fort_syntax.specs.declared.stmt.Dim.{Dim}
use Rattle.fort_syntax.specs.declared.stmt.Dim.TheVariants.{Fixed, Named as Adjustable}
use Rattle.fort_syntax.specs.declared.stmt.Param.{Param}
use Rattle.fort_syntax.specs.declared.stmt.Param.TheVariants as param
use Rattle.fort_syntax.specs.declared.stmt.Stmt.{Stmt}
use Rattle.fort_syntax.specs.declared.stmt.Stmt.TheVariants.{Assign, Computed, ArithIf, LogicalIf', Do, Continue, Call, BlockIf, ElseIf, Else, EndIf}
use Rattle.fort_syntax.specs.declared.unit.DataName.{DataName}
use Rattle.fort_syntax.specs.declared.unit.Line.{Line}
use Rattle.fort_syntax.specs.declared.unit.Unit.{Unit as Routine}
use Rattle.fort_notes.specs.Assertions.{Assertion, Notes}
use Rattle.fort_model.specs.Flow.{target, Loop, loops_at, loops_around}
use Rattle.fort_model.specs.Lists.{IsAmong}
use Rattle.fort_model.specs.Program.{Program, notes_of}
use Rattle.fort_model.specs.WalkPlaces.{size_if_fixed}
use Rattle.readable_laws.proofs.Made.{IsNoted}

-- ---- units

abbrev pub IsDimRight : Dim → Type 0
IsDimRight (Fixed n) = n ≤ 1000000
IsDimRight (Adjustable x) = is_name x ≡ true

-- dimensions are small, or names; and so is their product, where all are constants
pub record AreDimsRight (ds : List Dim) : Type 0 where
  pub each : AllByRecursion IsDimRight ds
  pub product : (n : ℕ) → size_if_fixed ds ≡ Some n → n ≤ 1000000

pub record IsUnitRight (u : Routine) : Type 0 where
  pub name : is_name u.name ≡ true
  pub dummies : (x : Name) → IsAmong x u.dummies → is_name x ≡ true
  pub names : (x : Name) (d : DataName) → data_name u x ≡ Some d → is_name x ≡ true
  pub dims : (x : Name) (d : DataName) → data_name u x ≡ Some d → AreDimsRight d.dims
  pub owns : (x : Name) (d : DataName) → data_name u x ≡ Some d → is_own d.role ≡ true → (n : ℕ) × (size_if_fixed d.dims ≡ Some n)

-- ---- expressions

module _ (u : Routine) where
  abbrev pub IsAppliedRight : Name → Applied → Type 0 → Type 0
  IsAppliedRight a (Element ds) rights = (is_name a ≡ true) × AreDimsRight ds × rights
  IsAppliedRight a (BuiltIn i) rights = rights
  IsAppliedRight a Reference rights = rights

  -- constants are small, and names are names
  abbrev mutual
    pub IsRight : Expr → Type 0
    IsRight (Const n) = n < 10 ^ 18
    IsRight (Truth b) = Unit {0}
    IsRight (Var x) = is_name x ≡ true
    IsRight (Apply' a _ args) = IsAppliedRight a (applied u a) (AreRight args)
    IsRight (Paren' _ (only a)) = IsRight a
    IsRight (Pos' _ (only a)) = IsRight a
    IsRight (Neg' _ (only a)) = IsRight a
    IsRight (Power' _ (only a) n) = IsRight a
    IsRight (Bin' o _ (only a) _ (only b)) = IsRight a × IsRight b
    IsRight (Rel' o _ (only a) _ (only b)) = IsRight a × IsRight b
    IsRight (Not' _ (only a)) = IsRight a
    IsRight (And' _ (only a) _ (only b)) = IsRight a × IsRight b
    IsRight (Or' _ (only a) _ (only b)) = IsRight a × IsRight b

    pub AreRight : {m : Count} → Row_of-Expr m → Type 0
    AreRight end_of-Expr = Unit {0}
    AreRight (more_of-Expr e es) = IsRight e × AreRight es

  -- ---- statements

  abbrev pub IsParamRight : Param → Type 0
  IsParamRight (param.Fixed n) = n < 10 ^ 18
  IsParamRight (param.Named x) = is_name x ≡ true

  abbrev pub IsStepRight : Option Param → Type 0
  IsStepRight None = Unit {0}
  IsStepRight (Some m) = IsParamRight m

  pub record IsLoopRight (d : Loop) : Type 0 where
    pub variable : is_name d.variable ≡ true
    pub last : IsParamRight d.last
    pub step : IsStepRight d.step

  abbrev pub AreLoopsRight : List Loop → Type 0
  AreLoopsRight ds = AllByRecursion IsLoopRight ds

  abbrev pub IsLeftRight : Expr → Type 0
  IsLeftRight (Var x) = is_name x ≡ true
  IsLeftRight (Apply' a _ args) = (is_name a ≡ true) × AreDimsRight (dims_of u a) × AreRight args
  IsLeftRight _ = Unit {0}

  -- a statement at a point
  abbrev pub IsStmtRight : ℕ → Stmt → Type 0
  IsStmtRight pc (Assign left right) = IsLeftRight left × IsRight right × AreLoopsRight (loops_at u pc)
  IsStmtRight pc (Computed labels x) = (is_name x ≡ true) × (length labels < 2 ^ 32) × AreLoopsRight (loops_at u pc)
  IsStmtRight pc (ArithIf e l m n) = IsRight e
  IsStmtRight pc (LogicalIf' e _ (carried s)) = IsRight e × AreLoopsRight (loops_at u pc) × IsStmtRight pc s
  IsStmtRight pc (Do label x first last by) =
      (is_name x ≡ true) × IsParamRight first × IsParamRight last × IsStepRight by × AreLoopsRight (loops_around u (target u.lines label) pc)
  IsStmtRight pc Continue = AreLoopsRight (loops_at u pc)
  IsStmtRight pc (Call f args) = AreRight (row_of args) × AreLoopsRight (loops_at u pc)
  IsStmtRight pc (BlockIf e) = IsRight e
  IsStmtRight pc (ElseIf e) = IsRight e
  IsStmtRight pc Else = AreLoopsRight (loops_at u pc)
  IsStmtRight pc EndIf = AreLoopsRight (loops_at u pc)
  IsStmtRight pc _ = Unit {0}

-- ---- notes

pub record IsAssertRight (hs : List Heading) (a : Assertion) : Type 0 where
  pub card : a.card < 2 ^ 32
  pub terms : AllByRecursion (IsNoted hs) a.terms
  pub clock : AllByRecursion (IsNoted hs) a.clock

pub record AreNotesRight (hs : List Heading) (notes : Notes) : Type 0 where
  pub some : 0 < length notes.input
  pub input : AllByRecursion (IsNoted hs) notes.input
  pub output : AllByRecursion (IsNoted hs) notes.output
  pub asserts : (k : ℕ) (a : Assertion) → slice_get notes.asserts k ≡ Some a → IsAssertRight hs a

-- ---- programs

pub record IsLineRight (u : Routine) (pc : ℕ) (line : Line) : Type 0 where
  pub card : line.card < 2 ^ 32
  pub stmt : IsStmtRight u pc line.stmt

pub record IsProgramRight (hs : List Heading) (p : Program) : Type 0 where
  pub bound : p.bound < 10 ^ 18
  pub units : (i : ℕ) (u : Routine) → slice_get p.units i ≡ Some u → IsUnitRight u
  pub notes : (i : ℕ) (u : Routine) → slice_get p.units i ≡ Some u → AreNotesRight hs (notes_of p i)
  pub lines : (i : ℕ) (u : Routine) → slice_get p.units i ≡ Some u → (pc : ℕ) (line : Line) → slice_get u.lines pc ≡ Some line → IsLineRight u pc line
