-- Expressions whose parts have the types that their places demand.
use Rattle.std.specs.Prelude.{ℕ, suc, ◌≤◌, ◌≡◌, ◌⊎◌, List, [], ◌∷◌, length, Some}
use Rattle.fort_syntax.specs.TreePatterns.{listed, only}
use Rattle.fort_syntax.specs.Names.{Applied, Element, BuiltIn, Reference, Intrinsic, Absolute, Modulo, Greatest, Least, applied, data_name}
use mathlib.Core.Former.{Count}
use Rattle.fort_syntax.specs.declared.name.Name.{Name}
use Rattle.fort_syntax.specs.declared.dialect.Sort.{Sort}
use Rattle.fort_syntax.specs.declared.dialect.Sort.TheVariants.{Integer, Logical}
use Rattle.fort_syntax.specs.declared.expr.Expr.{Expr, Row_of-Expr, end_of-Expr, more_of-Expr}
use Rattle.fort_syntax.specs.declared.expr.Expr.TheVariants.{Const, Truth as TruthConstant, Var, Apply', Paren', Pos', Neg', Power', Bin', Rel', Not', And', Or'}
use Rattle.fort_syntax.specs.declared.stmt.Dim.{Dim}
use Rattle.fort_syntax.specs.declared.stmt.Dim.TheVariants.{Fixed, Named as Adjustable}
use Rattle.fort_syntax.specs.declared.unit.DataName.{DataName}
use Rattle.fort_syntax.specs.declared.unit.Unit.{Unit as Routine}

-- how many arguments an intrinsic function has
abbrev pub IsCount : Intrinsic → ℕ → Type 0
IsCount Absolute n = n ≡ 1
IsCount Modulo n = n ≡ 2
IsCount Greatest n = 1 ≤ n
IsCount Least n = 1 ≤ n

-- how many arguments stand in a row
abbrev pub row_length : {m : Count} → Row_of-Expr m → ℕ
row_length end_of-Expr = 0
row_length (more_of-Expr e es) = suc (row_length es)

module _ (u : Routine) where
  -- a data name that is a scalar of a type
  pub record IsScalar (sort : Sort) (x : Name) : Type 0 where
    pub data_of : DataName
    pub is : data_name u x ≡ Some data_of
    pub scalar : data_of.dims ≡ []
    pub sort_is : data_of.sort ≡ sort

  -- adjustable dimensions are integer scalars
  abbrev pub AreDims : List Dim → Type 0
  AreDims [] = Unit {0}
  AreDims (Fixed n ∷ ds) = AreDims ds
  AreDims (Adjustable x ∷ ds) = IsScalar Integer x × AreDims ds

  -- an array of a type
  pub record IsArray (q : Sort) (a : Name) (ds : List Dim) : Type 0 where
    pub data_of : DataName
    pub is : data_name u a ≡ Some data_of
    pub dims_are : data_of.dims ≡ ds
    pub sort_is : data_of.sort ≡ q
    pub dims : AreDims ds

  -- an actual that is a name of the unit
  pub record HasData (x : Name) : Type 0 where
    pub data_of : DataName
    pub is : data_name u x ≡ Some data_of

  abbrev pub IsActual : Expr → Type 0 → Type 0
  IsActual (Var x) typed = HasData x
  IsActual e typed = typed

  -- references to functions of a type are told apart
  module _ (IsReference : Sort → Name → List Expr → Type 0) where
    -- an array has as many subscripts as dimensions; an intrinsic function its number of arguments
    abbrev pub IsApplied : Sort → Name → Applied → ℕ → List Expr → Type 0 → Type 0 → Type 0
    IsApplied q a (Element []) n es are_values are_actuals = ⊥
    IsApplied q a (Element (d ∷ ds)) n es are_values are_actuals = IsArray q a (d ∷ ds) × (n ≡ length (d ∷ ds)) × are_values
    IsApplied q a (BuiltIn g) n es are_values are_actuals = (q ≡ Integer) × IsCount g n × are_values
    IsApplied q a Reference n es are_values are_actuals = IsReference q a es × are_actuals

    -- an expression of a type, all of whose parts have the types that their places demand
    abbrev mutual
      pub IsTyped : Sort → Expr → Type 0
      IsTyped q (Const n) = q ≡ Integer
      IsTyped q (TruthConstant b) = q ≡ Logical
      IsTyped q (Var x) = IsScalar q x
      IsTyped q (Apply' a _ args) = IsApplied q a (applied u a) (row_length args) (listed args) (AreInteger args) (AreActual args)
      IsTyped q (Paren' _ (only a)) = IsTyped q a
      IsTyped q (Pos' _ (only a)) = (q ≡ Integer) × IsTyped Integer a
      IsTyped q (Neg' _ (only a)) = (q ≡ Integer) × IsTyped Integer a
      IsTyped q (Power' _ (only a) n) = (q ≡ Integer) × IsTyped Integer a
      IsTyped q (Bin' o _ (only a) _ (only b)) = (q ≡ Integer) × (IsTyped Integer a × IsTyped Integer b)
      IsTyped q (Rel' o _ (only a) _ (only b)) = (q ≡ Logical) × (IsTyped Integer a × IsTyped Integer b)
      IsTyped q (Not' _ (only a)) = (q ≡ Logical) × IsTyped Logical a
      IsTyped q (And' _ (only a) _ (only b)) = (q ≡ Logical) × (IsTyped Logical a × IsTyped Logical b)
      IsTyped q (Or' _ (only a) _ (only b)) = (q ≡ Logical) × (IsTyped Logical a × IsTyped Logical b)

      pub AreInteger : {m : Count} → Row_of-Expr m → Type 0
      AreInteger end_of-Expr = Unit {0}
      AreInteger (more_of-Expr e es) = IsTyped Integer e × AreInteger es

      pub AreActual : {m : Count} → Row_of-Expr m → Type 0
      AreActual end_of-Expr = Unit {0}
      AreActual (more_of-Expr e es) = IsActual e (IsTyped Integer e ⊎ IsTyped Logical e) × AreActual es
