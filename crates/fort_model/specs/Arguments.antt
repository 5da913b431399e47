-- Whether actuals match dummies, and what names stand in an expression.
use Rattle.std.specs.Prelude.{ℕ, ◌==◌, Bool, true, false, not, ◌&&◌, ◌||◌, cond, List, [], ◌∷◌, Option, Some, None}
use Rattle.fort_syntax.specs.TreePatterns.{only}
use Rattle.fort_syntax.specs.Names.{Applied, Element, BuiltIn, Reference, applied, data_name, dims_of}
use Rattle.formula.specs.Atoms.{same_bytes}
use mathlib.Core.Former.{Count}
use Rattle.fort_syntax.specs.Scopes.{same_sort}
use Rattle.fort_syntax.specs.declared.name.Name.{Name}
use Rattle.fort_syntax.specs.declared.dialect.Sort.{Sort}
use Rattle.fort_syntax.specs.declared.dialect.Sort.TheVariants.{Integer, Logical}
use Rattle.fort_syntax.specs.declared.expr.Expr.{Expr, Row_of-Expr, end_of-Expr, more_of-Expr}
use Rattle.fort_syntax.specs.declared.expr.Expr.TheVariants.{Const, Truth, Var, Apply', Paren', Pos', Neg', Power', Bin', Rel', Not', And', Or'}
use Rattle.fort_syntax.specs.declared.stmt.Dim.{Dim}
use Rattle.fort_syntax.specs.declared.stmt.Dim.TheVariants.{Fixed, Named}
use Rattle.fort_syntax.specs.declared.unit.DataName.{DataName}
use Rattle.fort_syntax.specs.declared.unit.FunctionName.{FunctionName}
use Rattle.fort_syntax.specs.declared.unit.Unit.{Unit as Routine}

-- ---- the names in an expression

-- a name stands in an expression, in a subscript or an argument too, and as the name of an array of which an element is
abbrev mutual
  pub mentions : Expr → Name → Bool
  mentions (Const c) x = false
  mentions (Truth b) x = false
  mentions (Var y) x = same_bytes y x
  mentions (Apply' f _ args) x = same_bytes f x || row_mentions args x
  mentions (Paren' _ (only a)) x = mentions a x
  mentions (Pos' _ (only a)) x = mentions a x
  mentions (Neg' _ (only a)) x = mentions a x
  mentions (Power' _ (only a) n) x = mentions a x
  mentions (Bin' o _ (only a) _ (only b)) x = mentions a x || mentions b x
  mentions (Rel' o _ (only a) _ (only b)) x = mentions a x || mentions b x
  mentions (Not' _ (only a)) x = mentions a x
  mentions (And' _ (only a) _ (only b)) x = mentions a x || mentions b x
  mentions (Or' _ (only a) _ (only b)) x = mentions a x || mentions b x

  pub row_mentions : {m : Count} → Row_of-Expr m → Name → Bool
  row_mentions end_of-Expr x = false
  row_mentions (more_of-Expr e es) x = mentions e x || row_mentions es x

-- ---- types

abbrev pub same_sort_as : Sort → Option Sort → Bool
same_sort_as sort None = false
same_sort_as sort (Some other) = same_sort sort other

abbrev pub data_sort : Option DataName → Option Sort
data_sort None = None
data_sort (Some d) = Some d.sort

-- the type that a unit gives a function which it references
abbrev pub reference_sort : List FunctionName → Name → Option Sort
reference_sort [] f = None
reference_sort (g ∷ gs) f = cond (same_bytes g.name f) (Some g.sort) (reference_sort gs f)

abbrev pub applied_sort : Routine → Name → Applied → Option Sort
applied_sort u f (Element dims) = data_sort (data_name u f)
applied_sort u f (BuiltIn i) = Some Integer
applied_sort u f Reference = reference_sort u.functions f

-- the type of an expression; none where a name in it has none
abbrev pub sort_of_expr : Routine → Expr → Option Sort
sort_of_expr u (Const c) = Some Integer
sort_of_expr u (Truth b) = Some Logical
sort_of_expr u (Var x) = data_sort (data_name u x)
sort_of_expr u (Apply' f _ args) = applied_sort u f (applied u f)
sort_of_expr u (Paren' _ (only a)) = sort_of_expr u a
sort_of_expr u (Pos' _ (only a)) = Some Integer
sort_of_expr u (Neg' _ (only a)) = Some Integer
sort_of_expr u (Power' _ (only a) n) = Some Integer
sort_of_expr u (Bin' o _ (only a) _ (only b)) = Some Integer
sort_of_expr u (Rel' o _ (only a) _ (only b)) = Some Logical
sort_of_expr u (Not' _ (only a)) = Some Logical
sort_of_expr u (And' _ (only a) _ (only b)) = Some Logical
sort_of_expr u (Or' _ (only a) _ (only b)) = Some Logical

-- ---- dimensions

-- the dimensions of an actual: a whole array has some
abbrev pub dims_of_actual : Routine → Expr → List Dim
dims_of_actual u (Var x) = dims_of u x
dims_of_actual u _ = []

-- an actual gives a dimension: the same constant, written bare, or the same name
abbrev pub gives_dim : Option Expr → Dim → Bool
gives_dim (Some (Const c)) (Fixed n) = c == n
gives_dim (Some (Var y)) (Named x) = same_bytes y x
gives_dim _ d = false

-- the actual for a dummy
abbrev pub actual_for : List Name → List Expr → Name → Option Expr
actual_for [] es d = None
actual_for (y ∷ ys) [] d = None
actual_for (y ∷ ys) (e ∷ es) d = cond (same_bytes y d) (Some e) (actual_for ys es d)

abbrev pub same_constant : ℕ → Dim → Bool
same_constant n (Fixed m) = n == m
same_constant n (Named x) = false

-- a dimension of a dummy agrees with one of the actual: both are one constant, or the dummy's is a dummy whose actual is
-- the actual's dimension
abbrev pub dim_agrees : Routine → List Expr → Dim → Dim → Bool
dim_agrees g es (Fixed n) d = same_constant n d
dim_agrees g es (Named x) d = gives_dim (actual_for g.dummies es x) d

abbrev pub dims_agree : Routine → List Expr → List Dim → List Dim → Bool
dims_agree g es [] [] = true
dims_agree g es (a ∷ ds) (b ∷ bs) = dim_agrees g es a b && dims_agree g es ds bs
dims_agree g es _ _ = false

-- ---- actuals

abbrev pub fits_dummy : Routine → List Expr → Routine → Option DataName → Expr → Bool
fits_dummy g es u None e = false
fits_dummy g es u (Some d) e = same_sort_as d.sort (sort_of_expr u e) && dims_agree g es d.dims (dims_of_actual u e)

-- each actual of a call of g in u matches its dummy
abbrev pub all_fit : Routine → List Expr → Routine → List Name → List Expr → Bool
all_fit g all u [] [] = true
all_fit g all u (d ∷ ds) (e ∷ es) = fits_dummy g all u (data_name g d) e && all_fit g all u ds es
all_fit g all u _ _ = false

abbrev pub actuals_fit : Routine → Routine → List Expr → Bool
actuals_fit u g es = all_fit g es u g.dummies es

abbrev pub is_own_sort : Option Sort → Option Sort → Bool
is_own_sort None told = false
is_own_sort (Some sort) told = same_sort_as sort told

-- a reference takes a FUNCTION to be of its own type
abbrev pub reference_fits : Routine → Routine → Bool → Bool
reference_fits u g reference = not reference || is_own_sort g.sort (reference_sort u.functions g.name)
