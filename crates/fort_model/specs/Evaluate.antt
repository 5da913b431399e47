-- How expressions are evaluated: operands from the left, and before their operators.
use Rattle.std.specs.Prelude.{ℕ, zero, suc, pred, ◌+◌, true, false, cond, not, ◌&&◌, ◌||◌, ℤ, pos, ◌-ℤ◌, ◌*ℤ◌, neg_ℤ, int_le, List, [], ◌∷◌, Option}
use Rattle.fort_syntax.specs.TreePatterns.{only}
use Rattle.fort_syntax.specs.Names.{Intrinsic, Absolute, Modulo, Greatest, Least, Applied, Element, BuiltIn, Reference, applied, function, unit_at}
use mathlib.Core.Former.{Count}
use Rattle.formula.specs.Values.{count, is_between, quotient, remainder, absolute, greater, smaller}
use Rattle.formula.specs.declared.value.Cell.{Cell}
use Rattle.formula.specs.declared.value.Cell.TheVariants.{Int, Logical, Undefined}
use Rattle.fort_syntax.specs.declared.name.Name.{Name}
use Rattle.fort_syntax.specs.declared.condition.Kind.TheVariants.{DefinedCheck, RangeCheck, DivisorCheck, SubscriptCheck}
use Rattle.fort_syntax.specs.declared.dialect.BinOp.{BinOp}
use Rattle.fort_syntax.specs.declared.dialect.BinOp.TheVariants.{Div}
use Rattle.fort_syntax.specs.declared.expr.Expr.{Expr, Row_of-Expr, end_of-Expr, more_of-Expr}
use Rattle.fort_syntax.specs.declared.expr.Expr.TheVariants.{Const, Truth, Var, Apply', Paren', Pos', Neg', Power', Bin', Rel', Not', And', Or'}
use Rattle.fort_syntax.specs.declared.stmt.Dim.{Dim}
use Rattle.fort_syntax.specs.declared.unit.Unit.{Unit as Routine}
use Rattle.fort_model.specs.Sites.{calls_in}
use Rattle.fort_model.specs.Cells.{num, holds, is_defined, same, arithmetic, compares}
use Rattle.fort_model.specs.Storage.{Extent, Environment, load}
use Rattle.fort_model.specs.Places.{dim_values, place}
use Rattle.fort_model.specs.Processor.{Processor}
use Rattle.fort_model.specs.Outcome.{Act, ◌>>◌, ◌>>=◌, give, check, held}
use Rattle.fort_model.specs.Passing.{Taken, Cells, Fresh, passed, Caller, call}

-- where evaluation goes on: the processor, the units of the deck, the unit, and the cells of its names
pub record Scene : Type 0 where
  pub processor : Processor
  pub units : List Routine
  pub unit : Routine
  pub environment : Environment

-- a cell that is read must be defined
abbrev pub read : ℕ → ℕ → Act Cell
read card i = do
  st ← held
  check DefinedCheck card (is_defined (load st i))
  give (load st i)

-- what is taken is read for its value
abbrev pub value_of : ℕ → Taken → Act Cell
value_of card (Cells e) = read card e.first
value_of card (Fresh c) = give c

abbrev pub valued : ℕ → Act Taken → Act Cell
valued card take = do
  x ← take
  value_of card x

-- a number must be one of the processor's integers
abbrev pub ranged : Processor → ℕ → ℤ → Act Cell
ranged p card z = do
  check RangeCheck card (is_between p.least p.greatest z)
  give (Int z)

abbrev pub constant : Processor → ℕ → ℕ → Act Cell
constant p card c = do
  check RangeCheck card (int_le (pos c) p.greatest)
  give (Int (pos c))

abbrev pub divisor : ℕ → Cell → Act (Unit {0})
divisor card c = check DivisorCheck card (not (same c (Int (pos 0))))

-- + - * and /
abbrev pub operate : Processor → ℕ → BinOp → Cell → Cell → Act Cell
operate p card Div a b = do
  divisor card b
  ranged p card (arithmetic Div (num a) (num b))
operate p card o a b = ranged p card (arithmetic o (num a) (num b))

-- a power is a product of the base with itself, from the left; each product must be in range
abbrev pub power_on : Processor → ℕ → ℤ → ℕ → ℤ → Act Cell
power_on p card base zero product = give (Int product)
power_on p card base (suc more) product = do
  c ← ranged p card (product *ℤ base)
  power_on p card base more (num c)

abbrev pub power : Processor → ℕ → ℤ → ℕ → Act Cell
power p card base exponent = power_on p card base (pred exponent) base

-- a function of two numbers on several, from the left
abbrev pub folded : (ℤ → ℤ → ℤ) → ℤ → List Cell → ℤ
folded f z [] = z
folded f z (c ∷ cs) = folded f (f z (num c)) cs

-- the intrinsic functions on the values of their arguments
abbrev pub intrinsic_value : Processor → ℕ → Intrinsic → List Cell → Act Cell
intrinsic_value p card Absolute (a ∷ []) = ranged p card (absolute (num a))
intrinsic_value p card Modulo (a ∷ b ∷ []) = do
  divisor card b
  ranged p card (quotient (num a) (num b))
  give (Int (remainder (num a) (num b)))
intrinsic_value p card Greatest (a ∷ cs) = give (Int (folded greater (num a) cs))
intrinsic_value p card Least (a ∷ cs) = give (Int (folded smaller (num a) cs))
intrinsic_value p card i cs = give Undefined

abbrev pub numbers : List Cell → List ℤ
numbers [] = []
numbers (c ∷ cs) = num c ∷ numbers cs

-- each subscript must lie from 1 to its dimension; they are judged in order
abbrev pub subscripts_in : ℕ → List ℤ → List ℤ → Act (Unit {0})
subscripts_in card (s ∷ ss) (d ∷ ds) = do
  check SubscriptCheck card (is_between (pos 1) d s)
  subscripts_in card ss ds
subscripts_in card _ _ = give tt

-- an element by the values of its subscripts: the cell at its place in the array is taken
abbrev pub element : Environment → ℕ → Extent → List Dim → List Cell → Act Taken
element env card array dims subscripts = do
  st ← held
  subscripts_in card (numbers subscripts) (dim_values env st dims)
  give (Cells (record { first = array.first + count (place (numbers subscripts) (dim_values env st dims) -ℤ pos 1); size = 1 }))

abbrev pub fresh : Act Cell → Act Taken
fresh act = do
  c ← act
  give (Fresh c)

-- the k-th call in the text of the unit: its actuals are taken, and the callee is run
abbrev pub call_at : Scene → Caller → ℕ → Act (List Taken) → Option ℕ → Act Cell
call_at s run k actuals callee = do
  xs ← actuals
  call run s.environment (unit_at s.units callee) (passed (s.processor.copies s.unit.name k) 1 xs)

-- a name before a bracket: subscripts and the arguments of an intrinsic function are read, actuals are only taken
abbrev pub apply : Scene → Caller → ℕ → ℕ → Name → Applied → Act (List Cell) → Act (List Taken) → Act Taken
apply s run card k f (Element dims) values actuals = do
  cs ← values
  element s.environment card (s.environment f) dims cs
apply s run card k f (BuiltIn i) values actuals = do
  cs ← values
  fresh (intrinsic_value s.processor card i cs)
apply s run card k f Reference values actuals = fresh (call_at s run (suc k) actuals (function s.units f))

-- An expression of the scene's unit is taken, where units are run by `run`. Errors are told at `card`, and
-- k calls stand before the expression in the text of the unit. The expressions of a row are read from
-- the left, or they are only taken.
abbrev mutual
  pub taken : Scene → Caller → ℕ → ℕ → Expr → Act Taken
  taken s run card k (Const c) = fresh (constant s.processor card c)
  taken s run card k (Truth b) = give (Fresh (Logical b))
  taken s run card k (Var x) = give (Cells (s.environment x))
  taken s run card k (Apply' f _ args) =
      apply s run card k f (applied s.unit f)
      (values s run card k args)
      (actuals s run card (suc k) args)
  taken s run card k (Paren' _ (only a)) = fresh (valued card (taken s run card k a))
  taken s run card k (Pos' _ (only a)) = fresh (valued card (taken s run card k a))
  taken s run card k (Neg' _ (only a)) = do
    v ← valued card (taken s run card k a)
    fresh (ranged s.processor card (neg_ℤ (num v)))
  taken s run card k (Power' _ (only a) n) = do
    v ← valued card (taken s run card k a)
    fresh (power s.processor card (num v) n)
  taken s run card k (Bin' o _ (only a) _ (only b)) = do
    v ← valued card (taken s run card k a)
    w ← valued card (taken s run card (k + calls_in s.unit a) b)
    fresh (operate s.processor card o v w)
  taken s run card k (Rel' o _ (only a) _ (only b)) = do
    v ← valued card (taken s run card k a)
    w ← valued card (taken s run card (k + calls_in s.unit a) b)
    give (Fresh (Logical (compares o v w)))
  taken s run card k (Not' _ (only a)) = do
    v ← valued card (taken s run card k a)
    give (Fresh (Logical (not (holds v))))
  taken s run card k (And' _ (only a) _ (only b)) = do
    v ← valued card (taken s run card k a)
    cond (s.processor.lazy && not (holds v)) (give (Fresh (Logical false))) do
      w ← valued card (taken s run card (k + calls_in s.unit a) b)
      give (Fresh (Logical (holds v && holds w)))
  taken s run card k (Or' _ (only a) _ (only b)) = do
    v ← valued card (taken s run card k a)
    cond (s.processor.lazy && holds v) (give (Fresh (Logical true))) do
      w ← valued card (taken s run card (k + calls_in s.unit a) b)
      give (Fresh (Logical (holds v || holds w)))

  pub values : Scene → Caller → ℕ → ℕ → {m : Count} → Row_of-Expr m → Act (List Cell)
  values s run card k end_of-Expr = give []
  values s run card k (more_of-Expr e es) = do
    c ← valued card (taken s run card k e)
    cs ← values s run card (k + calls_in s.unit e) es
    give (c ∷ cs)

  pub actuals : Scene → Caller → ℕ → ℕ → {m : Count} → Row_of-Expr m → Act (List Taken)
  actuals s run card k end_of-Expr = give []
  actuals s run card k (more_of-Expr e es) = do
    x ← taken s run card k e
    xs ← actuals s run card (k + calls_in s.unit e) es
    give (x ∷ xs)

-- the value of an expression
abbrev pub evaluate : Scene → Caller → ℕ → ℕ → Expr → Act Cell
evaluate s run card k e = valued card (taken s run card k e)
