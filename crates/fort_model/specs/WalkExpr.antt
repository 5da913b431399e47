-- How expressions are evaluated on a walk: strictly, operands from the left, and before their operators.
use Rattle.std.specs.Prelude.{ℕ, zero, suc, pred, nat_lt, cond, List, [], ◌∷◌}
use Rattle.fort_syntax.specs.TreePatterns.{only}
use Rattle.fort_syntax.specs.Names.{Intrinsic, Absolute, Modulo, Greatest, Least, Applied, Element, BuiltIn, Reference, applied, function}
use mathlib.Core.Former.{Count}
use Rattle.formula.specs.declared.function.BuiltIn.{BuiltIn as Builtin}
use Rattle.formula.specs.declared.function.BuiltIn.TheVariants as f
use Rattle.fort_syntax.specs.declared.name.Name.{Name}
use Rattle.fort_syntax.specs.declared.condition.Kind.{Kind}
use Rattle.fort_syntax.specs.declared.condition.Kind.TheVariants.{DefinedCheck, RangeCheck, DivisorCheck, SubscriptCheck}
use Rattle.fort_syntax.specs.declared.dialect.BinOp.{BinOp}
use Rattle.fort_syntax.specs.declared.dialect.BinOp.TheVariants.{Add, Sub, Mul, Div}
use Rattle.fort_syntax.specs.declared.dialect.RelOp.{RelOp}
use Rattle.fort_syntax.specs.declared.dialect.RelOp.TheVariants.{Lt, Le, Eq, Ne, Ge, Gt}
use Rattle.fort_syntax.specs.declared.expr.Expr.{Expr, Row_of-Expr, end_of-Expr, more_of-Expr}
use Rattle.fort_syntax.specs.declared.expr.Expr.TheVariants.{Const, Truth, Var, Apply', Paren', Pos', Neg', Power', Bin', Rel', Not', And', Or'}
use Rattle.fort_syntax.specs.declared.stmt.Dim.{Dim}
use Rattle.fort_model.specs.Senses.{natural, make1, make2, greatest_integer, undefined, is_defined, negated, in_range}
use Rattle.fort_model.specs.Events.{Check, checks}
use Rattle.fort_model.specs.Seen.{Named, ◌>>◌, ◌>>=◌, See, see, meet}
use Rattle.fort_model.specs.WalkPlaces.{place, subscripts_fit}
use Rattle.fort_model.specs.WalkCalls.{Sight, Operand, Bare, Part, Computed, call}

module _ {V : Type 0} (w : Sight V) where
  -- a check is met
  abbrev pub checked : Kind → ℕ → V → See V (Unit {0})
  checked kind card t = meet (Check kind card t ∷ [])

  -- what is read must be defined
  abbrev pub read : ℕ → V → See V V
  read card v = do
    checked DefinedCheck card (is_defined w.sense v)
    see v

  -- an operand is read, where it isn't computed
  abbrev pub read_operand : ℕ → Operand V → See V V
  read_operand card (Bare x v) = read card v
  read_operand card (Part v) = read card v
  read_operand card (Computed v) = see v

  abbrev pub valued : ℕ → See V (Operand V) → See V V
  valued card part = do
    x ← part
    read_operand card x

  abbrev pub computed : See V V → See V (Operand V)
  computed part = do
    v ← part
    see (Computed v)

  -- a number must be one of the processor's integers
  abbrev pub ranged : ℕ → V → See V V
  ranged card v = do
    checked RangeCheck card (in_range w.sense v)
    see v

  -- a constant up to the bound needs no check
  abbrev pub constant : ℕ → ℕ → See V V
  constant card c = do
    meet (cond (nat_lt w.program.bound c) (Check RangeCheck card (make2 w.sense f.AtMost (natural w.sense c)
        (greatest_integer w.sense)) ∷ []) [])
    see (natural w.sense c)

  abbrev pub divisor : ℕ → V → See V (Unit {0})
  divisor card b = checked DivisorCheck card (negated w.sense (make2 w.sense f.Equal b (natural w.sense 0)))

  abbrev pub operate : ℕ → BinOp → V → V → See V V
  operate card Add a b = ranged card (make2 w.sense f.Plus a b)
  operate card Sub a b = ranged card (make2 w.sense f.Difference a b)
  operate card Mul a b = ranged card (make2 w.sense f.Times a b)
  operate card Div a b = do
    divisor card b
    ranged card (make2 w.sense f.Quotient a b)

  -- a power is a product of the base with itself, from the left; each product must be in range
  abbrev pub power_from : ℕ → V → ℕ → V → See V V
  power_from card base zero product = see product
  power_from card base (suc more) product = do
    p ← ranged card (make2 w.sense f.Times product base)
    power_from card base more p

  abbrev pub power : ℕ → V → ℕ → See V V
  power card base exponent = power_from card base (pred exponent) base

  abbrev pub relation : RelOp → V → V → V
  relation Lt a b = make2 w.sense f.Less a b
  relation Le a b = make2 w.sense f.AtMost a b
  relation Eq a b = make2 w.sense f.Equal a b
  relation Ne a b = negated w.sense (make2 w.sense f.Equal a b)
  relation Ge a b = make2 w.sense f.AtMost b a
  relation Gt a b = make2 w.sense f.Less b a

  -- a function of two arguments on several, from the left
  abbrev pub folded : Builtin → V → List V → V
  folded g v [] = v
  folded g v (x ∷ xs) = folded g (make2 w.sense g v x) xs

  -- the intrinsic functions
  abbrev pub intrinsic_value : ℕ → Intrinsic → List V → See V V
  intrinsic_value card Absolute (a ∷ []) = ranged card (make1 w.sense f.Absolute a)
  intrinsic_value card Modulo (a ∷ b ∷ []) = do
    divisor card b
    ranged card (make2 w.sense f.Quotient a b)
    see (make2 w.sense f.Remainder a b)
  intrinsic_value card Greatest (a ∷ xs) = see (folded f.Maximum a xs)
  intrinsic_value card Least (a ∷ xs) = see (folded f.Minimum a xs)
  intrinsic_value card i xs = see (undefined w.sense)

  -- subscripts are checked in order, and give the place of an element
  abbrev pub place_checked : ℕ → Named V → List Dim → List V → See V V
  place_checked card now dims is = do
    meet (checks SubscriptCheck card (subscripts_fit w.sense now is dims))
    see (place w.sense now is dims)

  -- a name before a bracket: an element is not read; an intrinsic function is computed of values, and a function of actuals
  abbrev pub apply : ℕ → Named V → Name → Applied → See V (List V) → See V (List (Operand V)) → See V (Operand V)
  apply card now a (Element dims) values actuals = do
    is ← values
    p ← place_checked card now dims is
    see (Part (make2 w.sense f.Element (now a) p))
  apply card now a (BuiltIn i) values actuals = do
    vs ← values
    computed (intrinsic_value card i vs)
  apply card now a Reference values actuals = do
    xs ← actuals
    c ← call w card (function w.program.units a) now xs
    see (Computed (c.1))

  -- An expression, where names stand for `now` and checks are told at a card. The expressions of a row are read from
  -- the left, or they are only taken as operands.
  abbrev mutual
    pub operand : ℕ → Named V → Expr → See V (Operand V)
    operand card now (Const c) = computed (constant card c)
    operand card now (Truth b) = see (Computed (w.sense.truth_value b))
    operand card now (Var x) = see (Bare x (now x))
    operand card now (Apply' a _ args) = apply card now a (applied w.unit a) (values card now args) (operands card now args)
    operand card now (Paren' _ (only a)) = computed (valued card (operand card now a))
    operand card now (Pos' _ (only a)) = computed (valued card (operand card now a))
    operand card now (Neg' _ (only a)) = do
      v ← valued card (operand card now a)
      computed (ranged card (make1 w.sense f.Negative v))
    operand card now (Power' _ (only a) n) = do
      v ← valued card (operand card now a)
      computed (power card v n)
    operand card now (Bin' o _ (only a) _ (only b)) = do
      v ← valued card (operand card now a)
      z ← valued card (operand card now b)
      computed (operate card o v z)
    operand card now (Rel' o _ (only a) _ (only b)) = do
      v ← valued card (operand card now a)
      z ← valued card (operand card now b)
      see (Computed (relation o v z))
    operand card now (Not' _ (only a)) = do
      v ← valued card (operand card now a)
      see (Computed (negated w.sense v))
    operand card now (And' _ (only a) _ (only b)) = do
      v ← valued card (operand card now a)
      z ← valued card (operand card now b)
      see (Computed (make2 w.sense f.And v z))
    operand card now (Or' _ (only a) _ (only b)) = do
      v ← valued card (operand card now a)
      z ← valued card (operand card now b)
      see (Computed (make2 w.sense f.Or v z))

    pub values : ℕ → Named V → {m : Count} → Row_of-Expr m → See V (List V)
    values card now end_of-Expr = see []
    values card now (more_of-Expr e es) = do
      v ← valued card (operand card now e)
      vs ← values card now es
      see (v ∷ vs)

    pub operands : ℕ → Named V → {m : Count} → Row_of-Expr m → See V (List (Operand V))
    operands card now end_of-Expr = see []
    operands card now (more_of-Expr e es) = do
      x ← operand card now e
      xs ← operands card now es
      see (x ∷ xs)

  -- the value of an expression
  abbrev pub value : ℕ → Named V → Expr → See V V
  value card now e = valued card (operand card now e)
