-- The code of expressions and statements, and what it does.
use Rattle.std.specs.Prelude.{ℕ, zero, suc, ◌+◌, ◌≡◌, Bool, true, false, cond, not, ◌&&◌, ◌||◌, ℤ, neg_ℤ, pos, ◌+ℤ◌, ◌-ℤ◌, int_le, int_lt, List, [], ◌∷◌, ◌++◌, map, length, Option, Some, None, slice_get}
use mathlib.Core.Former.{Count}
use Rattle.formula.specs.Values as values_of
use Rattle.formula.specs.Values.{is_between}
use Rattle.formula.specs.declared.value.Cell.{Cell}
use Rattle.formula.specs.declared.value.Cell.TheVariants.{Int, Logical, Undefined}
use Rattle.fort_syntax.specs.TreePatterns.{only, carried, row_of}
use Rattle.fort_syntax.specs.Names.{Intrinsic, Applied, Element, BuiltIn, Reference, applied, function, subroutine, unit_at, is_function}
use Rattle.fort_syntax.specs.declared.name.Name.{Name}
use Rattle.fort_syntax.specs.declared.condition.Kind.TheVariants.{ChoiceCheck, LoopCheck}
use Rattle.fort_syntax.specs.declared.dialect.BinOp.{BinOp}
use Rattle.fort_syntax.specs.declared.dialect.RelOp.{RelOp}
use Rattle.fort_syntax.specs.declared.dialect.Dialect.{Dialect}
use Rattle.fort_syntax.specs.declared.dialect.Dialect.TheVariants.{Common, SeventySeven}
use Rattle.fort_syntax.specs.declared.expr.Expr.{Expr, Row_of-Expr, end_of-Expr, more_of-Expr}
use Rattle.fort_syntax.specs.declared.expr.Expr.TheVariants.{Const, Truth, Var, Apply', Paren', Pos', Neg', Power', Bin', Rel', Not', And', Or'}
use Rattle.fort_syntax.specs.declared.stmt.Dim.{Dim}
use Rattle.fort_syntax.specs.declared.stmt.Param.{Param}
use Rattle.fort_syntax.specs.declared.stmt.Param.TheVariants.{Fixed, Named}
use Rattle.fort_syntax.specs.declared.stmt.Stmt.{Stmt}
use Rattle.fort_syntax.specs.declared.stmt.Stmt.TheVariants.{Assign, GoTo, Computed, ArithIf, LogicalIf', Do, Continue, Call, Return, BlockIf, ElseIf, Else, EndIf}
use Rattle.fort_syntax.specs.declared.unit.Unit.{Unit as Routine}
use Rattle.fort_model.specs.Sites.{calls_in}
use Rattle.fort_model.specs.Cells.{num, holds, same, compares}
use Rattle.fort_model.specs.Storage.{Storage}
use Rattle.fort_model.specs.Outcome.{Act, ◌>>=◌, ◌>>◌, check, step, stuck}
use Rattle.fort_model.specs.Passing.{Taken, Cells, Fresh, passed, Caller, call}
use Rattle.fort_model.specs.Evaluate.{Scene, read, value_of, ranged, constant, operate, power, intrinsic_value, element, fresh, taken, evaluate}
use Rattle.fort_model.specs.Perform.{set_variable, tests, card_in, assign, result, perform}
use Rattle.fort_model.specs.Flow.{Loop, target, next_point, next_branch, loops_at, loops_around, chosen, through, leads}

-- An instruction. Code works on a stack of what was taken: the cells of a name or of an element, or fresh values.
pub data Instr : Type 0 where
  -- a constant; the step of a DO that has none; a truth value; the cells of a name; what its first cell holds
  number : ℕ → Instr
  one : Instr
  truth : Bool → Instr
  place : Name → Instr
  load : Name → Instr
  -- what was taken is read for its value
  value : Instr
  -- operators on the values at the top
  negate : Instr
  raise : ℕ → Instr
  operation : BinOp → Instr
  comparison : RelOp → Instr
  negation : Instr
  -- a lazy processor leaves out so many instructions where the left operand decides
  skip_false : ℕ → Instr
  both : Instr
  skip_true : ℕ → Instr
  either : Instr
  -- an element of an array with so many dimensions; an intrinsic function of so many arguments; the call of a number, of
  -- a unit, with so many actuals
  array : Name → List Dim → ℕ → Instr
  built_in : Intrinsic → ℕ → Instr
  refer : ℕ → Option ℕ → ℕ → Instr
  -- a value is let go; it is assigned to what was taken behind it
  forget : Instr
  assigned : Instr
  -- DOs are tested, at a card, before the flow goes on at a point
  test_loops : ℕ → ℕ → List Loop → Instr
  -- on to a point; the carried statement, behind the next instruction, where a condition is true
  jump : ℕ → Instr
  turn : Instr
  -- on to one of three points by a sign, to one of two by a condition, and to one of several by a number
  signs : ℕ → ℕ → ℕ → Instr
  ways : ℕ → ℕ → Instr
  choose : List ℕ → Instr
  -- a DO with a variable begins by its three values, and goes on at a point
  begin_do : Name → ℕ → Instr
  -- the value of a FUNCTION must be defined
  result_of : Instr
  -- what no deck has
  stop : Instr

-- ---- code

-- how many expressions a row has
abbrev pub count : {m : Count} → Row_of-Expr m → ℕ
count end_of-Expr = 0
count (more_of-Expr e es) = suc (count es)

-- an array's element is a place too, which is read where it is wanted for its value
abbrev pub size_by : Bool → Applied → ℕ → ℕ → ℕ
size_by reads (Element dims) v a = suc (v + cond reads 1 0)
size_by reads (BuiltIn i) v a = suc v
size_by reads Reference v a = suc a

-- how long the code of an expression is, which is read for its value or only taken
abbrev mutual
  pub size : Routine → Bool → Expr → ℕ
  size u reads (Const c) = 1
  size u reads (Truth b) = 1
  size u reads (Var x) = 1
  size u reads (Apply' f _ args) = size_by reads (applied u f) (values_size u args) (actuals_size u args)
  size u reads (Paren' _ (only a)) = size u true a
  size u reads (Pos' _ (only a)) = size u true a
  size u reads (Neg' _ (only a)) = suc (size u true a)
  size u reads (Power' _ (only a) n) = suc (size u true a)
  size u reads (Bin' o _ (only a) _ (only b)) = size u true a + suc (size u true b)
  size u reads (Rel' o _ (only a) _ (only b)) = size u true a + suc (size u true b)
  size u reads (Not' _ (only a)) = suc (size u true a)
  size u reads (And' _ (only a) _ (only b)) = suc (size u true a) + suc (size u true b)
  size u reads (Or' _ (only a) _ (only b)) = suc (size u true a) + suc (size u true b)

  -- the same for a row of which each expression is read, and for one of which each is only taken
  pub values_size : Routine → {m : Count} → Row_of-Expr m → ℕ
  values_size u end_of-Expr = 0
  values_size u (more_of-Expr e es) = size u true e + values_size u es

  pub actuals_size : Routine → {m : Count} → Row_of-Expr m → ℕ
  actuals_size u end_of-Expr = 0
  actuals_size u (more_of-Expr e es) = size u false e + actuals_size u es

-- the code of an element, an intrinsic function or a call, by the code of its arguments
abbrev pub code_by : List Routine → Bool → ℕ → Name → Applied → ℕ → (List Instr → List Instr)
    → (List Instr → List Instr) → List Instr → List Instr
code_by units reads k f (Element dims) n vs ws is = vs (array f dims n ∷ cond reads (value ∷ is) is)
code_by units reads k f (BuiltIn i) n vs ws is = vs (built_in i n ∷ is)
code_by units reads k f Reference n vs ws is = ws (refer (suc k) (function units f) n ∷ is)

-- the code of an expression, which is read for its value or only taken, with k calls before it, before other code
abbrev mutual
  pub code : Routine → List Routine → Bool → ℕ → Expr → List Instr → List Instr
  code u units reads k (Const c) is = number c ∷ is
  code u units reads k (Truth b) is = truth b ∷ is
  code u units reads k (Var x) is = cond reads (load x) (place x) ∷ is
  code u units reads k (Apply' f _ args) is =
      code_by units reads k f (applied u f) (count args) (values_code u units k args) (actuals_code u units (suc k) args) is
  code u units reads k (Paren' _ (only a)) is = code u units true k a is
  code u units reads k (Pos' _ (only a)) is = code u units true k a is
  code u units reads k (Neg' _ (only a)) is = code u units true k a (negate ∷ is)
  code u units reads k (Power' _ (only a) n) is = code u units true k a (raise n ∷ is)
  code u units reads k (Bin' o _ (only a) _ (only b)) is = code u units true k a
      (code u units true (k + calls_in u a) b (operation o ∷ is))
  code u units reads k (Rel' o _ (only a) _ (only b)) is = code u units true k a
      (code u units true (k + calls_in u a) b (comparison o ∷ is))
  code u units reads k (Not' _ (only a)) is = code u units true k a (negation ∷ is)
  code u units reads k (And' _ (only a) _ (only b)) is = code u units true k a
      (skip_false (suc (size u true b)) ∷ code u units true (k + calls_in u a) b (both ∷ is))
  code u units reads k (Or' _ (only a) _ (only b)) is = code u units true k a
      (skip_true (suc (size u true b)) ∷ code u units true (k + calls_in u a) b (either ∷ is))

  -- the same for a row of which each expression is read, and for one of which each is only taken
  pub values_code : Routine → List Routine → ℕ → {m : Count} → Row_of-Expr m → List Instr → List Instr
  values_code u units k end_of-Expr is = is
  values_code u units k (more_of-Expr e es) is = code u units true k e (values_code u units (k + calls_in u e) es is)

  pub actuals_code : Routine → List Routine → ℕ → {m : Count} → Row_of-Expr m → List Instr → List Instr
  actuals_code u units k end_of-Expr is = is
  actuals_code u units k (more_of-Expr e es) is = code u units false k e (actuals_code u units (k + calls_in u e) es is)

-- ---- what code does, on a stack of what was taken

-- the newest item of a stack, which stands first; an undefined value where there is none
abbrev pub top : List Taken → Taken
top [] = Fresh Undefined
top (x ∷ xs) = x

-- what is below the newest item
abbrev pub below : List Taken → List Taken
below [] = []
below (x ∷ xs) = xs

-- the value of an item that was read
abbrev pub cell_of : Taken → Cell
cell_of (Fresh c) = c
cell_of (Cells e) = Undefined

-- the values of several items
abbrev pub cells_of : List Taken → List Cell
cells_of [] = []
cells_of (x ∷ xs) = cell_of x ∷ cells_of xs

-- the values of the newest item, of the one below it, and of the third
abbrev pub first_of : List Taken → Cell
first_of xs = cell_of (top xs)

abbrev pub second_of : List Taken → Cell
second_of xs = cell_of (top (below xs))

abbrev pub third_of : List Taken → Cell
third_of xs = cell_of (top (below (below xs)))

-- the newest so many, the oldest of them first, before others; and what is below them
abbrev pub newest : ℕ → List Taken → List Taken → List Taken
newest zero xs acc = acc
newest (suc n) xs acc = newest n (below xs) (top xs ∷ acc)

abbrev pub under : ℕ → List Taken → List Taken
under zero xs = xs
under (suc n) xs = under n (below xs)

-- on to a point, where there is one; go_to of runs is this for units alone
abbrev pub led_to : {A : Type 0} → Option ℕ → (ℕ → Act A) → Act A
led_to None next = stuck
led_to (Some q) next = next q

-- one of several points by a number; under 77 a number that counts none of them goes on behind
abbrev pub chooses : {A : Type 0} → Dialect → ℕ → List ℕ → ℤ → (ℕ → Act A) → Act A → Act A
chooses Common card qs i next behind = do
  check ChoiceCheck card (is_between (pos 1) (pos (length qs)) i)
  led_to (chosen qs (values_of.count i)) next
chooses SeventySeven card qs i next behind = cond (is_between (pos 1) (pos (length qs)) i)
    (led_to (chosen qs (values_of.count i)) next) behind

-- a DO begins: it is entered, or under 77 passed over
abbrev pub begins : {A : Type 0} → Dialect → Scene → ℕ → Name → ℤ → ℤ → ℤ → Act A → Act A → Act A
begins Common s card x m1 m2 m3 entered over = do
  check LoopCheck card (int_le (pos 1) m1 && (int_le m1 m2 && int_le (pos 1) m3))
  set_variable s x (Int m1)
  entered
begins SeventySeven s card x m1 m2 m3 entered over = do
  check LoopCheck card (int_le (pos 1) m3)
  ranged s.processor card (m2 -ℤ m1)
  ranged s.processor card (m2 -ℤ m1 +ℤ m3)
  set_variable s x (Int m1)
  cond (int_le m1 m2) entered over

-- The rest of a statement's code, of which so many instructions are skipped, at a card: it works on a stack and hands on
-- the point to go to, and the stack.
abbrev pub exec : {A : Type 0} → Scene → Caller → ℕ → (ℕ → List Taken → Act A) → List Instr → ℕ → List Taken → Act A
exec s run card next [] skip xs = next 0 xs
exec s run card next (c ∷ is) (suc skip) xs = exec s run card next is skip xs
exec s run card next (number c ∷ is) zero xs = do
  v ← constant s.processor card c
  exec s run card next is zero (Fresh v ∷ xs)
exec s run card next (one ∷ is) zero xs = exec s run card next is zero (Fresh (Int (pos 1)) ∷ xs)
exec s run card next (truth b ∷ is) zero xs = exec s run card next is zero (Fresh (Logical b) ∷ xs)
exec s run card next (place x ∷ is) zero xs = exec s run card next is zero (Cells (s.environment x) ∷ xs)
exec s run card next (load x ∷ is) zero xs = do
  v ← read card (s.environment x).first
  exec s run card next is zero (Fresh v ∷ xs)
exec s run card next (value ∷ is) zero xs = do
  v ← value_of card (top xs)
  exec s run card next is zero (Fresh v ∷ below xs)
exec s run card next (negate ∷ is) zero xs = do
  v ← ranged s.processor card (neg_ℤ (num (first_of xs)))
  exec s run card next is zero (Fresh v ∷ below xs)
exec s run card next (raise n ∷ is) zero xs = do
  v ← power s.processor card (num (first_of xs)) n
  exec s run card next is zero (Fresh v ∷ below xs)
exec s run card next (operation o ∷ is) zero xs = do
  v ← operate s.processor card o (second_of xs) (first_of xs)
  exec s run card next is zero (Fresh v ∷ below (below xs))
exec s run card next (comparison o ∷ is) zero xs = exec s run card next is zero
    (Fresh (Logical (compares o (second_of xs) (first_of xs))) ∷ below (below xs))
exec s run card next (negation ∷ is) zero xs = exec s run card next is zero
    (Fresh (Logical (not (holds (first_of xs)))) ∷ below xs)
exec s run card next (skip_false k ∷ is) zero xs =
    cond (s.processor.lazy && not (holds (first_of xs))) (exec s run card next is k
    (Fresh (Logical false) ∷ below xs)) (exec s run card next is zero xs)
exec s run card next (both ∷ is) zero xs = exec s run card next is zero
    (Fresh (Logical (holds (second_of xs) && holds (first_of xs))) ∷ below (below xs))
exec s run card next (skip_true k ∷ is) zero xs =
    cond (s.processor.lazy && holds (first_of xs)) (exec s run card next is k (Fresh (Logical true) ∷ below xs)) (exec s run card next is zero xs)
exec s run card next (either ∷ is) zero xs = exec s run card next is zero
    (Fresh (Logical (holds (second_of xs) || holds (first_of xs))) ∷ below (below xs))
exec s run card next (array f dims n ∷ is) zero xs = do
  x ← element s.environment card (s.environment f) dims (cells_of (newest n xs []))
  exec s run card next is zero (x ∷ under n xs)
exec s run card next (built_in i n ∷ is) zero xs = do
  v ← intrinsic_value s.processor card i (cells_of (newest n xs []))
  exec s run card next is zero (Fresh v ∷ under n xs)
exec s run card next (refer k callee n ∷ is) zero xs = do
  v ← call run s.environment (unit_at s.units callee) (passed (s.processor.copies s.unit.name k) 1 (newest n xs []))
  exec s run card next is zero (Fresh v ∷ under n xs)
exec s run card next (forget ∷ is) zero xs = exec s run card next is zero (below xs)
exec s run card next (assigned ∷ is) zero xs = do
  assign (top xs) (second_of xs)
  exec s run card next is zero (below (below xs))
exec s run card next (test_loops c q ds ∷ is) zero xs = do
  choices ← tests s c ds
  led_to (through q ds choices) (λ p. next p xs)
exec s run card next (jump q ∷ is) zero xs = next q xs
exec s run card next (turn ∷ is) zero xs = cond (holds (first_of xs)) (step >> exec s run card next is 1 (below xs))
    (exec s run card next is zero (below xs))
exec s run card next (signs l m r ∷ is) zero xs = next (cond (int_lt (num (first_of xs)) (pos 0)) l
    (cond (same (first_of xs) (Int (pos 0))) m r)) (below xs)
exec s run card next (ways q r ∷ is) zero xs = next (cond (holds (first_of xs)) q r) (below xs)
exec s run card next (choose qs ∷ is) zero xs =
    chooses s.processor.dialect card qs (num (first_of xs)) (λ q. next q (below xs)) (exec s run card next is zero (below xs))
exec s run card next (begin_do x q ∷ is) zero xs =
    begins s.processor.dialect s card x (num (third_of xs)) (num (second_of xs)) (num (first_of xs))
    (next q (below (below (below xs))))
    (exec s run card next is zero (below (below (below xs))))
exec s run card next (result_of ∷ is) zero xs = do
  result s card (is_function s.unit)
  exec s run card next is zero xs
exec s run card next (stop ∷ is) zero xs = stuck

-- ---- statements

-- behind a statement at a card and a point
abbrev pub behind_code : Routine → ℕ → ℕ → Instr
behind_code u card pc = test_loops card (next_point u pc) (loops_at u pc)

-- behind a DO at a point that is not entered, whose last statement stands at a point
abbrev pub over_code : Routine → ℕ → ℕ → Instr
over_code u last pc = test_loops (card_in (slice_get u.lines last)) (next_point u last) (loops_around u last pc)

-- a parameter of a DO
abbrev pub param_code : Param → List Instr → List Instr
param_code (Fixed c) is = number c ∷ is
param_code (Named x) is = load x ∷ is

-- the step of a DO, where it has one
abbrev pub step_code : Option Param → List Instr → List Instr
step_code None is = one ∷ is
step_code (Some m) is = param_code m is

-- the code of a statement at a card and a point, with k calls before it
abbrev pub stmt_code : Routine → List Routine → ℕ → ℕ → ℕ → Stmt → List Instr
stmt_code u units card pc k (Assign l r) = code u units true (k + calls_in u l) r
    (code u units false k l (assigned ∷ behind_code u card pc ∷ []))
stmt_code u units card pc k (GoTo label) = jump (target u.lines label) ∷ []
stmt_code u units card pc k (Computed labels x) = load x ∷ choose (map (target u.lines) labels) ∷ behind_code u card pc ∷ []
stmt_code u units card pc k (ArithIf e l m n) = code u units true k e (signs (target u.lines l) (target u.lines m)
    (target u.lines n) ∷ [])
stmt_code u units card pc k (LogicalIf' e _ (carried b)) = code u units true k e
    (turn ∷ behind_code u card pc ∷ stmt_code u units card pc (k + calls_in u e) b)
stmt_code u units card pc k (Do label x first last by) =
    param_code first (param_code last (step_code by (begin_do x (suc pc) ∷ over_code u (target u.lines label) pc ∷ [])))
stmt_code u units card pc k Continue = behind_code u card pc ∷ []
stmt_code u units card pc k (Call f args) =
    actuals_code u units (suc k) (row_of args) (refer (suc k) (subroutine units f) (count (row_of args))
    ∷ forget ∷ behind_code u card pc ∷ [])
stmt_code u units card pc k Return = result_of ∷ jump (length u.lines) ∷ []
stmt_code u units card pc k (BlockIf e) = code u units true k e (ways (next_point u pc) (next_branch u pc) ∷ [])
stmt_code u units card pc k (ElseIf e) = code u units true k e (ways (next_point u pc) (next_branch u pc) ∷ [])
stmt_code u units card pc k Else = behind_code u card pc ∷ []
stmt_code u units card pc k EndIf = behind_code u card pc ∷ []
stmt_code u units card pc k _ = stop ∷ []

-- ---- what code is

-- an expression is read for its value, or only taken
abbrev pub taken_so : Bool → Scene → Caller → ℕ → ℕ → Expr → Act Taken
taken_so true s run card k e = fresh (evaluate s run card k e)
taken_so false s run card k e = taken s run card k e

-- the code of an expression before other code takes the expression, and then the other code goes on
abbrev pub ExpressionsAreTaken : Type 0
ExpressionsAreTaken =
    (s : Scene) (run : Caller) (card k : ℕ) (next : ℕ → List Taken → Act Cell) (reads : Bool) (e : Expr)
    (is : List Instr) (xs : List Taken) (st : Storage) (n : ℕ)
    → exec s run card next (code s.unit s.units reads k e is) 0 xs st n ≡ (taken_so reads s run card k e >>=
    (λ x. exec s run card next is 0 (x ∷ xs))) st n

-- the code of a statement performs the statement, and goes on where that leads
abbrev pub StatementsArePerformed : Type 0
StatementsArePerformed =
    (s : Scene) (run : Caller) (card pc k : ℕ) (next : ℕ → List Taken → Act Cell) (stmt : Stmt) (xs : List Taken)
    (st : Storage) (n : ℕ)
    → exec s run card next (stmt_code s.unit s.units card pc k stmt) 0 xs st n
    ≡ (perform s run card pc k stmt >>= (λ choices. led_to (leads s.processor.dialect s.unit pc stmt choices)
    (λ q. next q xs))) st n

-- the code of an expression before other code is its code before the first part of that, and then the second
abbrev pub CodeStandsBefore : Type 0
CodeStandsBefore =
    (u : Routine) (units : List Routine) (reads : Bool) (k : ℕ) (e : Expr) (is js : List Instr)
    → code u units reads k e (is ++ js) ≡ code u units reads k e is ++ js

-- the code of an expression before other code is as long as both
abbrev pub CodeIsSoLong : Type 0
CodeIsSoLong = (u : Routine) (units : List Routine) (reads : Bool) (k : ℕ) (e : Expr) (is : List Instr)
    → length (code u units reads k e is) ≡ size u reads e + length is
