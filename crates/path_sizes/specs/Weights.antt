-- The weights of the conditions along a path. It is a walk of its own: what names stand for is a weight, and a check
-- adds the weight of what it tests, not that of its goal.
use Rattle.std.specs.Prelude.{ℕ, zero, suc, pred, ◌+◌, ◌*◌, ◌==◌, nat_lt, cond, Bool, true, false, List, [], ◌∷◌, map, length, sum, Option, Some, None, slice_get}
use mathlib.Core.Former.{Count}
use Rattle.formula.specs.Tree.{Tree, num, truth, symbol, old, apply, Row, none, more}
use Rattle.fort_syntax.specs.TreePatterns.{only, carried, row_of}
use Rattle.fort_syntax.specs.Names.{Intrinsic, Absolute, Modulo, Greatest, Least, Applied, Element, BuiltIn, Reference, applied, function, subroutine, is_function, dims_of, unit_at}
use Rattle.fort_syntax.specs.declared.name.Name.{Name}
use Rattle.fort_syntax.specs.declared.dialect.BinOp.{BinOp}
use Rattle.fort_syntax.specs.declared.dialect.BinOp.TheVariants.{Add, Sub, Mul, Div}
use Rattle.fort_syntax.specs.declared.dialect.Dialect.{Dialect}
use Rattle.fort_syntax.specs.declared.dialect.Dialect.TheVariants.{Common, SeventySeven}
use Rattle.fort_syntax.specs.declared.expr.Expr.{Expr, Row_of-Expr, end_of-Expr, more_of-Expr}
use Rattle.fort_syntax.specs.declared.expr.Expr.TheVariants.{Const, Truth, Var, Apply', Paren', Pos', Neg', Power', Bin', Rel', Not', And', Or'}
use Rattle.fort_syntax.specs.declared.stmt.Dim.{Dim}
use Rattle.fort_syntax.specs.declared.stmt.Param.{Param}
use Rattle.fort_syntax.specs.declared.stmt.Param.TheVariants.{Fixed, Named as OfName}
use Rattle.fort_syntax.specs.declared.stmt.Stmt.{Stmt}
use Rattle.fort_syntax.specs.declared.stmt.Stmt.TheVariants.{Assign, GoTo, Computed, ArithIf, LogicalIf', Do, Continue, Call, Return, BlockIf, ElseIf, Else, EndIf}
use Rattle.fort_syntax.specs.declared.unit.Line.{Line}
use Rattle.fort_syntax.specs.declared.unit.Unit.{Unit as Routine}
use Rattle.fort_notes.specs.Assertions.{Assertion, Notes}
use Rattle.fort_model.specs.Flow.{Loop, target, loops_at, loops_around, leads}
use Rattle.fort_model.specs.Paths.{Cut, NoCut, AtEnd, AtAssert, cut_at, Path}
use Rattle.fort_model.specs.Program.{Program, notes_of}
use Rattle.fort_model.specs.Seen.{Named}
use Rattle.fort_model.specs.Senses.{Sense, note}
use Rattle.fort_model.specs.WalkCalls.{Sight, Operand, Bare, Part, Computed as Reckoned, stands_for, seen_by, hits, changed, stands_after}
use Rattle.fort_model.specs.WalkStmt.{with_name}
use Rattle.path_sizes.specs.Weighed.{Weigh, ◌>>=◌, ◌>>◌, weighed, added, decided, tested, all_tested}

-- ---- terms

-- what a term of a note weighs, by what its symbols and its entry values weigh: 1 and the sum of its parts
abbrev mutual
  pub term_weight : (List ℕ → ℕ) → (List ℕ → ℕ) → Tree → ℕ
  term_weight now past (num n) = 1
  term_weight now past (truth b) = 1
  term_weight now past (symbol w) = now w
  term_weight now past (old w) = past w
  term_weight now past (apply f row) = suc (row_weight now past row)

  pub row_weight : (List ℕ → ℕ) → (List ℕ → ℕ) → Row → ℕ
  row_weight now past none = 0
  row_weight now past (more t row) = term_weight now past t + row_weight now past row

-- the sense of weights
abbrev pub of_weights : Sense ℕ
of_weights = record {
  number = λ z. 1;
  truth_value = λ b. 1;
  make = λ g ns. suc (sum ns);
  told = term_weight;
  named = λ s. 1;
}

-- each name weighs 1
abbrev pub all_one : Named ℕ
all_one x = 1

module _ (w : Sight ℕ) where
  -- the weights of terms of notes, by what names weighed before and weigh now
  abbrev pub notes_weights : Named ℕ → Named ℕ → List Tree → List ℕ
  notes_weights before now ts = map (note w.sense before now) ts

  -- ---- calls

  -- INPUT is tested; then 1 is added for each smashed name, and the terms of OUTPUT. A smashed name weighs 1 afterwards,
  -- and so does the value of a function.
  abbrev pub unit_called : ℕ → Routine → Named ℕ → List (Operand ℕ) → Weigh (Named ℕ)
  unit_called i g now xs =
      let before = seen_by w g (map stands_for xs) now 1 in
      let smashed = hits w i g xs in
      let after = changed w smashed all_one now in
      do
        all_tested (notes_weights before before (notes_of w.program i).input)
        added (length smashed)
        added (sum (notes_weights before (seen_by w g (map (stands_after w after) xs) after 1) (notes_of w.program i).output))
        weighed after

  abbrev pub called_in : ℕ → Option Routine → Named ℕ → List (Operand ℕ) → Weigh (Named ℕ)
  called_in i None now xs = weighed now
  called_in i (Some g) now xs = unit_called i g now xs

  abbrev pub called : Option ℕ → Named ℕ → List (Operand ℕ) → Weigh (Named ℕ)
  called None now xs = weighed now
  called (Some i) now xs = called_in i (unit_at w.program.units (Some i)) now xs

  -- ---- expressions

  abbrev pub read : ℕ → Weigh ℕ
  read n = do
    tested n
    weighed n

  abbrev pub read_operand : Operand ℕ → Weigh ℕ
  read_operand (Bare x n) = read n
  read_operand (Part n) = read n
  read_operand (Reckoned n) = weighed n

  abbrev pub valued : Weigh (Operand ℕ) → Weigh ℕ
  valued part = do
    x ← part
    read_operand x

  abbrev pub reckoned : Weigh ℕ → Weigh (Operand ℕ)
  reckoned part = do
    n ← part
    weighed (Reckoned n)

  -- a range is tested
  abbrev pub ranged : ℕ → Weigh ℕ
  ranged n = read n

  -- a constant up to the bound needs no check
  abbrev pub constant : ℕ → Weigh ℕ
  constant c = do
    all_tested (cond (nat_lt w.program.bound c) (1 ∷ []) [])
    weighed 1

  abbrev pub operate : BinOp → ℕ → ℕ → Weigh ℕ
  operate Add a b = ranged (suc (a + b))
  operate Sub a b = ranged (suc (a + b))
  operate Mul a b = ranged (suc (a + b))
  operate Div a b = do
    tested b
    ranged (suc (a + b))

  -- a product of k factors weighs k times the base, and k; each is tested
  abbrev pub power_from : ℕ → ℕ → ℕ → Weigh ℕ
  power_from base k zero = weighed (k * base + k)
  power_from base k (suc others) = do
    tested (suc k * base + suc k)
    power_from base (suc k) others

  abbrev pub power : ℕ → ℕ → Weigh ℕ
  power base exponent = power_from base 1 (pred exponent)

  abbrev pub intrinsic_weight : Intrinsic → List ℕ → Weigh ℕ
  intrinsic_weight Absolute (a ∷ []) = ranged (suc a)
  intrinsic_weight Modulo (a ∷ b ∷ []) = do
    tested b
    ranged (suc (a + b))
    weighed (suc (a + b))
  intrinsic_weight Greatest (a ∷ ns) = weighed (suc (sum (a ∷ ns)))
  intrinsic_weight Least (a ∷ ns) = weighed (suc (sum (a ∷ ns)))
  intrinsic_weight i ns = weighed 1

  -- the subscripts that have a dimension
  abbrev pub subscripts : List ℕ → List Dim → List ℕ
  subscripts (i ∷ is) (d ∷ ds) = i ∷ subscripts is ds
  subscripts _ _ = []

  abbrev pub apply_weight : Named ℕ → Name → Applied → Weigh (List ℕ) → Weigh (List (Operand ℕ)) → Weigh (Operand ℕ)
  apply_weight now a (Element dims) values actuals = do
    is ← values
    all_tested (subscripts is dims)
    weighed (Part (suc (now a + sum is)))
  apply_weight now a (BuiltIn i) values actuals = do
    ns ← values
    reckoned (intrinsic_weight i ns)
  apply_weight now a Reference values actuals = do
    xs ← actuals
    called (function w.program.units a) now xs
    weighed (Reckoned 1)

  abbrev mutual
    pub operand : Named ℕ → Expr → Weigh (Operand ℕ)
    operand now (Const c) = reckoned (constant c)
    operand now (Truth b) = weighed (Reckoned 1)
    operand now (Var x) = weighed (Bare x (now x))
    operand now (Apply' a _ args) = apply_weight now a (applied w.unit a) (values now args) (operands now args)
    operand now (Paren' _ (only a)) = reckoned (valued (operand now a))
    operand now (Pos' _ (only a)) = reckoned (valued (operand now a))
    operand now (Neg' _ (only a)) = do
      n ← valued (operand now a)
      reckoned (ranged (suc n))
    operand now (Power' _ (only a) k) = do
      n ← valued (operand now a)
      reckoned (power n k)
    operand now (Bin' o _ (only a) _ (only b)) = do
      n ← valued (operand now a)
      m ← valued (operand now b)
      reckoned (operate o n m)
    operand now (Rel' o _ (only a) _ (only b)) = do
      n ← valued (operand now a)
      m ← valued (operand now b)
      weighed (Reckoned (suc (n + m)))
    operand now (Not' _ (only a)) = do
      n ← valued (operand now a)
      weighed (Reckoned (suc n))
    operand now (And' _ (only a) _ (only b)) = do
      n ← valued (operand now a)
      m ← valued (operand now b)
      weighed (Reckoned (suc (n + m)))
    operand now (Or' _ (only a) _ (only b)) = do
      n ← valued (operand now a)
      m ← valued (operand now b)
      weighed (Reckoned (suc (n + m)))

    pub values : Named ℕ → {m : Count} → Row_of-Expr m → Weigh (List ℕ)
    values now end_of-Expr = weighed []
    values now (more_of-Expr e es) = do
      n ← valued (operand now e)
      ns ← values now es
      weighed (n ∷ ns)

    pub operands : Named ℕ → {m : Count} → Row_of-Expr m → Weigh (List (Operand ℕ))
    operands now end_of-Expr = weighed []
    operands now (more_of-Expr e es) = do
      x ← operand now e
      xs ← operands now es
      weighed (x ∷ xs)

  abbrev pub value : Named ℕ → Expr → Weigh ℕ
  value now e = valued (operand now e)

  -- ---- statements

  -- a scalar weighs 1 and the right side; an array 1, its old weight, the subscripts and the right side
  abbrev pub assign : Named ℕ → Expr → ℕ → Weigh (Named ℕ)
  assign now (Var x) n = weighed (with_name now x (suc n))
  assign now (Apply' a _ args) n = do
    is ← values now args
    all_tested (subscripts is (dims_of w.unit a))
    weighed (with_name now a (suc (now a + sum is + n)))
  assign now _ n = weighed now

  abbrev pub parameter : Named ℕ → Param → Weigh ℕ
  parameter now (Fixed c) = constant c
  parameter now (OfName x) = read (now x)

  abbrev pub step_weight : Named ℕ → Option Param → Weigh ℕ
  step_weight now None = weighed 1
  step_weight now (Some m) = parameter now m

  -- a DO that is left leaves its variable undefined; under 77 the variable keeps the last sum
  abbrev pub left_with : Dialect → ℕ → ℕ
  left_with Common n = 1
  left_with SeventySeven n = suc n

  abbrev pub tests : Named ℕ → List Loop → List ℕ → Weigh (Named ℕ)
  tests now [] cs = weighed now
  tests now (d ∷ ds) [] = weighed now
  tests now (d ∷ ds) (c ∷ cs) = do
    i ← read (now d.variable)
    by ← step_weight now d.step
    n ← ranged (suc (i + by))
    last ← parameter now d.last
    decided (suc (n + last))
    cond (c == 1)
        (weighed (with_name now d.variable (suc n)))
        (tests (with_name now d.variable (left_with w.program.dialect n)) ds cs)

  abbrev pub behind : ℕ → Named ℕ → List ℕ → Weigh (Named ℕ)
  behind pc now cs = tests now (loops_at w.unit pc) cs

  abbrev pub passed_over : ℕ → ℕ → Named ℕ → List ℕ → Weigh (Named ℕ)
  passed_over last pc now cs = tests now (loops_around w.unit last pc) cs

  abbrev pub entered : ℕ → ℕ → Named ℕ → ℕ → ℕ → List ℕ → Weigh (Named ℕ)
  entered last pc now m1 m2 [] = weighed now
  entered last pc now m1 m2 (c ∷ cs) = do
    decided (m1 + m2)
    cond (c == 1) (weighed now) (passed_over last pc now cs)

  abbrev pub begin : Dialect → ℕ → ℕ → Named ℕ → Name → ℕ → ℕ → ℕ → List ℕ → Weigh (Named ℕ)
  begin Common last pc now x m1 m2 m3 cs = do
    tested (m1 + m2 + m3)
    weighed (with_name now x (suc m1))
  begin SeventySeven last pc now x m1 m2 m3 cs = do
    tested m3
    ranged (suc (m2 + m1))
    ranged (suc (suc (m2 + m1) + m3))
    entered last pc (with_name now x (suc m1)) m1 m2 cs

  abbrev pub select : Dialect → ℕ → Named ℕ → ℕ → ℕ → ℕ → List ℕ → Weigh (Named ℕ)
  select Common pc now labels i c cs = do
    decided i
    weighed now
  select SeventySeven pc now labels i c cs = do
    decided i
    cond (c == suc labels) (behind pc now cs) (weighed now)

  abbrev pub selected : ℕ → Named ℕ → ℕ → ℕ → List ℕ → Weigh (Named ℕ)
  selected pc now labels i [] = weighed now
  selected pc now labels i (c ∷ cs) = select w.program.dialect pc now labels i c cs

  abbrev pub selector : Dialect → ℕ → Weigh (Unit {0})
  selector Common i = tested i
  selector SeventySeven i = weighed tt

  -- a RETURN of a FUNCTION needs its value
  abbrev pub result : Named ℕ → Bool → Weigh (Unit {0})
  result now false = weighed tt
  result now true = tested (now w.unit.name)

  -- a statement at a point, where names weigh `now`
  abbrev pub performed : ℕ → Named ℕ → Stmt → List ℕ → Weigh (Named ℕ)
  performed pc now (Assign left right) cs = do
    n ← value now right
    after ← assign now left n
    behind pc after cs
  performed pc now (GoTo label) cs = weighed now
  performed pc now (Computed labels x) cs = do
    i ← read (now x)
    selector w.program.dialect i
    selected pc now (length labels) i cs
  performed pc now (ArithIf e l m n) cs = do
    v ← value now e
    decided v
    weighed now
  performed pc now (LogicalIf' e _ (carried s)) [] = weighed now
  performed pc now (LogicalIf' e _ (carried s)) (c ∷ cs) = do
    v ← value now e
    decided v
    cond (c == 1) (performed pc now s cs) (behind pc now cs)
  performed pc now (Do label x first last by) cs = do
    m1 ← parameter now first
    m2 ← parameter now last
    m3 ← step_weight now by
    begin w.program.dialect (target w.unit.lines label) pc now x m1 m2 m3 cs
  performed pc now Continue cs = behind pc now cs
  performed pc now (Call f args) cs = do
    xs ← operands now (row_of args)
    after ← called (subroutine w.program.units f) now xs
    behind pc after cs
  performed pc now Return cs = do
    result now (is_function w.unit)
    weighed now
  performed pc now (BlockIf e) cs = do
    v ← value now e
    decided v
    weighed now
  performed pc now (ElseIf e) cs = do
    v ← value now e
    decided v
    weighed now
  performed pc now Else cs = behind pc now cs
  performed pc now EndIf cs = behind pc now cs
  performed pc now _ cs = weighed now

  -- ---- paths

  abbrev pub notes_here : Notes
  notes_here = notes_of w.program w.number

  -- in the notes of the unit itself an entry value weighs 1
  abbrev pub told : Named ℕ → List Tree → List ℕ
  told now ts = notes_weights all_one now ts

  -- a path begins with 2, the number of the data names, and the terms of INPUT
  abbrev pub entry_weight : ℕ
  entry_weight = 2 + length w.unit.names + sum (told all_one notes_here.input)

  -- where the path started at an ASSERT, whose clock parts are told, all old and new parts are tested
  abbrev pub fall : Option (List ℕ) → List ℕ → Weigh (Unit {0})
  fall None new = weighed tt
  fall (Some past) new = tested (sum past + sum new)

  abbrev pub arrive : Option (List ℕ) → Cut → Named ℕ → Weigh (Unit {0}) → Weigh (Unit {0})
  arrive clock NoCut now on = on
  arrive clock AtEnd now on = all_tested (told now notes_here.output)
  arrive clock (AtAssert a) now on = do
    all_tested (told now a.terms)
    all_tested (told now a.clock)
    fall clock (told now a.clock)

  abbrev pub go_on : Option (List ℕ) → Option ℕ → Named ℕ → (ℕ → Weigh (Unit {0})) → Weigh (Unit {0})
  go_on clock None now on = weighed tt
  go_on clock (Some q) now on = arrive clock (cut_at w.unit notes_here q) now (on q)

  abbrev pub perform_line : Option (List ℕ) → Option Line → ℕ → Named ℕ → List ℕ → (ℕ → Named ℕ → Weigh (Unit {0}))
      → Weigh (Unit {0})
  perform_line clock None pc now cs on = weighed tt
  perform_line clock (Some line) pc now cs on = do
    after ← performed pc now line.stmt cs
    go_on clock (leads w.program.dialect w.unit pc line.stmt cs) after (λ q. on q after)

  -- the statements from a point on, where names weigh `now`, under the choices of each
  abbrev pub weigh_from : Option (List ℕ) → ℕ → Named ℕ → List (List ℕ) → Weigh (Unit {0})
  weigh_from clock pc now [] = weighed tt
  weigh_from clock pc now (cs ∷ way) = perform_line clock (slice_get w.unit.lines pc) pc now cs
      (λ q after. weigh_from clock q after way)

  abbrev pub from_assert : Option Assertion → List (List ℕ) → Weigh (Unit {0})
  from_assert None way = weighed tt
  from_assert (Some a) way = do
    added (entry_weight + sum (told all_one a.terms) + sum (told all_one a.clock))
    weigh_from (Some (told all_one a.clock)) a.point all_one way

  abbrev pub from_start : ℕ → List (List ℕ) → Weigh (Unit {0})
  from_start zero way = do
    added entry_weight
    arrive None (cut_at w.unit notes_here 0) all_one (weigh_from None 0 all_one way)
  from_start (suc k) way = from_assert (slice_get notes_here.asserts k) way

-- the weights of the conditions along a path of a unit
abbrev pub weights_of : Program → ℕ → Routine → Path → List ℕ
weights_of p i u path = (from_start (record { sense = of_weights; program = p; number = i; unit = u })
    path.start path.choices 0).weights
