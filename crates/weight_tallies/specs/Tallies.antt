-- The weights of the conditions along a path, as far as the cap: the walk of weights, by loads. Names stand for weights as
-- far as the cap, and each sum is capped. A path is given by its steps.
use Rattle.std.specs.Prelude.{ℕ, zero, suc, pred, ◌==◌, nat_lt, cond, Bool, true, false, List, [], ◌∷◌, map, length, take, Option, Some, None, slice_get}
use mathlib.Core.Former.{Count}
use Rattle.formula.specs.Tree.{Tree}
use Rattle.fort_syntax.specs.TreePatterns.{only, carried, row_of}
use Rattle.fort_syntax.specs.Names.{Intrinsic, Absolute, Modulo, Greatest, Least, Applied, Element, BuiltIn, Reference, applied, function, subroutine, is_function, dims_of, unit_at}
use Rattle.fort_syntax.specs.declared.name.Name.{Name}
use Rattle.fort_syntax.specs.declared.dialect.BinOp.{BinOp}
use Rattle.fort_syntax.specs.declared.dialect.BinOp.TheVariants.{Add, Sub, Mul, Div}
use Rattle.fort_syntax.specs.declared.dialect.Dialect.{Dialect}
use Rattle.fort_syntax.specs.declared.dialect.Dialect.TheVariants.{Common, SeventySeven}
use Rattle.fort_syntax.specs.declared.expr.Expr.{Expr, Row_of-Expr, end_of-Expr, more_of-Expr}
use Rattle.fort_syntax.specs.declared.expr.Expr.TheVariants.{Const, Truth, Var, Apply', Paren', Pos', Neg', Power', Bin', Rel', Not', And', Or'}
use Rattle.fort_syntax.specs.declared.stmt.Param.{Param}
use Rattle.fort_syntax.specs.declared.stmt.Param.TheVariants.{Fixed, Named as OfName}
use Rattle.fort_syntax.specs.declared.stmt.Stmt.{Stmt}
use Rattle.fort_syntax.specs.declared.stmt.Stmt.TheVariants.{Assign, GoTo, Computed, ArithIf, LogicalIf', Do, Continue, Call, Return, BlockIf, ElseIf, Else, EndIf}
use Rattle.fort_syntax.specs.declared.unit.Line.{Line}
use Rattle.fort_syntax.specs.declared.unit.Unit.{Unit as Routine}
use Rattle.fort_notes.specs.Assertions.{Assertion, Notes}
use Rattle.fort_model.specs.Flow.{Loop, target, loops_at, loops_around}
use Rattle.fort_model.specs.Paths.{Cut, NoCut, AtEnd, AtAssert, cut_at}
use Rattle.fort_model.specs.Program.{Program, notes_of}
use Rattle.fort_model.specs.Seen.{Named}
use Rattle.fort_model.specs.Senses.{note}
use Rattle.fort_model.specs.WalkCalls.{Sight, Operand, Bare, Part, Computed as Reckoned, stands_for, seen_by, hits, changed, stands_after}
use Rattle.fort_model.specs.WalkStmt.{with_name}
use Rattle.path_cut.specs.Ways.{Way}
use Rattle.path_cut.specs.declared.step.Step.{Step}
use Rattle.path_cut.specs.declared.step.Step.TheVariants.{At, Choice}
use Rattle.path_sizes.specs.Weights.{of_weights, all_one}
use Rattle.way_laws.specs.PathsOf.{turns}
use Rattle.weight_caps.specs.Capped.{capped}
use Rattle.weight_caps.specs.Loads.{nothing_yet}
use Rattle.weight_caps.specs.declared.loads.Load.{Load}
use Rattle.weight_tallies.specs.Tallied.{Tally, ◌>>=◌, ◌>>◌, tallied, added, decided, tested, all_tested, next, both, pair, all}

-- ---- what needs no program

abbrev pub read : ℕ → Tally ℕ
read n = do
  tested n
  tallied n

abbrev pub read_operand : Operand ℕ → Tally ℕ
read_operand (Bare x n) = read n
read_operand (Part n) = read n
read_operand (Reckoned n) = tallied n

abbrev pub valued : Tally (Operand ℕ) → Tally ℕ
valued part = do
  x ← part
  read_operand x

abbrev pub reckoned : Tally ℕ → Tally (Operand ℕ)
reckoned part = do
  n ← part
  tallied (Reckoned n)

abbrev pub operate : BinOp → ℕ → ℕ → Tally ℕ
operate Add a b = read (pair a b)
operate Sub a b = read (pair a b)
operate Mul a b = read (pair a b)
operate Div a b = do
  tested b
  read (pair a b)

-- a product, with some factors more; each is tested
abbrev pub power_from : ℕ → ℕ → ℕ → Tally ℕ
power_from base product zero = tallied product
power_from base product (suc others) = do
  tested (both product (next base))
  power_from base (both product (next base)) others

abbrev pub power : ℕ → ℕ → Tally ℕ
power base exponent = power_from base (next base) (pred exponent)

abbrev pub intrinsic_weight : Intrinsic → List ℕ → Tally ℕ
intrinsic_weight Absolute (a ∷ []) = read (next a)
intrinsic_weight Modulo (a ∷ b ∷ []) = do
  tested b
  read (pair a b)
  tallied (pair a b)
intrinsic_weight Greatest (a ∷ ns) = tallied (next (all (a ∷ ns)))
intrinsic_weight Least (a ∷ ns) = tallied (next (all (a ∷ ns)))
intrinsic_weight i ns = tallied 1

-- what the variable of a DO weighs that is left
abbrev pub left_with : Dialect → ℕ → ℕ
left_with Common n = 1
left_with SeventySeven n = next n

abbrev pub selector : Dialect → ℕ → Tally (Unit {0})
selector Common i = tested i
selector SeventySeven i = tallied tt

-- where the path started at an ASSERT, the weight of whose clock is told, the old and new parts are tested
abbrev pub fall : Option ℕ → List ℕ → Tally (Unit {0})
fall None new = tallied tt
fall (Some past) new = tested (both past (all new))

module _ (w : Sight ℕ) where
  -- the weights of terms of notes, by what names weighed before and weigh now
  abbrev pub notes_weights : Named ℕ → Named ℕ → List Tree → List ℕ
  notes_weights before now ts = map (λ t. capped (note w.sense before now t)) ts

  -- ---- calls

  -- what the names of a called unit weigh behind a call, which changed what the caller's names weigh
  abbrev pub seen_after : Routine → Named ℕ → List (Operand ℕ) → Named ℕ
  seen_after g after xs = seen_by w g (map (stands_after w after) xs) after 1

  abbrev pub unit_called : ℕ → Routine → Named ℕ → List (Operand ℕ) → Tally (Named ℕ)
  unit_called i g now xs =
      let before = seen_by w g (map stands_for xs) now 1 in
      let smashed = hits w i g xs in
      let after = changed w smashed all_one now in
      do
        all_tested (notes_weights before before (notes_of w.program i).input)
        added (capped (length smashed))
        added (all (notes_weights before (seen_after g after xs) (notes_of w.program i).output))
        tallied after

  abbrev pub called_in : ℕ → Option Routine → Named ℕ → List (Operand ℕ) → Tally (Named ℕ)
  called_in i None now xs = tallied now
  called_in i (Some g) now xs = unit_called i g now xs

  abbrev pub called : Option ℕ → Named ℕ → List (Operand ℕ) → Tally (Named ℕ)
  called None now xs = tallied now
  called (Some i) now xs = called_in i (unit_at w.program.units (Some i)) now xs

  -- ---- expressions

  -- a constant up to the bound needs no check
  abbrev pub constant : ℕ → Tally ℕ
  constant c = do
    all_tested (cond (nat_lt w.program.bound c) (1 ∷ []) [])
    tallied 1

  abbrev pub apply_weight : Named ℕ → Name → Applied → Tally (List ℕ) → Tally (List (Operand ℕ)) → Tally (Operand ℕ)
  apply_weight now a (Element dims) values actuals = do
    is ← values
    all_tested (take (length dims) is)
    tallied (Part (next (both (now a) (all is))))
  apply_weight now a (BuiltIn i) values actuals = do
    ns ← values
    reckoned (intrinsic_weight i ns)
  apply_weight now a Reference values actuals = do
    xs ← actuals
    called (function w.program.units a) now xs
    tallied (Reckoned 1)

  abbrev mutual
    pub operand : Named ℕ → Expr → Tally (Operand ℕ)
    operand now (Const c) = reckoned (constant c)
    operand now (Truth b) = tallied (Reckoned 1)
    operand now (Var x) = tallied (Bare x (now x))
    operand now (Apply' a _ args) = apply_weight now a (applied w.unit a) (values now args) (operands now args)
    operand now (Paren' _ (only a)) = reckoned (valued (operand now a))
    operand now (Pos' _ (only a)) = reckoned (valued (operand now a))
    operand now (Neg' _ (only a)) = do
      n ← valued (operand now a)
      reckoned (read (next n))
    operand now (Power' _ (only a) k) = do
      n ← valued (operand now a)
      reckoned (power n k)
    operand now (Bin' o _ (only a) _ (only b)) = do
      n ← valued (operand now a)
      m ← valued (operand now b)
      reckoned (operate o n m)
    operand now (Rel' o _ (only a) _ (only b)) = do
      n ← valued (operand now a)
      m ← valued (operand now b)
      tallied (Reckoned (pair n m))
    operand now (Not' _ (only a)) = do
      n ← valued (operand now a)
      tallied (Reckoned (next n))
    operand now (And' _ (only a) _ (only b)) = do
      n ← valued (operand now a)
      m ← valued (operand now b)
      tallied (Reckoned (pair n m))
    operand now (Or' _ (only a) _ (only b)) = do
      n ← valued (operand now a)
      m ← valued (operand now b)
      tallied (Reckoned (pair n m))

    pub values : Named ℕ → {m : Count} → Row_of-Expr m → Tally (List ℕ)
    values now end_of-Expr = tallied []
    values now (more_of-Expr e es) = do
      n ← valued (operand now e)
      ns ← values now es
      tallied (n ∷ ns)

    pub operands : Named ℕ → {m : Count} → Row_of-Expr m → Tally (List (Operand ℕ))
    operands now end_of-Expr = tallied []
    operands now (more_of-Expr e es) = do
      x ← operand now e
      xs ← operands now es
      tallied (x ∷ xs)

  abbrev pub value : Named ℕ → Expr → Tally ℕ
  value now e = valued (operand now e)

  -- ---- statements

  abbrev pub assign : Named ℕ → Expr → ℕ → Tally (Named ℕ)
  assign now (Var x) n = tallied (with_name now x (next n))
  assign now (Apply' a _ args) n = do
    is ← values now args
    all_tested (take (length (dims_of w.unit a)) is)
    tallied (with_name now a (next (both (both (now a) (all is)) n)))
  assign now _ n = tallied now

  abbrev pub parameter : Named ℕ → Param → Tally ℕ
  parameter now (Fixed c) = constant c
  parameter now (OfName x) = read (now x)

  abbrev pub step_weight : Named ℕ → Option Param → Tally ℕ
  step_weight now None = tallied 1
  step_weight now (Some m) = parameter now m

  abbrev pub tests : Named ℕ → List Loop → List ℕ → Tally (Named ℕ)
  tests now [] cs = tallied now
  tests now (d ∷ ds) [] = tallied now
  tests now (d ∷ ds) (c ∷ cs) = do
    i ← read (now d.variable)
    by ← step_weight now d.step
    n ← read (pair i by)
    last ← parameter now d.last
    decided (pair n last)
    cond (c == 1)
        (tallied (with_name now d.variable (next n)))
        (tests (with_name now d.variable (left_with w.program.dialect n)) ds cs)

  abbrev pub behind : ℕ → Named ℕ → List ℕ → Tally (Named ℕ)
  behind pc now cs = tests now (loops_at w.unit pc) cs

  abbrev pub passed_over : ℕ → ℕ → Named ℕ → List ℕ → Tally (Named ℕ)
  passed_over last pc now cs = tests now (loops_around w.unit last pc) cs

  abbrev pub entered : ℕ → ℕ → Named ℕ → ℕ → ℕ → List ℕ → Tally (Named ℕ)
  entered last pc now m1 m2 [] = tallied now
  entered last pc now m1 m2 (c ∷ cs) = do
    decided (both m1 m2)
    cond (c == 1) (tallied now) (passed_over last pc now cs)

  abbrev pub begin : Dialect → ℕ → ℕ → Named ℕ → Name → ℕ → ℕ → ℕ → List ℕ → Tally (Named ℕ)
  begin Common last pc now x m1 m2 m3 cs = do
    tested (both (both m1 m2) m3)
    tallied (with_name now x (next m1))
  begin SeventySeven last pc now x m1 m2 m3 cs = do
    tested m3
    read (pair m2 m1)
    read (pair (pair m2 m1) m3)
    entered last pc (with_name now x (next m1)) m1 m2 cs

  abbrev pub select : Dialect → ℕ → Named ℕ → ℕ → ℕ → ℕ → List ℕ → Tally (Named ℕ)
  select Common pc now labels i c cs = do
    decided i
    tallied now
  select SeventySeven pc now labels i c cs = do
    decided i
    cond (c == suc labels) (behind pc now cs) (tallied now)

  abbrev pub selected : ℕ → Named ℕ → ℕ → ℕ → List ℕ → Tally (Named ℕ)
  selected pc now labels i [] = tallied now
  selected pc now labels i (c ∷ cs) = select w.program.dialect pc now labels i c cs

  abbrev pub result : Named ℕ → Bool → Tally (Unit {0})
  result now false = tallied tt
  result now true = tested (now w.unit.name)

  -- a condition is decided
  abbrev pub judged : Named ℕ → Expr → Tally (Unit {0})
  judged now e = do
    v ← value now e
    decided v

  -- a statement at a point, where names weigh `now`
  abbrev pub performed : ℕ → Named ℕ → Stmt → List ℕ → Tally (Named ℕ)
  performed pc now (Assign left right) cs = do
    n ← value now right
    after ← assign now left n
    behind pc after cs
  performed pc now (GoTo label) cs = tallied now
  performed pc now (Computed labels x) cs = do
    i ← read (now x)
    selector w.program.dialect i
    selected pc now (length labels) i cs
  performed pc now (ArithIf e l m n) cs = do
    judged now e
    tallied now
  performed pc now (LogicalIf' e _ (carried s)) [] = tallied now
  performed pc now (LogicalIf' e _ (carried s)) (c ∷ cs) = do
    judged now e
    cond (c == 1) (performed pc now s cs) (behind pc now cs)
  performed pc now (Do label x first last by) cs = do
    m1 ← parameter now first
    m2 ← parameter now last
    m3 ← step_weight now by
    begin w.program.dialect (target w.unit.lines label) pc now x m1 m2 m3 cs
  performed pc now Continue cs = behind pc now cs
  performed pc now (Call f args) cs = do
    xs ← operands now (row_of args)
    after ← called (subroutine w.program.units f) now xs
    behind pc after cs
  performed pc now Return cs = do
    result now (is_function w.unit)
    tallied now
  performed pc now (BlockIf e) cs = do
    judged now e
    tallied now
  performed pc now (ElseIf e) cs = do
    judged now e
    tallied now
  performed pc now Else cs = behind pc now cs
  performed pc now EndIf cs = behind pc now cs
  performed pc now _ cs = tallied now

  -- ---- paths

  abbrev pub notes_here : Notes
  notes_here = notes_of w.program w.number

  -- in the notes of the unit itself an entry value weighs 1
  abbrev pub told : Named ℕ → List Tree → List ℕ
  told now ts = notes_weights all_one now ts

  -- a path begins with 2, the number of the data names, and the terms of INPUT
  abbrev pub entry_weight : ℕ
  entry_weight = both (both 2 (capped (length w.unit.names))) (all (told all_one notes_here.input))

  abbrev pub arrive : Option ℕ → Cut → Named ℕ → Tally (Unit {0})
  arrive clock NoCut now = tallied tt
  arrive clock AtEnd now = all_tested (told now notes_here.output)
  arrive clock (AtAssert a) now = do
    all_tested (told now a.terms)
    all_tested (told now a.clock)
    fall clock (told now a.clock)

  abbrev pub perform_line : Option Line → ℕ → Named ℕ → List ℕ → Tally (Named ℕ)
  perform_line None pc now cs = tallied now
  perform_line (Some line) pc now cs = performed pc now line.stmt cs

  -- the statements of steps, and the point that they end at
  abbrev pub along : Option ℕ → List Step → ℕ → Named ℕ → Tally (Unit {0})
  along clock [] end now = arrive clock (cut_at w.unit notes_here end) now
  along clock (At pc ∷ steps) end now = do
    after ← perform_line (slice_get w.unit.lines pc) pc now (turns steps)
    along clock steps end after
  along clock (Choice k c ∷ steps) end now = along clock steps end now

  abbrev pub from_assert : Option Assertion → List Step → ℕ → Tally (Unit {0})
  from_assert None steps end = tallied tt
  from_assert (Some a) steps end = do
    added (both (both entry_weight (all (told all_one a.terms))) (all (told all_one a.clock)))
    along (Some (all (told all_one a.clock))) steps end all_one

  abbrev pub from_start : ℕ → List Step → ℕ → Tally (Unit {0})
  from_start zero steps end = do
    added entry_weight
    along None steps end all_one
  from_start (suc k) steps end = from_assert (slice_get notes_here.asserts k) steps end

-- a program without its definitions
abbrev pub bare : Program → Program
bare p = record { dialect = p.dialect; units = p.units; notes = p.notes; functions = []; bound = p.bound; smashes = p.smashes }

-- where weights are: a unit of a program
abbrev pub weighed_at : Program → ℕ → Routine → Sight ℕ
weighed_at p i u = record { sense = of_weights; program = p; number = i; unit = u }

-- the load behind a way of a unit
abbrev pub load_of : Program → ℕ → Routine → Way → Load
load_of p i u way = (from_start (weighed_at p i u) way.start way.steps way.end nothing_yet).load
