-- How a statement is performed on a walk, under choices that the path makes. Each choice is a fact: where the values
-- decide another one, the walk goes off. It answers what names stand for afterwards.
use Rattle.std.specs.Prelude.{ℕ, zero, suc, ◌==◌, cond, Bool, true, false, List, [], ◌∷◌, length, Option, Some, None, slice_get}
use Rattle.fort_syntax.specs.TreePatterns.{carried, row_of}
use Rattle.formula.specs.Atoms.{same_bytes}
use Rattle.fort_syntax.specs.Names.{dims_of, is_function, subroutine}
use Rattle.formula.specs.declared.function.BuiltIn.TheVariants.{And, Equal, Plus, Difference, Put, Less, AtMost}
use Rattle.fort_syntax.specs.declared.name.Name.{Name}
use Rattle.fort_syntax.specs.declared.condition.Kind.TheVariants.{ChoiceCheck, LoopCheck, ResultCheck}
use Rattle.fort_syntax.specs.declared.dialect.Dialect.{Dialect}
use Rattle.fort_syntax.specs.declared.dialect.Dialect.TheVariants.{Common, SeventySeven}
use Rattle.fort_syntax.specs.declared.expr.Expr.{Expr}
use Rattle.fort_syntax.specs.declared.expr.Expr.TheVariants.{Var, Apply'}
use Rattle.fort_syntax.specs.declared.stmt.Param.{Param}
use Rattle.fort_syntax.specs.declared.stmt.Param.TheVariants.{Fixed, Named as OfName}
use Rattle.fort_syntax.specs.declared.stmt.Stmt.{Stmt}
use Rattle.fort_syntax.specs.declared.stmt.Stmt.TheVariants.{Assign, GoTo, Computed, ArithIf, LogicalIf', Do, Continue, Call, Return, BlockIf, ElseIf, Else, EndIf}
use Rattle.fort_model.specs.Flow.{target, Loop, loops_at, loops_around}
use Rattle.fort_model.specs.Perform.{card_in}
use Rattle.fort_model.specs.Senses.{natural, make2, make3, undefined, is_defined, negated, lies_from_to}
use Rattle.fort_model.specs.Events.{Take}
use Rattle.fort_model.specs.Seen.{Named, ◌>>◌, ◌>>=◌, See, see, meet}
use Rattle.fort_model.specs.WalkCalls.{Sight, call}
use Rattle.fort_model.specs.WalkExpr.{checked, read, ranged, constant, place_checked, values, operands, value}

-- one name stands for something new
abbrev pub with_name : {V : Type 0} → Named V → Name → V → Named V
with_name now x v y = cond (same_bytes x y) v (now y)

module _ {V : Type 0} (w : Sight V) where
  -- a fact is met
  abbrev pub taken : V → See V (Unit {0})
  taken t = meet (Take t ∷ [])

  -- (AND a b c)
  abbrev pub all_three : V → V → V → V
  all_three a b c = make3 w.sense And a b c

  -- the left side of an assignment: a name, or an element, whose subscripts are evaluated behind the right side
  abbrev pub assign : ℕ → Named V → Expr → V → See V (Named V)
  assign card now (Var x) v = see (with_name now x v)
  assign card now (Apply' a _ args) v = do
    is ← values w card now args
    p ← place_checked w card now (dims_of w.unit a) is
    see (with_name now a (make3 w.sense Put (now a) p v))
  assign card now _ v = see now

  -- a parameter of a DO is a constant or a variable; an absent step is 1
  abbrev pub parameter : ℕ → Named V → Param → See V V
  parameter card now (Fixed c) = constant w card c
  parameter card now (OfName x) = read w card (now x)

  abbrev pub step_value : ℕ → Named V → Option Param → See V V
  step_value card now None = see (natural w.sense 1)
  step_value card now (Some m) = parameter card now m

  -- a DO that is left leaves its variable undefined; under 77 the variable keeps the last sum
  abbrev pub left_with : Dialect → V → V
  left_with Common sum = undefined w.sense
  left_with SeventySeven sum = sum

  -- behind a statement DOs are tested in turn: by the choice 1 one goes round again, by the choice 2 it is left.
  abbrev pub tests : ℕ → Named V → List Loop → List ℕ → See V (Named V)
  tests card now [] cs = see now
  tests card now (d ∷ ds) [] = see now
  tests card now (d ∷ ds) (c ∷ cs) = do
    i ← read w card (now d.variable)
    by ← step_value card now d.step
    sum ← ranged w card (make2 w.sense Plus i by)
    last ← parameter card now d.last
    cond (c == 1)
        (do
          taken (make2 w.sense AtMost sum last)
          see (with_name now d.variable sum))
        (do
          taken (make2 w.sense Less last sum)
          tests card (with_name now d.variable (left_with w.program.dialect sum)) ds cs)

  -- behind a statement at a point
  abbrev pub behind : ℕ → ℕ → Named V → List ℕ → See V (Named V)
  behind card pc now cs = tests card now (loops_at w.unit pc) cs

  -- behind a DO at a point that is not entered; the tests are at the card of its last statement
  abbrev pub passed_over : ℕ → ℕ → Named V → List ℕ → See V (Named V)
  passed_over last pc now cs = tests (card_in (slice_get w.unit.lines last)) now (loops_around w.unit last pc) cs

  -- whether a DO is entered, which is a choice under 77
  abbrev pub entered : ℕ → ℕ → Named V → V → V → List ℕ → See V (Named V)
  entered last pc now m1 m2 [] = see now
  entered last pc now m1 m2 (c ∷ cs) =
      cond (c == 1)
      (do
        taken (make2 w.sense AtMost m1 m2)
        see now)
      (do
        taken (make2 w.sense Less m2 m1)
        passed_over last pc now cs)

  -- a DO with its first value, last value and step
  abbrev pub begin : Dialect → ℕ → ℕ → ℕ → Named V → Name → V → V → V → List ℕ → See V (Named V)
  begin Common card last pc now x m1 m2 m3 cs = do
    checked w LoopCheck card (all_three (make2 w.sense AtMost (natural w.sense 1) m1) (make2 w.sense AtMost m1 m2)
        (make2 w.sense AtMost (natural w.sense 1) m3))
    see (with_name now x m1)
  begin SeventySeven card last pc now x m1 m2 m3 cs = do
    checked w LoopCheck card (make2 w.sense AtMost (natural w.sense 1) m3)
    ranged w card (make2 w.sense Difference m2 m1)
    ranged w card (make2 w.sense Plus (make2 w.sense Difference m2 m1) m3)
    entered last pc (with_name now x m1) m1 m2 cs

  -- a number counts one of so many labels
  abbrev pub counts_label : ℕ → V → V
  counts_label labels i = lies_from_to w.sense (natural w.sense 1) (natural w.sense labels) i

  -- a computed GO TO with so many labels, by its first choice; under 77 the choice behind the last label goes on behind it
  abbrev pub select : Dialect → ℕ → ℕ → Named V → ℕ → V → ℕ → List ℕ → See V (Named V)
  select Common card pc now labels i c cs = do
    taken (make2 w.sense Equal i (natural w.sense c))
    see now
  select SeventySeven card pc now labels i c cs =
      cond (c == suc labels)
      (do
        taken (negated w.sense (counts_label labels i))
        behind card pc now cs)
      (do
        taken (make2 w.sense Equal i (natural w.sense c))
        see now)

  abbrev pub selected : ℕ → ℕ → Named V → ℕ → V → List ℕ → See V (Named V)
  selected card pc now labels i [] = see now
  selected card pc now labels i (c ∷ cs) = select w.program.dialect card pc now labels i c cs

  -- without 77 the number must count a label
  abbrev pub choice_check : Dialect → ℕ → ℕ → V → See V (Unit {0})
  choice_check Common card labels i = checked w ChoiceCheck card (counts_label labels i)
  choice_check SeventySeven card labels i = see tt

  -- the choices of an arithmetic IF: 1 for a negative value, 2 for zero, 3 for a positive one
  abbrev pub sign_fact : V → List ℕ → V
  sign_fact v (suc zero ∷ cs) = make2 w.sense Less v (natural w.sense 0)
  sign_fact v (suc (suc zero) ∷ cs) = make2 w.sense Equal v (natural w.sense 0)
  sign_fact v _ = make2 w.sense Less (natural w.sense 0) v

  -- the choices of a condition: 1 for true, 2 for false
  abbrev pub truth_fact : V → List ℕ → V
  truth_fact v (suc zero ∷ cs) = v
  truth_fact v _ = negated w.sense v

  -- a RETURN of a FUNCTION needs its value
  abbrev pub result : ℕ → Named V → Bool → See V (Unit {0})
  result card now false = see tt
  result card now true = checked w ResultCheck card (is_defined w.sense (now w.unit.name))

  -- a statement at a card and a point, where names stand for `now`
  abbrev pub performed : ℕ → ℕ → Named V → Stmt → List ℕ → See V (Named V)
  performed card pc now (Assign left right) cs = do
    v ← value w card now right
    after ← assign card now left v
    behind card pc after cs
  performed card pc now (GoTo label) cs = see now
  performed card pc now (Computed labels x) cs = do
    i ← read w card (now x)
    choice_check w.program.dialect card (length labels) i
    selected card pc now (length labels) i cs
  performed card pc now (ArithIf e l m n) cs = do
    v ← value w card now e
    taken (sign_fact v cs)
    see now
  performed card pc now (LogicalIf' e _ (carried s)) [] = see now
  performed card pc now (LogicalIf' e _ (carried s)) (c ∷ cs) = do
    v ← value w card now e
    cond (c == 1)
        (do
          taken v
          performed card pc now s cs)
        (do
          taken (negated w.sense v)
          behind card pc now cs)
  performed card pc now (Do label x first last by) cs = do
    m1 ← parameter card now first
    m2 ← parameter card now last
    m3 ← step_value card now by
    begin w.program.dialect card (target w.unit.lines label) pc now x m1 m2 m3 cs
  performed card pc now Continue cs = behind card pc now cs
  performed card pc now (Call f args) cs = do
    xs ← operands w card now (row_of args)
    after ← call w card (subroutine w.program.units f) now xs
    behind card pc (after.0) cs
  performed card pc now Return cs = do
    result card now (is_function w.unit)
    see now
  performed card pc now (BlockIf e) cs = do
    v ← value w card now e
    taken (truth_fact v cs)
    see now
  performed card pc now (ElseIf e) cs = do
    v ← value w card now e
    taken (truth_fact v cs)
    see now
  performed card pc now Else cs = behind card pc now cs
  performed card pc now EndIf cs = behind card pc now cs
  performed card pc now _ cs = see now
