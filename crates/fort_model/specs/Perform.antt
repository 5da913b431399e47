-- What one statement does. It answers the choices that the values make, by which the flow goes on.
use Rattle.std.specs.Prelude.{ℕ, suc, ◌+◌, Bool, true, false, cond, ◌&&◌, ℤ, pos, ◌+ℤ◌, ◌-ℤ◌, int_le, int_lt, List, [], ◌∷◌, length, Option, Some, None, slice_get}
use Rattle.fort_syntax.specs.TreePatterns.{carried, row_of}
use Rattle.fort_syntax.specs.Names.{is_function, subroutine}
use Rattle.formula.specs.Values.{count, is_between}
use Rattle.formula.specs.declared.value.Cell.{Cell}
use Rattle.formula.specs.declared.value.Cell.TheVariants.{Int, Undefined}
use Rattle.fort_syntax.specs.declared.name.Name.{Name}
use Rattle.fort_syntax.specs.declared.condition.Kind.TheVariants.{ChoiceCheck, LoopCheck, ResultCheck}
use Rattle.fort_syntax.specs.declared.dialect.Dialect.{Dialect}
use Rattle.fort_syntax.specs.declared.dialect.Dialect.TheVariants.{Common, SeventySeven}
use Rattle.fort_syntax.specs.declared.stmt.Param.{Param}
use Rattle.fort_syntax.specs.declared.stmt.Param.TheVariants.{Fixed, Named}
use Rattle.fort_syntax.specs.declared.stmt.Stmt.{Stmt}
use Rattle.fort_syntax.specs.declared.stmt.Stmt.TheVariants.{Assign, GoTo, Computed, ArithIf, LogicalIf', Do, Continue, Call, Return, BlockIf, ElseIf, Else, EndIf}
use Rattle.fort_syntax.specs.declared.unit.Line.{Line}
use Rattle.fort_model.specs.Sites.{calls_in}
use Rattle.fort_model.specs.Flow.{target, Loop, loops_at, loops_around}
use Rattle.fort_model.specs.Cells.{num, holds, is_defined, same}
use Rattle.fort_model.specs.Storage.{load, store}
use Rattle.fort_model.specs.Outcome.{Act, ◌>>◌, ◌>>=◌, give, check, step, stuck, held, put}
use Rattle.fort_model.specs.Passing.{Taken, Cells, Fresh, Caller}
use Rattle.fort_model.specs.Evaluate.{Scene, read, ranged, constant, taken, actuals, call_at, evaluate}

-- a value is stored in a cell
abbrev pub write_cell : ℕ → Cell → Act (Unit {0})
write_cell i c = do
  st ← held
  put (store st i c)

abbrev pub set_variable : Scene → Name → Cell → Act (Unit {0})
set_variable s x c = write_cell (s.environment x).first c

-- the left side of an assignment gets a value
abbrev pub assign : Taken → Cell → Act (Unit {0})
assign (Cells e) c = write_cell e.first c
assign (Fresh v) c = stuck

abbrev pub variable : Scene → ℕ → Name → Act Cell
variable s card x = read card (s.environment x).first

-- a parameter of a DO is a constant or a variable; an absent step is 1
abbrev pub parameter : Scene → ℕ → Param → Act Cell
parameter s card (Fixed c) = constant s.processor card c
parameter s card (Named x) = variable s card x

abbrev pub step_value : Scene → ℕ → Option Param → Act Cell
step_value s card None = give (Int (pos 1))
step_value s card (Some m) = parameter s card m

-- a DO that is left leaves its variable undefined; under 77 the variable keeps the last sum
abbrev pub left_with : Dialect → Cell → Cell
left_with Common sum = Undefined
left_with SeventySeven sum = sum

-- Behind a statement DOs are tested in turn, each with one step: the step is added to the variable;
-- where the sum is not beyond the last value the DO goes round again, and otherwise it is left.
abbrev pub tests : Scene → ℕ → List Loop → Act (List ℕ)
tests s card [] = give []
tests s card (d ∷ ds) = do
  step
  i ← variable s card d.variable
  by ← step_value s card d.step
  sum ← ranged s.processor card (num i +ℤ num by)
  last ← parameter s card d.last
  cond (int_le (num sum) (num last))
      (do
        set_variable s d.variable sum
        give (1 ∷ []))
      (do
        set_variable s d.variable (left_with s.processor.dialect sum)
        choices ← tests s card ds
        give (2 ∷ choices))

-- behind a statement at a point
abbrev pub go_on : Scene → ℕ → ℕ → Act (List ℕ)
go_on s card pc = tests s card (loops_at s.unit pc)

abbrev pub card_in : Option Line → ℕ
card_in None = 0
card_in (Some line) = line.card

-- behind a DO that is not entered; the tests are at the card of the last statement
abbrev pub pass_over : Scene → ℕ → ℕ → Act (List ℕ)
pass_over s last pc = tests s (card_in (slice_get s.unit.lines last)) (loops_around s.unit last pc)

-- A DO with its first value, last value and step. Its range is performed at least once; under 77 it may be
-- passed over, and the numbers that tell how often it is performed must be in range.
abbrev pub begin : Dialect → Scene → ℕ → ℕ → ℕ → Name → ℤ → ℤ → ℤ → Act (List ℕ)
begin Common s card last pc x m1 m2 m3 = do
  check LoopCheck card (int_le (pos 1) m1 && (int_le m1 m2 && int_le (pos 1) m3))
  set_variable s x (Int m1)
  give []
begin SeventySeven s card last pc x m1 m2 m3 = do
  check LoopCheck card (int_le (pos 1) m3)
  ranged s.processor card (m2 -ℤ m1)
  ranged s.processor card (m2 -ℤ m1 +ℤ m3)
  set_variable s x (Int m1)
  cond (int_le m1 m2) (give (1 ∷ [])) do
    choices ← pass_over s last pc
    give (2 ∷ choices)

-- a computed GO TO with so many labels; under 77 a number that counts none of them goes on behind it
abbrev pub select : Dialect → Scene → ℕ → ℕ → ℕ → ℤ → Act (List ℕ)
select Common s card pc labels i = do
  check ChoiceCheck card (is_between (pos 1) (pos labels) i)
  give (count i ∷ [])
select SeventySeven s card pc labels i =
    cond (is_between (pos 1) (pos labels) i) (give (count i ∷ [])) do
      choices ← go_on s card pc
      give (suc labels ∷ choices)

-- 1 for a negative value, 2 for zero, 3 for a positive one
abbrev pub sign_choice : Cell → ℕ
sign_choice v = cond (int_lt (num v) (pos 0)) 1 (cond (same v (Int (pos 0))) 2 3)

abbrev pub truth_choice : Bool → ℕ
truth_choice b = cond b 1 2

-- a RETURN of a FUNCTION needs its value
abbrev pub result : Scene → ℕ → Bool → Act (Unit {0})
result s card false = give tt
result s card true = do
  st ← held
  check ResultCheck card (is_defined (load st (s.environment s.unit.name).first))

-- A statement of the scene's unit, which stands at a card and a point, is performed; k calls stand before it in
-- the text of the unit.
abbrev pub perform : Scene → Caller → ℕ → ℕ → ℕ → Stmt → Act (List ℕ)
perform s run card pc k (Assign left right) = do
  c ← evaluate s run card (k + calls_in s.unit left) right
  x ← taken s run card k left
  assign x c
  go_on s card pc
perform s run card pc k (GoTo label) = give []
perform s run card pc k (Computed labels x) = do
  i ← variable s card x
  select s.processor.dialect s card pc (length labels) (num i)
perform s run card pc k (ArithIf e l m n) = do
  v ← evaluate s run card k e
  give (sign_choice v ∷ [])
perform s run card pc k (LogicalIf' e _ (carried b)) = do
  v ← evaluate s run card k e
  cond (holds v)
      (do
        step
        choices ← perform s run card pc (k + calls_in s.unit e) b
        give (1 ∷ choices))
      (do
        choices ← go_on s card pc
        give (2 ∷ choices))
perform s run card pc k (Do label x first last by) = do
  m1 ← parameter s card first
  m2 ← parameter s card last
  m3 ← step_value s card by
  begin s.processor.dialect s card (target s.unit.lines label) pc x (num m1) (num m2) (num m3)
perform s run card pc k Continue = go_on s card pc
perform s run card pc k (Call f args) = do
  call_at s run (suc k) (actuals s run card (suc k) (row_of args)) (subroutine s.units f)
  go_on s card pc
perform s run card pc k Return = do
  result s card (is_function s.unit)
  give []
perform s run card pc k (BlockIf e) = do
  v ← evaluate s run card k e
  give (truth_choice (holds v) ∷ [])
perform s run card pc k (ElseIf e) = do
  v ← evaluate s run card k e
  give (truth_choice (holds v) ∷ [])
perform s run card pc k Else = go_on s card pc
perform s run card pc k EndIf = go_on s card pc
perform s run card pc k _ = stuck
