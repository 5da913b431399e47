-- The parts of statements, with two ways to run units that are tied.
use Rattle.std.proofs.Common.{ℕ, zero, suc, ◌+◌, Bool, true, false, cond, ℤ, List, [], ◌∷◌, length, Option, Some, None}
use Rattle.fort_syntax.specs.TreePatterns.{only, carried, row_of}
use Rattle.fort_syntax.specs.Names.{Intrinsic, Absolute, Modulo, Greatest, Least, Applied, Element, BuiltIn, Reference, applied}
use mathlib.Core.Former.{Count}
use Rattle.formula.specs.declared.value.Cell.{Cell}
use Rattle.fort_syntax.specs.declared.name.Name.{Name}
use Rattle.fort_syntax.specs.declared.condition.Kind.TheVariants.{DefinedCheck, RangeCheck, DivisorCheck, SubscriptCheck, ChoiceCheck, LoopCheck, ResultCheck}
use Rattle.fort_syntax.specs.declared.dialect.BinOp.{BinOp}
use Rattle.fort_syntax.specs.declared.dialect.BinOp.TheVariants.{Add, Sub, Mul, Div}
use Rattle.fort_syntax.specs.declared.dialect.Dialect.{Dialect}
use Rattle.fort_syntax.specs.declared.dialect.Dialect.TheVariants.{Common, SeventySeven}
use Rattle.fort_syntax.specs.declared.expr.Expr.{Expr, Row_of-Expr, end_of-Expr, more_of-Expr}
use Rattle.fort_syntax.specs.declared.expr.Expr.TheVariants.{Const, Truth, Var, Apply', Paren', Pos', Neg', Power', Bin', Rel', Not', And', Or'}
use Rattle.fort_syntax.specs.declared.stmt.Dim.{Dim}
use Rattle.fort_syntax.specs.declared.stmt.Param.{Param}
use Rattle.fort_syntax.specs.declared.stmt.Param.TheVariants.{Fixed, Named}
use Rattle.fort_syntax.specs.declared.stmt.Stmt.{Stmt}
use Rattle.fort_syntax.specs.declared.stmt.Stmt.TheVariants.{Subroutine, Function, Declare, Dimension, Common as CommonBlock, Assign, GoTo, Computed, ArithIf, LogicalIf', Do, Continue, Call, Return, End, BlockIf, ElseIf, Else, EndIf}
use Rattle.fort_syntax.specs.declared.unit.Unit.{Unit as Routine}
use Rattle.fort_model.specs.Sites.{calls_in}
use Rattle.fort_model.specs.Flow.{target, Loop}
use Rattle.fort_model.specs.Cells.{num}
use Rattle.fort_model.specs.Storage.{Extent, Environment}
use Rattle.fort_model.specs.Places.{dim_values}
use Rattle.fort_model.specs.Processor.{Processor}
use Rattle.fort_model.specs.Outcome.{Act, ◌>>=◌, ◌>>◌, held}
use Rattle.fort_model.specs.Passing.{Taken, Cells, Fresh, Passed, Caller, call}
use Rattle.fort_model.specs.Evaluate.{Scene, read, value_of, valued, ranged, constant, divisor, operate, power_on, intrinsic_value, numbers, subscripts_in, element, fresh, call_at, apply, taken, values, actuals, evaluate}
use Rattle.fort_model.specs.Perform.{write_cell, assign, variable, parameter, step_value, tests, go_on, pass_over, begin, select, result, perform}
use Rattle.step_laws.proofs.Tied.{Tied, tied_then, tied_before, tied_give, tied_stuck, tied_held, tied_put, tied_check, tied_cond, tied_step}

-- ---- parts without calls

abbrev pub Sure : {A : Type 0} → ℕ → Act A → Type 0
Sure bound a = Tied bound a a

sure_then : {A B : Type 0} (bound : ℕ) (a : Act A) (c : A → Act B) → Sure bound a → ((v : A) → Sure bound (c v)) → Sure bound (a >>= c)
sure_then bound a c h k = tied_then bound a a c c h k

sure_before : {A B : Type 0} (bound : ℕ) (a : Act A) (c : Act B) → Sure bound a → Sure bound c → Sure bound (a >> c)
sure_before bound a c h k = tied_before bound a a c c h k

sure_cond : {A : Type 0} (bound : ℕ) (t : Bool) (a b : Act A) → Sure bound a → Sure bound b → Sure bound (cond t a b)
sure_cond bound t a b h k = tied_cond bound t a a b b h k

module _ (bound : ℕ) where
  sure_read : (card i : ℕ) → Sure bound (read card i)
  sure_read card i = sure_then bound held _ (tied_held bound) (λ st. sure_before bound _ _ (tied_check bound DefinedCheck card _) (tied_give bound _))

  pub sure_value_of : (card : ℕ) (x : Taken) → Sure bound (value_of card x)
  sure_value_of card (Cells e) = sure_read card e.first
  sure_value_of card (Fresh c) = tied_give bound c

  pub sure_ranged : (p : Processor) (card : ℕ) (z : ℤ) → Sure bound (ranged p card z)
  sure_ranged p card z = sure_before bound _ _ (tied_check bound RangeCheck card _) (tied_give bound _)

  pub sure_constant : (p : Processor) (card c : ℕ) → Sure bound (constant p card c)
  sure_constant p card c = sure_before bound _ _ (tied_check bound RangeCheck card _) (tied_give bound _)

  sure_divisor : (card : ℕ) (c : Cell) → Sure bound (divisor card c)
  sure_divisor card c = tied_check bound DivisorCheck card _

  pub sure_operate : (p : Processor) (card : ℕ) (o : BinOp) (a b : Cell) → Sure bound (operate p card o a b)
  sure_operate p card Add a b = sure_ranged p card _
  sure_operate p card Sub a b = sure_ranged p card _
  sure_operate p card Mul a b = sure_ranged p card _
  sure_operate p card Div a b = sure_before bound _ _ (sure_divisor card b) (sure_ranged p card _)

  sure_power_on : (p : Processor) (card : ℕ) (base : ℤ) (more : ℕ) (product : ℤ) → Sure bound (power_on p card base more product)
  sure_power_on p card base zero product = tied_give bound _
  sure_power_on p card base (suc more) product = sure_then bound _ _ (sure_ranged p card _) (λ c. sure_power_on p card base more _)

  pub sure_intrinsic : (p : Processor) (card : ℕ) (i : Intrinsic) (cs : List Cell) → Sure bound (intrinsic_value p card i cs)
  sure_intrinsic p card Absolute [] = tied_give bound _
  sure_intrinsic p card Absolute (a ∷ []) = sure_ranged p card _
  sure_intrinsic p card Absolute (a ∷ b ∷ cs) = tied_give bound _
  sure_intrinsic p card Modulo [] = tied_give bound _
  sure_intrinsic p card Modulo (a ∷ []) = tied_give bound _
  sure_intrinsic p card Modulo (a ∷ b ∷ []) = sure_before bound _ _ (sure_divisor card b) (sure_then bound _ _ (sure_ranged p card _) (λ q. tied_give bound _))
  sure_intrinsic p card Modulo (a ∷ b ∷ c ∷ cs) = tied_give bound _
  sure_intrinsic p card Greatest [] = tied_give bound _
  sure_intrinsic p card Greatest (a ∷ cs) = tied_give bound _
  sure_intrinsic p card Least [] = tied_give bound _
  sure_intrinsic p card Least (a ∷ cs) = tied_give bound _

  sure_subscripts : (card : ℕ) (ss ds : List ℤ) → Sure bound (subscripts_in card ss ds)
  sure_subscripts card [] ds = tied_give bound tt
  sure_subscripts card (s ∷ ss) [] = tied_give bound tt
  sure_subscripts card (s ∷ ss) (d ∷ ds) = sure_before bound _ _ (tied_check bound SubscriptCheck card _) (sure_subscripts card ss ds)

  pub sure_element : (env : Environment) (card : ℕ) (array : Extent) (dims : List Dim) (cs : List Cell) → Sure bound (element env card array dims cs)
  sure_element env card array dims cs = sure_then bound held _ (tied_held bound) (λ st. sure_before bound _ _ (sure_subscripts card (numbers cs) (dim_values env st dims)) (tied_give bound _))

  pub sure_write : (i : ℕ) (c : Cell) → Sure bound (write_cell i c)
  sure_write i c = sure_then bound held _ (tied_held bound) (λ st. tied_put bound _)

  pub sure_assign : (x : Taken) (c : Cell) → Sure bound (assign x c)
  sure_assign (Cells e) c = sure_write e.first c
  sure_assign (Fresh v) c = tied_stuck bound

  pub sure_variable : (s : Scene) (card : ℕ) (x : Name) → Sure bound (variable s card x)
  sure_variable s card x = sure_read card _

  sure_parameter : (s : Scene) (card : ℕ) (m : Param) → Sure bound (parameter s card m)
  sure_parameter s card (Fixed c) = sure_constant s.processor card c
  sure_parameter s card (Named x) = sure_variable s card x

  sure_step_value : (s : Scene) (card : ℕ) (m : Option Param) → Sure bound (step_value s card m)
  sure_step_value s card None = tied_give bound _
  sure_step_value s card (Some m) = sure_parameter s card m

  sure_tests : (s : Scene) (card : ℕ) (ds : List Loop) → Sure bound (tests s card ds)
  sure_tests s card [] = tied_give bound _
  sure_tests s card (d ∷ ds) =
      sure_before bound _ _ (tied_step bound)
      (sure_then bound _ _ (sure_variable s card d.variable) λ i.
      sure_then bound _ _ (sure_step_value s card d.step) λ by.
      sure_then bound _ _ (sure_ranged s.processor card _) λ sum.
      sure_then bound _ _ (sure_parameter s card d.last) λ last.
      sure_cond bound _ _ _
      (sure_before bound _ _ (sure_write _ _) (tied_give bound _))
      (sure_before bound _ _ (sure_write _ _) (sure_then bound _ _ (sure_tests s card ds) λ choices. tied_give bound _)))

  sure_go_on : (s : Scene) (card pc : ℕ) → Sure bound (go_on s card pc)
  sure_go_on s card pc = sure_tests s card _

  sure_pass_over : (s : Scene) (last pc : ℕ) → Sure bound (pass_over s last pc)
  sure_pass_over s last pc = sure_tests s _ _

  pub sure_begin : (d : Dialect) (s : Scene) (card last pc : ℕ) (x : Name) (m1 m2 m3 : ℤ) → Sure bound (begin d s card last pc x m1 m2 m3)
  sure_begin Common s card last pc x m1 m2 m3 =
      sure_before bound _ _ (tied_check bound LoopCheck card _) (sure_before bound _ _ (sure_write _ _) (tied_give bound _))
  sure_begin SeventySeven s card last pc x m1 m2 m3 =
      sure_before bound _ _ (tied_check bound LoopCheck card _)
      (sure_before bound _ _ (sure_ranged s.processor card _)
      (sure_before bound _ _ (sure_ranged s.processor card _)
      (sure_before bound _ _ (sure_write _ _)
      (sure_cond bound _ _ _ (tied_give bound _) (sure_then bound _ _ (sure_pass_over s last pc) λ choices. tied_give bound _)))))

  pub sure_select : (d : Dialect) (s : Scene) (card pc labels : ℕ) (i : ℤ) → Sure bound (select d s card pc labels i)
  sure_select Common s card pc labels i = sure_before bound _ _ (tied_check bound ChoiceCheck card _) (tied_give bound _)
  sure_select SeventySeven s card pc labels i =
      sure_cond bound _ _ _ (tied_give bound _) (sure_then bound _ _ (sure_go_on s card pc) λ choices. tied_give bound _)

  pub sure_result : (s : Scene) (card : ℕ) (b : Bool) → Sure bound (result s card b)
  sure_result s card false = tied_give bound tt
  sure_result s card true = sure_then bound held _ (tied_held bound) (λ st. tied_check bound ResultCheck card _)

-- ---- parts with calls

module _ (bound : ℕ) (run other : Caller) (tied_run : (u : Routine) (env : Environment) → Tied bound (run u env) (other u env)) where
  tied_valued : (card : ℕ) (a b : Act Taken) → Tied bound a b → Tied bound (valued card a) (valued card b)
  tied_valued card a b h = tied_then bound a b _ _ h (sure_value_of bound card)

  tied_fresh : (a b : Act Cell) → Tied bound a b → Tied bound (fresh a) (fresh b)
  tied_fresh a b h = tied_then bound a b _ _ h (λ c. tied_give bound _)

  tied_call : (env : Environment) (g : Option Routine) (xs : List Passed) → Tied bound (call run env g xs) (call other env g xs)
  tied_call env None xs = tied_stuck bound
  tied_call env (Some g) xs =
      tied_then bound held held _ _ (tied_held bound) λ before.
      tied_before bound _ _ _ _ (tied_put bound _)
      (tied_then bound _ _ _ _ (tied_run g _) λ value.
      tied_then bound held held _ _ (tied_held bound) λ after.
      tied_before bound _ _ _ _ (tied_put bound _) (tied_give bound value))

  tied_call_at : (s : Scene) (k : ℕ) (a b : Act (List Taken)) (callee : Option ℕ) → Tied bound a b → Tied bound (call_at s run k a callee) (call_at s other k b callee)
  tied_call_at s k a b callee h = tied_then bound a b _ _ h (λ xs. tied_call s.environment _ _)

  tied_apply : (s : Scene) (card k : ℕ) (f : Name) (kind : Applied) (a b : Act (List Cell)) (c d : Act (List Taken)) → Tied bound a b → Tied bound c d
      → Tied bound (apply s run card k f kind a c) (apply s other card k f kind b d)
  tied_apply s card k f (Element dims) a b c d h j = tied_then bound a b _ _ h (λ cs. sure_element bound s.environment card (s.environment f) dims cs)
  tied_apply s card k f (BuiltIn i) a b c d h j = tied_then bound a b _ _ h (λ cs. tied_fresh _ _ (sure_intrinsic bound s.processor card i cs))
  tied_apply s card k f Reference a b c d h j = tied_fresh _ _ (tied_call_at s (suc k) c d _ j)

  mutual
    tied_taken : (s : Scene) (card k : ℕ) (e : Expr) → Tied bound (taken s run card k e) (taken s other card k e)
    tied_taken s card k (Const c) = tied_fresh _ _ (sure_constant bound s.processor card c)
    tied_taken s card k (Truth b) = tied_give bound _
    tied_taken s card k (Var x) = tied_give bound _
    tied_taken s card k (Apply' f _ args) = tied_apply s card k f (applied s.unit f) _ _ _ _ (tied_values s card k args) (tied_actuals s card (suc k) args)
    tied_taken s card k (Paren' _ (only a)) = tied_fresh _ _ (tied_valued card _ _ (tied_taken s card k a))
    tied_taken s card k (Pos' _ (only a)) = tied_fresh _ _ (tied_valued card _ _ (tied_taken s card k a))
    tied_taken s card k (Neg' _ (only a)) = tied_then bound _ _ _ _ (tied_valued card _ _ (tied_taken s card k a)) (λ v. tied_fresh _ _ (sure_ranged bound s.processor card _))
    tied_taken s card k (Power' _ (only a) n) = tied_then bound _ _ _ _ (tied_valued card _ _ (tied_taken s card k a)) (λ v. tied_fresh _ _ (sure_power_on bound s.processor card _ _ _))
    tied_taken s card k (Bin' o _ (only a) _ (only b)) =
        tied_then bound _ _ _ _ (tied_valued card _ _ (tied_taken s card k a)) λ v.
        tied_then bound _ _ _ _ (tied_valued card _ _ (tied_taken s card _ b)) λ w.
        tied_fresh _ _ (sure_operate bound s.processor card o v w)
    tied_taken s card k (Rel' o _ (only a) _ (only b)) =
        tied_then bound _ _ _ _ (tied_valued card _ _ (tied_taken s card k a)) λ v.
        tied_then bound _ _ _ _ (tied_valued card _ _ (tied_taken s card _ b)) λ w.
        tied_give bound _
    tied_taken s card k (Not' _ (only a)) = tied_then bound _ _ _ _ (tied_valued card _ _ (tied_taken s card k a)) (λ v. tied_give bound _)
    tied_taken s card k (And' _ (only a) _ (only b)) =
        tied_then bound _ _ _ _ (tied_valued card _ _ (tied_taken s card k a)) λ v.
        tied_cond bound _ _ _ _ _ (tied_give bound _)
        (tied_then bound _ _ _ _ (tied_valued card _ _ (tied_taken s card _ b)) λ w. tied_give bound _)
    tied_taken s card k (Or' _ (only a) _ (only b)) =
        tied_then bound _ _ _ _ (tied_valued card _ _ (tied_taken s card k a)) λ v.
        tied_cond bound _ _ _ _ _ (tied_give bound _)
        (tied_then bound _ _ _ _ (tied_valued card _ _ (tied_taken s card _ b)) λ w. tied_give bound _)

    tied_values : (s : Scene) (card k : ℕ) {m : Count} (es : Row_of-Expr m) → Tied bound (values s run card k es) (values s other card k es)
    tied_values s card k end_of-Expr = tied_give bound _
    tied_values s card k (more_of-Expr e es) =
        tied_then bound _ _ _ _ (tied_valued card _ _ (tied_taken s card k e)) λ c.
        tied_then bound _ _ _ _ (tied_values s card _ es) λ cs. tied_give bound _

    tied_actuals : (s : Scene) (card k : ℕ) {m : Count} (es : Row_of-Expr m) → Tied bound (actuals s run card k es) (actuals s other card k es)
    tied_actuals s card k end_of-Expr = tied_give bound _
    tied_actuals s card k (more_of-Expr e es) =
        tied_then bound _ _ _ _ (tied_taken s card k e) λ x.
        tied_then bound _ _ _ _ (tied_actuals s card _ es) λ xs. tied_give bound _

  tied_evaluate : (s : Scene) (card k : ℕ) (e : Expr) → Tied bound (evaluate s run card k e) (evaluate s other card k e)
  tied_evaluate s card k e = tied_valued card _ _ (tied_taken s card k e)

  pub tied_perform : (s : Scene) (card pc k : ℕ) (stmt : Stmt) → Tied bound (perform s run card pc k stmt) (perform s other card pc k stmt)
  tied_perform s card pc k (Assign left right) =
      tied_then bound _ _ _ _ (tied_evaluate s card _ right) λ c.
      tied_then bound _ _ _ _ (tied_taken s card k left) λ x.
      tied_before bound _ _ _ _ (sure_assign bound x c) (sure_go_on bound s card pc)
  tied_perform s card pc k (GoTo label) = tied_give bound _
  tied_perform s card pc k (Computed labels x) = tied_then bound _ _ _ _ (sure_variable bound s card x) (λ i. sure_select bound s.processor.dialect s card pc (length labels) (num i))
  tied_perform s card pc k (ArithIf e l m n) = tied_then bound _ _ _ _ (tied_evaluate s card k e) (λ v. tied_give bound _)
  tied_perform s card pc k (LogicalIf' e _ (carried b)) =
      tied_then bound _ _ _ _ (tied_evaluate s card k e) λ v.
      tied_cond bound _ _ _ _ _
      (tied_before bound _ _ _ _ (tied_step bound) (tied_then bound _ _ _ _ (tied_perform s card pc (k + calls_in s.unit e) b) λ choices. tied_give bound _))
      (tied_then bound _ _ _ _ (sure_go_on bound s card pc) λ choices. tied_give bound _)
  tied_perform s card pc k (Do label x first last by) =
      tied_then bound _ _ _ _ (sure_parameter bound s card first) λ m1.
      tied_then bound _ _ _ _ (sure_parameter bound s card last) λ m2.
      tied_then bound _ _ _ _ (sure_step_value bound s card by) λ m3.
      sure_begin bound s.processor.dialect s card (target s.unit.lines label) pc x (num m1) (num m2) (num m3)
  tied_perform s card pc k Continue = sure_go_on bound s card pc
  tied_perform s card pc k (Call f args) = tied_before bound _ _ _ _ (tied_call_at s (suc k) _ _ _ (tied_actuals s card (suc k) (row_of args))) (sure_go_on bound s card pc)
  tied_perform s card pc k Return = tied_before bound _ _ _ _ (sure_result bound s card _) (tied_give bound _)
  tied_perform s card pc k (BlockIf e) = tied_then bound _ _ _ _ (tied_evaluate s card k e) (λ v. tied_give bound _)
  tied_perform s card pc k (ElseIf e) = tied_then bound _ _ _ _ (tied_evaluate s card k e) (λ v. tied_give bound _)
  tied_perform s card pc k Else = sure_go_on bound s card pc
  tied_perform s card pc k EndIf = sure_go_on bound s card pc
  tied_perform s card pc k (Subroutine x xs) = tied_stuck bound
  tied_perform s card pc k (Function t x xs) = tied_stuck bound
  tied_perform s card pc k (Declare t items) = tied_stuck bound
  tied_perform s card pc k (Dimension items) = tied_stuck bound
  tied_perform s card pc k (CommonBlock groups) = tied_stuck bound
  tied_perform s card pc k End = tied_stuck bound
