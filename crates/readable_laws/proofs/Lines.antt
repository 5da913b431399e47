-- Statements of well-formed units have names and numbers that a text can spell.
use Rattle.std.proofs.Common.{◌≡◌, ◌⊎◌, inl, inr, ℕ, suc, ◌<◌, ◌^◌, Bool, true, false, cond, ◌&&◌, List, [], ◌∷◌, ◌++◌, flat_map, Option, Some, None, slice_get, nat_lt, refl, sym, ap, subst, arith}
use Rattle.std.specs.Prelude.{◌==◌}
use Rattle.std.specs.List.{list_all}
use Rattle.std.proofs.lemmas.Bool.Decides.{nat_tests}
use mathlib.Core.Former.{Count}
use Rattle.formula.specs.Atoms.{is_name}
use Rattle.fort_syntax.specs.Grammar.{is_carried}
use Rattle.fort_syntax.specs.Names.{Applied, Element, BuiltIn, Reference, applied}
use Rattle.fort_syntax.specs.TreePatterns.{only, carried, row_of, listed}
use Rattle.fort_syntax.specs.Uses.{parts, parts_of_row, all_parts}
use Rattle.fort_syntax.specs.WellFormed.{IsWellFormedUnit, is_small, is_small_param, is_small_step, has_right_form, has_right_numbers, is_right_statement}
use Rattle.fort_syntax.specs.declared.dialect.Dialect.{Dialect}
use Rattle.fort_syntax.specs.declared.dialect.Sort.{Sort}
use Rattle.fort_syntax.specs.declared.dialect.Sort.TheVariants.{Integer, Logical}
use Rattle.fort_syntax.specs.declared.expr.Expr.{Expr, Row_of-Expr, end_of-Expr, more_of-Expr}
use Rattle.fort_syntax.specs.declared.expr.Expr.TheVariants.{Const, Truth, Var, Apply', Paren', Pos', Neg', Power', Bin', Rel', Not', And', Or'}
use Rattle.fort_syntax.specs.declared.name.Name.{Name}
use Rattle.fort_syntax.specs.declared.stmt.Dim.{Dim}
use Rattle.fort_syntax.specs.declared.stmt.Param.{Param}
use Rattle.fort_syntax.specs.declared.stmt.Param.TheVariants as param
use Rattle.fort_syntax.specs.declared.stmt.Stmt.{Stmt}
use Rattle.fort_syntax.specs.declared.stmt.Stmt.TheVariants.{Subroutine, Function, Declare, Dimension, Common, Assign, GoTo, Computed, ArithIf, LogicalIf', Do, Continue, Call, Return, End, BlockIf, ElseIf, Else, EndIf}
use Rattle.fort_syntax.specs.declared.unit.Line.{Line}
use Rattle.fort_syntax.specs.declared.unit.Unit.{Unit as Routine}
use Rattle.fort_model.specs.Flow.{target, Loop, loop_of, loops_from, loops_at, around}
use Rattle.fort_model.specs.Lists.{IsAmong}
use Rattle.fort_model.specs.Program.{Program}
use Rattle.fort_model.specs.Rules.{KeepsRules}
use Rattle.fort_laws.specs.Called.{IsReferenceTo, IsCallTo}
use Rattle.fort_laws.specs.GoodStatements.{IsParameter, IsStep}
use Rattle.fort_laws.specs.TypedStatements.{IsTypedLeft, IsTypedStatement}
use Rattle.fort_laws.specs.Typed.{IsScalar, IsArray, IsTyped, IsActual, IsApplied, AreInteger, AreActual, row_length}
use Rattle.fort_laws.proofs.RulesKept.{split}
use Rattle.fort_laws.proofs.Tests.{all_among}
use Rattle.fort_laws.proofs.TypedLines.{statements_are_typed}
use Rattle.note_laws.proofs.Small.{both_parts, tests_front, tests_back}
use Rattle.readable_laws.specs.Small.{HasFewLabels}
use Rattle.readable_laws.proofs.Right.{AreDimsRight, IsUnitRight, IsAppliedRight, IsRight, AreRight, IsParamRight, IsStepRight, AreLoopsRight, IsLeftRight, IsStmtRight}

small_number : (n : ℕ) → is_small n ≡ true → n < 10 ^ 18
small_number n e = grind (arith, nat_tests)

row_parts : (args : List Expr) → parts_of_row (row_of args) ≡ flat_map parts args
row_parts [] = refl
row_parts (e ∷ es) = ap (λ xs. parts e ++ xs) (row_parts es)

module _ (u : Routine) (r : IsUnitRight u) (IsReference : Sort → Name → List Expr → Type 0) (IsCall : Name → List Expr → Type 0) where
  scalar_named : (q : Sort) (x : Name) → IsScalar u q x → is_name x ≡ true
  scalar_named q x s = r.names x s.data_of s.is

  array_right : (q : Sort) (a : Name) (ds : List Dim) → IsArray u q a ds → (is_name a ≡ true) × AreDimsRight ds
  array_right q a ds s = (r.names a s.data_of s.is, subst AreDimsRight s.dims_are (r.dims a s.data_of s.is))

  -- ---- expressions

  abbrev NumbersFit : List Expr → Type 0
  NumbersFit es = list_all has_right_numbers es ≡ true

  applied_right : (q : Sort) (a : Name) (kind : Applied) (n : ℕ) (es : List Expr) (P Q T : Type 0) → IsApplied u IsReference q a kind n es P Q → (P → T) → (Q → T) → IsAppliedRight u a kind T
  applied_right q a (Element []) n es P Q T h k l = absurd h
  applied_right q a (Element (d ∷ ds)) n es P Q T h k l = let s = array_right q a (d ∷ ds) h.0 in (s.0, s.1, k h.2)
  applied_right q a (BuiltIn g) n es P Q T h k l = k h.2
  applied_right q a Reference n es P Q T h k l = l h.1

  either_right : (e : Expr) → IsTyped u IsReference Integer e ⊎ IsTyped u IsReference Logical e → ((q : Sort) → IsTyped u IsReference q e → IsRight u e) → IsRight u e
  either_right e (inl t) k = k Integer t
  either_right e (inr t) k = k Logical t

  actual_right : (e : Expr) → IsActual u e (IsTyped u IsReference Integer e ⊎ IsTyped u IsReference Logical e) → ((q : Sort) → IsTyped u IsReference q e → IsRight u e) → IsRight u e
  actual_right (Var x) h k = r.names x h.data_of h.is
  actual_right (Const n) h k = either_right (Const n) h k
  actual_right (Truth b) h k = either_right (Truth b) h k
  actual_right (Apply' a z args) h k = either_right (Apply' a z args) h k
  actual_right (Paren' z a) h k = either_right (Paren' z a) h k
  actual_right (Pos' z a) h k = either_right (Pos' z a) h k
  actual_right (Neg' z a) h k = either_right (Neg' z a) h k
  actual_right (Power' z a n) h k = either_right (Power' z a n) h k
  actual_right (Bin' o y a z b) h k = either_right (Bin' o y a z b) h k
  actual_right (Rel' o y a z b) h k = either_right (Rel' o y a z b) h k
  actual_right (Not' z a) h k = either_right (Not' z a) h k
  actual_right (And' y a z b) h k = either_right (And' y a z b) h k
  actual_right (Or' y a z b) h k = either_right (Or' y a z b) h k

  behind_first : (e : Expr) (es : List Expr) → NumbersFit (e ∷ es) → NumbersFit es
  behind_first e es h = (both_parts (has_right_numbers e) (list_all has_right_numbers es) h).1

  mutual
    right_expr : (q : Sort) (e : Expr) → IsTyped u IsReference q e → NumbersFit (parts e) → IsRight u e
    right_expr q (Const n) t h = small_number n (both_parts (has_right_numbers (Const n)) true h).0
    right_expr q (Truth b) t h = tt
    right_expr q (Var x) t h = scalar_named q x t
    right_expr q (Apply' a z args) t h =
        let k = behind_first (Apply' a z args) (parts_of_row args) h in
        applied_right q a (applied u a) (row_length args) (listed args) (AreInteger u IsReference args) (AreActual u IsReference args) (AreRight u args) t (λ s. right_values args s k) (λ s. right_actuals args s k)
    right_expr q (Paren' z (only a)) t h = right_expr q a t (behind_first (Paren' z (only a)) (parts a) h)
    right_expr q (Pos' z (only a)) t h = right_expr Integer a t.1 (behind_first (Pos' z (only a)) (parts a) h)
    right_expr q (Neg' z (only a)) t h = right_expr Integer a t.1 (behind_first (Neg' z (only a)) (parts a) h)
    right_expr q (Power' z (only a) n) t h = right_expr Integer a t.1 (behind_first (Power' z (only a) n) (parts a) h)
    right_expr q (Bin' o y (only a) z (only b)) t h =
        let k = behind_first (Bin' o y (only a) z (only b)) (parts a ++ parts b) h in
        (right_expr Integer a t.1.0 (tests_front has_right_numbers (parts a) (parts b) k), right_expr Integer b t.1.1 (tests_back has_right_numbers (parts a) (parts b) k))
    right_expr q (Rel' o y (only a) z (only b)) t h =
        let k = behind_first (Rel' o y (only a) z (only b)) (parts a ++ parts b) h in
        (right_expr Integer a t.1.0 (tests_front has_right_numbers (parts a) (parts b) k), right_expr Integer b t.1.1 (tests_back has_right_numbers (parts a) (parts b) k))
    right_expr q (Not' z (only a)) t h = right_expr Logical a t.1 (behind_first (Not' z (only a)) (parts a) h)
    right_expr q (And' y (only a) z (only b)) t h =
        let k = behind_first (And' y (only a) z (only b)) (parts a ++ parts b) h in
        (right_expr Logical a t.1.0 (tests_front has_right_numbers (parts a) (parts b) k), right_expr Logical b t.1.1 (tests_back has_right_numbers (parts a) (parts b) k))
    right_expr q (Or' y (only a) z (only b)) t h =
        let k = behind_first (Or' y (only a) z (only b)) (parts a ++ parts b) h in
        (right_expr Logical a t.1.0 (tests_front has_right_numbers (parts a) (parts b) k), right_expr Logical b t.1.1 (tests_back has_right_numbers (parts a) (parts b) k))

    right_values : {m : Count} (es : Row_of-Expr m) → AreInteger u IsReference es → NumbersFit (parts_of_row es) → AreRight u es
    right_values end_of-Expr t h = tt
    right_values (more_of-Expr e es) t h =
        (right_expr Integer e t.0 (tests_front has_right_numbers (parts e) (parts_of_row es) h), right_values es t.1 (tests_back has_right_numbers (parts e) (parts_of_row es) h))

    right_actuals : {m : Count} (es : Row_of-Expr m) → AreActual u IsReference es → NumbersFit (parts_of_row es) → AreRight u es
    right_actuals end_of-Expr t h = tt
    right_actuals (more_of-Expr e es) t h = (
      actual_right e t.0 (λ q s. right_expr q e s (tests_front has_right_numbers (parts e) (parts_of_row es) h)),
      right_actuals es t.1 (tests_back has_right_numbers (parts e) (parts_of_row es) h),
    )

  -- ---- DOs

  param_right : (m : Param) → IsParameter u m → is_small_param m ≡ true → IsParamRight u m
  param_right (param.Fixed n) t h = small_number n h
  param_right (param.Named x) t h = scalar_named Integer x t

  step_right : (o : Option Param) → IsStep u o → is_small_step o ≡ true → IsStepRight u o
  step_right None t h = tt
  step_right (Some m) t h = param_right m t h

  -- what a statement says of a DO that it begins
  abbrev BeginsRight : Stmt → Type 0
  BeginsRight (Do label x first last by) = (is_name x ≡ true) × IsParamRight u last × IsStepRight u by
  BeginsRight _ = Unit {0}

  add_loop : (all : List Line) (pc k : ℕ) (s : Stmt) (ds : List Loop) → BeginsRight s → AreLoopsRight u ds → AreLoopsRight u (loop_of all pc k s ds)
  add_loop all pc k (Do label x first last step) ds h good = put (target all label == pc)
    where
      put : (t : Bool) → AreLoopsRight u (cond t (record { at = k; variable = x; last = last; step = step } ∷ ds) ds)
      put true = (record { variable = h.0; last = h.1; step = h.2 }, good)
      put false = good
  add_loop all pc k (Assign left right) ds h good = good
  add_loop all pc k (GoTo label) ds h good = good
  add_loop all pc k (Computed labels x) ds h good = good
  add_loop all pc k (ArithIf e l m n) ds h good = good
  add_loop all pc k (LogicalIf' e shape (carried s)) ds h good = good
  add_loop all pc k Continue ds h good = good
  add_loop all pc k (Call f args) ds h good = good
  add_loop all pc k Return ds h good = good
  add_loop all pc k (BlockIf e) ds h good = good
  add_loop all pc k (ElseIf e) ds h good = good
  add_loop all pc k Else ds h good = good
  add_loop all pc k EndIf ds h good = good
  add_loop all pc k (Subroutine f dummies) ds h good = good
  add_loop all pc k (Function sort f dummies) ds h good = good
  add_loop all pc k (Declare sort items) ds h good = good
  add_loop all pc k (Dimension items) ds h good = good
  add_loop all pc k (Common groups) ds h good = good
  add_loop all pc k End ds h good = good

  loops_right : (all : List Line) (pc k : ℕ) (lines : List Line) (ds : List Loop) → ((line : Line) → IsAmong line lines → BeginsRight line.stmt) → AreLoopsRight u ds → AreLoopsRight u (loops_from all pc k lines ds)
  loops_right all pc k [] ds h good = good
  loops_right all pc k (line ∷ lines) ds h good =
      loops_right all pc (suc k) lines (loop_of all pc k line.stmt ds) (λ l m. h l (suc m.0, m.1)) (add_loop all pc k line.stmt ds (h line (0, refl)) good)

  some_right : (pc : ℕ) (ds : List Loop) → AreLoopsRight u ds → AreLoopsRight u (around pc ds)
  some_right pc [] good = tt
  some_right pc (d ∷ ds) good = put (nat_lt d.at pc) (some_right pc ds good.1)
    where
      put : (t : Bool) → AreLoopsRight u (around pc ds) → AreLoopsRight u (cond t (d ∷ around pc ds) (around pc ds))
      put true rest = (good.0, rest)
      put false rest = rest

  -- ---- statements

  left_right : (q : Sort) (e : Expr) → IsTypedLeft u IsReference IsCall q e → NumbersFit (parts e) → IsLeftRight u e
  left_right q (Var x) t h = scalar_named q x t
  left_right q (Apply' a z args) t h =
      let s = array_right q a (t.dim ∷ t.dims) t.array in
      (s.0, subst AreDimsRight (sym t.dims_are) s.1, right_values args t.integers (behind_first (Apply' a z args) (parts_of_row args) h))
  left_right q (Const n) t h = tt
  left_right q (Truth b) t h = tt
  left_right q (Paren' z a) t h = tt
  left_right q (Pos' z a) t h = tt
  left_right q (Neg' z a) t h = tt
  left_right q (Power' z a n) t h = tt
  left_right q (Bin' o y a z b) t h = tt
  left_right q (Rel' o y a z b) t h = tt
  left_right q (Not' z a) t h = tt
  left_right q (And' y a z b) t h = tt
  left_right q (Or' y a z b) t h = tt

  do_parts : (first last : Param) (by : Option Param) → (is_small_param first && is_small_param last && is_small_step by) ≡ true → (is_small_param first ≡ true) × (is_small_param last ≡ true) × (is_small_step by ≡ true)
  do_parts first last by h =
      let a = both_parts (is_small_param first && is_small_param last) (is_small_step by) h in
      let b = both_parts (is_small_param first) (is_small_param last) a.0 in (b.0, b.1, a.1)

  begins_right : (pc : ℕ) (s : Stmt) → IsTypedStatement u IsReference IsCall pc s → has_right_form s ≡ true → BeginsRight s
  begins_right pc (Do label x first last by) t f = let p = do_parts first last by f in (scalar_named Integer x t.0, param_right last t.2 p.1, step_right by t.3 p.2)
  begins_right pc (Assign left right) t f = tt
  begins_right pc (GoTo label) t f = tt
  begins_right pc (Computed labels x) t f = tt
  begins_right pc (ArithIf e l m n) t f = tt
  begins_right pc (LogicalIf' e shape (carried s)) t f = tt
  begins_right pc Continue t f = tt
  begins_right pc (Call g args) t f = tt
  begins_right pc Return t f = tt
  begins_right pc (BlockIf e) t f = tt
  begins_right pc (ElseIf e) t f = tt
  begins_right pc Else t f = tt
  begins_right pc EndIf t f = tt
  begins_right pc (Subroutine g dummies) t f = tt
  begins_right pc (Function sort g dummies) t f = tt
  begins_right pc (Declare sort items) t f = tt
  begins_right pc (Dimension items) t f = tt
  begins_right pc (Common groups) t f = tt
  begins_right pc End t f = tt

  only_one : (e : Expr) → NumbersFit (parts e ++ []) → NumbersFit (parts e)
  only_one e h = tests_front has_right_numbers (parts e) [] h

  module _ (loops : (pc : ℕ) → AreLoopsRight u (loops_at u pc)) where
    right_stmt : (pc : ℕ) (s : Stmt) → IsTypedStatement u IsReference IsCall pc s → has_right_form s ≡ true → NumbersFit (all_parts s) → HasFewLabels s → IsStmtRight u pc s
    right_stmt pc (Assign left right) t f h few = (
      left_right t.0 left t.1 (tests_front has_right_numbers (parts left) (parts right ++ []) h),
      right_expr t.0 right t.2 (only_one right (tests_back has_right_numbers (parts left) (parts right ++ []) h)),
      loops pc,
    )
    right_stmt pc (GoTo label) t f h few = tt
    right_stmt pc (Computed labels x) t f h few = (scalar_named Integer x t.0, few, loops pc)
    right_stmt pc (ArithIf e l m n) t f h few = right_expr Integer e t (only_one e h)
    right_stmt pc (LogicalIf' e shape (carried s)) t f h few = (
      right_expr Logical e t.0 (tests_front has_right_numbers (parts e) (all_parts s) h),
      loops pc,
      right_stmt pc s t.3 (both_parts (is_carried s) (has_right_form s) f).1 (tests_back has_right_numbers (parts e) (all_parts s) h) few,
    )
    right_stmt pc (Do label x first last by) t f h few =
        let p = do_parts first last by f in
        (scalar_named Integer x t.0, param_right first t.1 p.0, param_right last t.2 p.1, step_right by t.3 p.2, some_right pc (loops_at u (target u.lines label)) (loops (target u.lines label)))
    right_stmt pc Continue t f h few = loops pc
    right_stmt pc (Call g args) t f h few = (right_actuals (row_of args) t.1 (subst NumbersFit (sym (row_parts args)) h), loops pc)
    right_stmt pc Return t f h few = tt
    right_stmt pc (BlockIf e) t f h few = right_expr Logical e t (only_one e h)
    right_stmt pc (ElseIf e) t f h few = right_expr Logical e t (only_one e h)
    right_stmt pc Else t f h few = loops pc
    right_stmt pc EndIf t f h few = loops pc
    right_stmt pc (Subroutine g dummies) t f h few = tt
    right_stmt pc (Function sort g dummies) t f h few = tt
    right_stmt pc (Declare sort items) t f h few = tt
    right_stmt pc (Dimension items) t f h few = tt
    right_stmt pc (Common groups) t f h few = tt
    right_stmt pc End t f h few = tt

-- ---- the statements of a unit

record IsFitIn (s : Stmt) : Type 0 where
  form : has_right_form s ≡ true
  numbers : list_all has_right_numbers (all_parts s) ≡ true

fit_in : (dialect : Dialect) (u : Routine) → IsWellFormedUnit dialect u → (line : Line) → IsAmong line u.lines → IsFitIn line.stmt
fit_in dialect u w line m =
    let all = all_among (λ line. is_right_statement dialect u line.stmt) u.lines line w.statements m in
    let typed = split _ _ (split _ _ all).0 in
    let uses = split _ _ typed.0 in
    let numbers = split _ _ uses.0 in
    let form = split _ _ numbers.0 in
    record { form = form.1; numbers = numbers.1 }

pub lines_right : (dialect : Dialect) (p : Program) (i : ℕ) (u : Routine) → slice_get p.units i ≡ Some u → IsWellFormedUnit dialect u → KeepsRules p → IsUnitRight u
    → (pc : ℕ) (line : Line) → slice_get u.lines pc ≡ Some line → HasFewLabels line.stmt → IsStmtRight u pc line.stmt
lines_right dialect p i u is w keeps r pc line at few =
    right_stmt u r (IsReferenceTo p i u) (IsCallTo p i u) loops pc line.stmt (statements_are_typed dialect p i u is w keeps pc line at) here.form here.numbers few
  where
    here : IsFitIn line.stmt
    here = fit_in dialect u w line (pc, at)

    begun : (l : Line) → IsAmong l u.lines → BeginsRight u r (IsReferenceTo p i u) (IsCallTo p i u) l.stmt
    begun l m = begins_right u r (IsReferenceTo p i u) (IsCallTo p i u) m.0 l.stmt (statements_are_typed dialect p i u is w keeps m.0 l m.1) (fit_in dialect u w l m).form

    loops : (q : ℕ) → AreLoopsRight u (loops_at u q)
    loops q = loops_right u r (IsReferenceTo p i u) (IsCallTo p i u) u.lines q 0 u.lines [] begun tt
