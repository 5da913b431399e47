-- The pushed instructions of a statement stand for its code.
use Rattle.std.proofs.Common.{◌≡◌, ℕ, suc, ◌+◌, Bool, true, false, List, [], ◌∷◌, ◌++◌, map, take, drop, length, refl, sym, ap, ◌∙◌, arith}
use Rattle.std.specs.Prelude.{Option, Some, None, get_or}
use Rattle.std.proofs.lemmas.List.{map-append, get_or-drop}
use Rattle.fort_syntax.specs.TreePatterns.{carried, row_of}
use Rattle.fort_syntax.specs.declared.expr.Expr.{Expr}
use Rattle.fort_syntax.specs.declared.name.Name.{Name}
use Rattle.fort_syntax.specs.declared.stmt.Param.{Param}
use Rattle.fort_syntax.specs.declared.stmt.Param.TheVariants.{Fixed, Named}
use Rattle.fort_syntax.specs.declared.stmt.Stmt.{Stmt}
use Rattle.fort_syntax.specs.declared.stmt.Stmt.TheVariants.{Assign, GoTo, Computed, ArithIf, LogicalIf', Do, Continue, Call, Return, BlockIf, ElseIf, Else, EndIf}
use Rattle.fort_syntax.specs.declared.unit.Unit.{Unit as Routine}
use Rattle.fort_model.specs.Calls.{sites_in}
use Rattle.fort_model.specs.Flow.{target, next_branch, next_point}
use Rattle.fort_model.specs.Sites.{calls_in}
use Rattle.run_code.specs.Code as code
use Rattle.run_shapes.specs.Coded.{AreSlotsOf}
use Rattle.run_shapes.specs.Seen.{refer_by, seen}
use Rattle.run_shapes.specs.declared.instr.Instr.{Instr}
use Rattle.run_shapes.specs.declared.instr.Instr.TheVariants as instr
use Rattle.run_shapes.specs.declared.slots.Slots.{Slots}
use Rattle.run_shapes.specs.declared.tests.Test.{Test}
use Rattle.run_shapes.specs.declared.unit_code.CallCode.{CallCode}
use Rattle.run_coding.specs.Meanings.{IsHere}
use Rattle.run_coding.specs.Pushed.{actuals_listed, actuals_pushed, pushed, slot_in}
use Rattle.run_coding.proofs.Meant.{actuals_meant, long, pushed_is_code}
use Rattle.run_coding.proofs.Slots.{named}
use Rattle.run_lines.specs.Stated.{ParamHere, StepHere, StmtHere, StmtPushedIsCode, aims, param_pushed, step_pushed, stmt_pushed}

-- ---- targets

taken_all : (xs more : List ℕ) (n : ℕ) → length xs ≡ n → take n (xs ++ more) ≡ xs
taken_all xs more n h = ap (λ n. take n (xs ++ more)) (sym h) ∙ whole xs
  where
    whole : (xs : List ℕ) → take (length xs) (xs ++ more) ≡ xs
    whole [] = refl
    whole (x ∷ xs) = ap (λ ys. x ∷ ys) (whole xs)

map_long : (f : ℕ → ℕ) (xs : List ℕ) → length (map f xs) ≡ length xs
map_long f [] = refl
map_long f (x ∷ xs) = ap suc (map_long f xs)

and_none : (n : ℕ) → n ≡ n + 0
and_none n = omega arith

-- what stands at a place is what stands there behind those before it
at_place : (targets rest : List ℕ) (place i : ℕ) → drop place targets ≡ rest → get_or targets (place + i) 0 ≡ get_or rest i 0
at_place targets rest place i h = sym (get_or-drop place targets i 0) ∙ ap (λ xs. get_or xs i 0) h

listed_row : (u : Routine) (names : List Name) (k : ℕ) (es : List Expr) → actuals_listed u names k es ≡ actuals_pushed u names k (row_of es)
listed_row u names k [] = refl
listed_row u names k (e ∷ es) = ap (λ is. pushed u names false k e ++ is) (listed_row u names (k + length (sites_in u e)) es)

-- ---- the law

module _ (u : Routine) (units : List Routine) (slots : Slots) (tests : List Test) (calls : List CallCode) (targets : List ℕ) (ours : AreSlotsOf u slots) where
  abbrev saw : List Instr → List code.Instr
  saw xs = map (seen slots tests calls targets) xs

  expr_then : (reads : Bool) (k : ℕ) (e : Expr) (ys : List Instr) (is : List code.Instr) → IsHere u units slots.names calls k e → saw ys ≡ is
      → saw (pushed u slots.names reads k e ++ ys) ≡ code.code u units reads k e is
  expr_then reads k e ys is h rest =
      map-append (seen slots tests calls targets) (pushed u slots.names reads k e) ys
      ∙ ap (λ js. saw (pushed u slots.names reads k e) ++ js) rest
      ∙ pushed_is_code u units slots tests calls targets reads k e is ours h

  param_then : (p : Param) (ys : List Instr) (is : List code.Instr) → ParamHere slots.names p → saw ys ≡ is
      → saw (param_pushed slots.names p ∷ ys) ≡ code.param_code p is
  param_then (Fixed c) ys is h rest = ap (λ js. code.number c ∷ js) rest
  param_then (Named x) ys is h rest = λ i. code.load (named slots.names x h i) ∷ rest i

  step_then : (p : Option Param) (ys : List Instr) (is : List code.Instr) → StepHere slots.names p → saw ys ≡ is
      → saw (step_pushed slots.names p ∷ ys) ≡ code.step_code p is
  step_then None ys is h rest = ap (λ js. code.one ∷ js) rest
  step_then (Some m) ys is h rest = param_then m ys is h rest

  module _ (behind over : Instr) (card pc place : ℕ) (on : seen slots tests calls targets behind ≡ code.behind_code u card pc) where
    gone_on : saw (behind ∷ []) ≡ code.behind_code u card pc ∷ []
    gone_on = ap (λ c. c ∷ []) on

    stood : (k : ℕ) (s : Stmt) (more : List ℕ) → drop place targets ≡ aims u s ++ more
        → StmtHere u units slots.names calls (seen slots tests calls targets over) pc k s
        → saw (stmt_pushed u slots.names behind over pc place k s) ≡ code.stmt_code u units card pc k s
    stood k (Assign l r) more aimed h =
        ap (λ n. saw (pushed u slots.names true (k + n) r ++ (pushed u slots.names false k l ++ (instr.Assigned ∷ behind ∷ [])))) (long u l)
        ∙ expr_then true (k + calls_in u l) r (pushed u slots.names false k l ++ (instr.Assigned ∷ behind ∷ [])) _ h.1
        (expr_then false k l (instr.Assigned ∷ behind ∷ []) _ h.0 (ap (λ c. code.assigned ∷ c ∷ []) on))
    stood k (GoTo label) more aimed h = refl
    stood k (Computed labels x) more aimed h =
        λ i. code.load (named slots.names x h i)
        ∷ code.choose ((ap (take (length labels)) aimed ∙ taken_all (map (target u.lines) labels) more (length labels) (map_long (target u.lines) labels)) i)
        ∷ on i ∷ []
    stood k (ArithIf e l m n) more aimed h =
        expr_then true k e (instr.Signs place ∷ []) _ h
        (λ i. code.signs ((ap (λ j. get_or targets j 0) (and_none place) ∙ at_place targets _ place 0 aimed) i) (at_place targets _ place 1 aimed i) (at_place targets _ place 2 aimed i) ∷ [])
    stood k (LogicalIf' e _ (carried b)) more aimed h =
        expr_then true k e (instr.Turn ∷ behind ∷ stmt_pushed u slots.names behind over pc place (k + length (sites_in u e)) b) _ h.0
        (λ i. code.turn ∷ on i ∷ (ap (λ n. saw (stmt_pushed u slots.names behind over pc place (k + n) b)) (long u e) ∙ stood (k + calls_in u e) b more aimed h.1) i)
    stood k (Do label x first last by) more aimed h =
        let begun = instr.BeginDo (slot_in slots.names x) (suc pc) ∷ over ∷ [] in
        param_then first (param_pushed slots.names last ∷ step_pushed slots.names by ∷ begun) _ h.1
        (param_then last (step_pushed slots.names by ∷ begun) _ h.2 (step_then by begun _ h.3 (λ i. code.begin_do (named slots.names x h.0 i) (suc pc) ∷ h.4 i ∷ [])))
    stood k Continue more aimed h = gone_on
    stood k (Call f args) more aimed h =
        map-append (seen slots tests calls targets) (actuals_listed u slots.names (suc k) args) (instr.Refer k ∷ instr.Forget ∷ behind ∷ [])
        ∙ (λ i. saw (listed_row u slots.names (suc k) args i) ++ (refer_by (h.0 i) ∷ code.forget ∷ on i ∷ []))
        ∙ actuals_meant u units slots tests calls targets ours (suc k) (row_of args) _ h.1
    stood k Return more aimed h = refl
    stood k (BlockIf e) more aimed h = expr_then true k e (instr.Ways (next_point u pc) (next_branch u pc) ∷ []) _ h refl
    stood k (ElseIf e) more aimed h = expr_then true k e (instr.Ways (next_point u pc) (next_branch u pc) ∷ []) _ h refl
    stood k Else more aimed h = gone_on
    stood k EndIf more aimed h = gone_on
    stood k _ more aimed h = refl

pub stmt_pushed_is_code : StmtPushedIsCode
stmt_pushed_is_code u units slots tests calls targets behind over card pc place k s more ours on aimed here =
    stood u units slots tests calls targets ours behind over card pc place on k s more aimed here
