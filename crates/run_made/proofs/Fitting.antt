-- No slot in the instructions of statements is out of range.
use Rattle.std.proofs.Common.{◌≡◌, ℕ, suc, ◌+◌, Bool, true, false, cond, List, [], ◌∷◌, ◌++◌, length, Option, Some, None, slice_get, refl, sym, ap, ◌∙◌, subst, arith}
use mathlib.Core.Former.{Count}
use Rattle.formula.specs.Atoms.{is_among}
use Rattle.fort_syntax.specs.Names.{Applied, Element, BuiltIn, Reference, applied}
use Rattle.fort_syntax.specs.TreePatterns.{only, carried, row_of}
use Rattle.fort_syntax.specs.declared.expr.Expr.{Expr, Row_of-Expr, end_of-Expr, more_of-Expr}
use Rattle.fort_syntax.specs.declared.expr.Expr.TheVariants.{Const, Truth, Var, Apply', Paren', Pos', Neg', Power', Bin', Rel', Not', And', Or'}
use Rattle.fort_syntax.specs.declared.name.Name.{Name}
use Rattle.fort_syntax.specs.declared.stmt.Param.{Param}
use Rattle.fort_syntax.specs.declared.stmt.Param.TheVariants.{Fixed, Named}
use Rattle.fort_syntax.specs.declared.stmt.Stmt.{Stmt}
use Rattle.fort_syntax.specs.declared.stmt.Stmt.TheVariants.{Subroutine, Function, Declare, Dimension, Common as CommonBlock, Assign, GoTo, Computed, ArithIf, LogicalIf', Do, Continue, Call, Return, End, BlockIf, ElseIf, Else, EndIf}
use Rattle.fort_syntax.specs.declared.unit.Line.{Line}
use Rattle.fort_syntax.specs.declared.unit.Unit.{Unit as Routine}
use Rattle.fort_model.specs.Calls.{sites_in, sites_of}
use Rattle.fort_model.specs.Flow.{next_branch, next_point}
use Rattle.fort_model.specs.Sites.{calls_before, calls_in, own_call}
use Rattle.run_code.specs.Code as code
use Rattle.run_shapes.specs.Coded.{InstrHasSlots}
use Rattle.run_shapes.specs.Seen.{seen}
use Rattle.run_shapes.specs.declared.instr.Instr.{Instr}
use Rattle.run_shapes.specs.declared.instr.Instr.TheVariants as instr
use Rattle.run_shapes.specs.declared.tests.Test.{Test}
use Rattle.run_shapes.specs.declared.tests.Test.TheVariants as test
use Rattle.run_shapes.specs.declared.unit_code.CallCode.{CallCode}
use Rattle.run_shapes.specs.declared.unit_code.UnitCode.{UnitCode}
use Rattle.run_coding.specs.Meanings.{AppliedHere, AreHere, IsHere}
use Rattle.run_coding.specs.Pushed.{actuals_listed, actuals_pushed, applied_pushed, closing, name_pushed, pushed, values_pushed}
use Rattle.run_coding.proofs.Meant.{long}
use Rattle.run_doing.specs.declared.table.TestTable.{TestTable}
use Rattle.run_doing.proofs.Each.{Each, each_at, each_both}
use Rattle.run_doing.proofs.Told.{slot_within}
use Rattle.run_known.proofs.Placed.{stmt_long}
use Rattle.run_lines.specs.Stated.{ParamHere, StepHere, StmtHere, param_pushed, step_pushed, stmt_pushed}
use Rattle.run_made.specs.Laws.{HasLines, LinesHaveSlots}
use Rattle.run_made.specs.Lined.{line_pushed, lines_pushed}
use Rattle.run_made.specs.Made.{behind_at, behind_by, over_at}
use Rattle.run_lines.specs.Stated.{aims}
use Rattle.run_made.proofs.Behind.{over_seen}
use Rattle.run_made.proofs.Standing.{calls_more}

actuals_items : (u : Routine) (names : List Name) (k : ℕ) (es : List Expr) → actuals_listed u names k es ≡ actuals_pushed u names k (row_of es)
actuals_items u names k [] = refl
actuals_items u names k (e ∷ es) = ap (λ is. pushed u names false k e ++ is) (actuals_items u names (k + length (sites_in u e)) es)

module _ (u : Routine) (units : List Routine) (names : List Name) (calls : List CallCode) where
  abbrev pub Fits : List Instr → Type 0
  Fits is = Each (InstrHasSlots (length names)) is

  both : (xs ys : List Instr) → Fits xs → Fits ys → Fits (xs ++ ys)
  both xs ys h k = each_both (InstrHasSlots (length names)) xs ys h k

  name_fits : (reads : Bool) (x : Name) → is_among x names ≡ true → InstrHasSlots (length names) (name_pushed names reads x)
  name_fits true x h = slot_within names x h
  name_fits false x h = slot_within names x h

  read_fits : (reads : Bool) → Fits (cond reads (instr.Value ∷ []) [])
  read_fits true = (tt, tt)
  read_fits false = tt

  applied_fits : (reads : Bool) (k : ℕ) (f : Name) (a : Applied) (n : ℕ) (vs ws : List Instr) → AppliedHere units names calls k f a n → (a ≡ Reference → Fits ws)
      → (own_call a ≡ 0 → Fits vs) → Fits (applied_pushed names reads k f a n vs ws)
  applied_fits reads k f (Element dims) n vs ws h actuals values =
      both vs (closing names reads f (Element dims) n) (values refl) (slot_within names f h, read_fits reads)
  applied_fits reads k f (BuiltIn i) n vs ws h actuals values = both vs (closing names reads f (BuiltIn i) n) (values refl) (tt, tt)
  applied_fits reads k f Reference n vs ws h actuals values = both ws (instr.Refer k ∷ []) (actuals refl) (tt, tt)

  and_one : (k : ℕ) → k + 1 ≡ suc k
  and_one k = omega arith

  and_none : (k : ℕ) → k + 0 ≡ k
  and_none k = omega arith

  mutual
    fits : (reads : Bool) (k : ℕ) (e : Expr) → IsHere u units names calls k e → Fits (pushed u names reads k e)
    fits reads k (Const c) h = (tt, tt)
    fits reads k (Truth b) h = (tt, tt)
    fits reads k (Var x) h = (name_fits reads x h, tt)
    fits reads k (Apply' f _ args) h =
        applied_fits reads k f (applied u f) (code.count args) (values_pushed u names k args) (actuals_pushed u names (suc k) args) h.0
        (λ is_call. actuals_fit (suc k) args (subst (λ j. AreHere u units names calls j args) (ap (λ a. k + own_call a) is_call ∙ and_one k) h.1))
        (λ is_none. values_fit k args (subst (λ j. AreHere u units names calls j args) (ap (λ c. k + c) is_none ∙ and_none k) h.1))
    fits reads k (Paren' _ (only a)) h = fits true k a h
    fits reads k (Pos' _ (only a)) h = fits true k a h
    fits reads k (Neg' _ (only a)) h = both (pushed u names true k a) (instr.Negate ∷ []) (fits true k a h) (tt, tt)
    fits reads k (Power' _ (only a) n) h = both (pushed u names true k a) (instr.Raise n ∷ []) (fits true k a h) (tt, tt)
    fits reads k (Not' _ (only a)) h = both (pushed u names true k a) (instr.Negation ∷ []) (fits true k a h) (tt, tt)
    fits reads k (Bin' o _ (only a) _ (only b)) h =
        let right = pushed u names true (k + length (sites_in u a)) b in
        both (pushed u names true k a) (right ++ instr.Operation o ∷ []) (fits true k a h.0)
        (both right (instr.Operation o ∷ []) (subst (λ n. Fits (pushed u names true (k + n) b)) (sym (long u a)) (fits true (k + calls_in u a) b h.1)) (tt, tt))
    fits reads k (Rel' o _ (only a) _ (only b)) h =
        let right = pushed u names true (k + length (sites_in u a)) b in
        both (pushed u names true k a) (right ++ instr.Comparison o ∷ []) (fits true k a h.0)
        (both right (instr.Comparison o ∷ []) (subst (λ n. Fits (pushed u names true (k + n) b)) (sym (long u a)) (fits true (k + calls_in u a) b h.1)) (tt, tt))
    fits reads k (And' _ (only a) _ (only b)) h =
        let right = pushed u names true (k + length (sites_in u a)) b in
        both (pushed u names true k a) (instr.SkipFalse (suc (length right)) ∷ (right ++ instr.Both ∷ [])) (fits true k a h.0)
        (tt, both right (instr.Both ∷ []) (subst (λ n. Fits (pushed u names true (k + n) b)) (sym (long u a)) (fits true (k + calls_in u a) b h.1)) (tt, tt))
    fits reads k (Or' _ (only a) _ (only b)) h =
        let right = pushed u names true (k + length (sites_in u a)) b in
        both (pushed u names true k a) (instr.SkipTrue (suc (length right)) ∷ (right ++ instr.Either ∷ [])) (fits true k a h.0)
        (tt, both right (instr.Either ∷ []) (subst (λ n. Fits (pushed u names true (k + n) b)) (sym (long u a)) (fits true (k + calls_in u a) b h.1)) (tt, tt))

    values_fit : (k : ℕ) {m : Count} (es : Row_of-Expr m) → AreHere u units names calls k es → Fits (values_pushed u names k es)
    values_fit k end_of-Expr h = tt
    values_fit k (more_of-Expr e es) h =
        both (pushed u names true k e) (values_pushed u names (k + length (sites_in u e)) es) (fits true k e h.0)
        (subst (λ n. Fits (values_pushed u names (k + n) es)) (sym (long u e)) (values_fit (k + calls_in u e) es h.1))

    actuals_fit : (k : ℕ) {m : Count} (es : Row_of-Expr m) → AreHere u units names calls k es → Fits (actuals_pushed u names k es)
    actuals_fit k end_of-Expr h = tt
    actuals_fit k (more_of-Expr e es) h =
        both (pushed u names false k e) (actuals_pushed u names (k + length (sites_in u e)) es) (fits false k e h.0)
        (subst (λ n. Fits (actuals_pushed u names (k + n) es)) (sym (long u e)) (actuals_fit (k + calls_in u e) es h.1))

  -- ---- statements

  param_fits : (p : Param) → ParamHere names p → InstrHasSlots (length names) (param_pushed names p)
  param_fits (Fixed n) h = tt
  param_fits (Named x) h = slot_within names x h

  step_fits : (p : Option Param) → StepHere names p → InstrHasSlots (length names) (step_pushed names p)
  step_fits None h = tt
  step_fits (Some m) h = param_fits m h

  module _ (behind over : Instr) (behind_fits : InstrHasSlots (length names) behind) (over_fits : InstrHasSlots (length names) over) (seen_over : code.Instr) (pc place : ℕ) where
    stmt_fits : (k : ℕ) (s : Stmt) → StmtHere u units names calls seen_over pc k s → Fits (stmt_pushed u names behind over pc place k s)
    stmt_fits k (Assign l r) h =
        both (pushed u names true (k + length (sites_in u l)) r) (pushed u names false k l ++ (instr.Assigned ∷ behind ∷ []))
        (subst (λ n. Fits (pushed u names true (k + n) r)) (sym (long u l)) (fits true (k + calls_in u l) r h.1))
        (both (pushed u names false k l) (instr.Assigned ∷ behind ∷ []) (fits false k l h.0) (tt, (behind_fits, tt)))
    stmt_fits k (GoTo label) h = (tt, tt)
    stmt_fits k (Computed labels x) h = (slot_within names x h, (tt, (behind_fits, tt)))
    stmt_fits k (ArithIf e l m n) h = both (pushed u names true k e) (instr.Signs place ∷ []) (fits true k e h) (tt, tt)
    stmt_fits k (LogicalIf' e _ (carried b)) h =
        both (pushed u names true k e) (instr.Turn ∷ behind ∷ stmt_pushed u names behind over pc place (k + length (sites_in u e)) b) (fits true k e h.0)
        (tt, (behind_fits, subst (λ n. Fits (stmt_pushed u names behind over pc place (k + n) b)) (sym (long u e)) (stmt_fits (k + calls_in u e) b h.1)))
    stmt_fits k (Do label x first last by) h = (param_fits first h.1, (param_fits last h.2, (step_fits by h.3, (slot_within names x h.0, (over_fits, tt)))))
    stmt_fits k Continue h = (behind_fits, tt)
    stmt_fits k (Call f args) h =
        both (actuals_listed u names (suc k) args) (instr.Refer k ∷ instr.Forget ∷ behind ∷ [])
        (subst Fits (sym (actuals_items u names (suc k) args)) (actuals_fit (suc k) (row_of args) h.1)) (tt, (tt, (behind_fits, tt)))
    stmt_fits k Return h = (tt, (tt, tt))
    stmt_fits k (BlockIf e) h = both (pushed u names true k e) (instr.Ways (next_point u pc) (next_branch u pc) ∷ []) (fits true k e h) (tt, tt)
    stmt_fits k (ElseIf e) h = both (pushed u names true k e) (instr.Ways (next_point u pc) (next_branch u pc) ∷ []) (fits true k e h) (tt, tt)
    stmt_fits k Else h = (behind_fits, tt)
    stmt_fits k EndIf h = (behind_fits, tt)
    stmt_fits k (Subroutine f xs) h = (tt, tt)
    stmt_fits k (Function o f xs) h = (tt, tt)
    stmt_fits k (Declare o xs) h = (tt, tt)
    stmt_fits k (Dimension xs) h = (tt, tt)
    stmt_fits k (CommonBlock xs) h = (tt, tt)
    stmt_fits k End h = (tt, tt)

-- ---- the instructions behind statements name no slot

module _ (u : Routine) (count : ℕ) (table : TestTable) where
  behind_by_fits : (card place : ℕ) (o : Option Test) → InstrHasSlots count (behind_by card place o)
  behind_by_fits card place None = tt
  behind_by_fits card place (Some (test.Loop round)) = tt
  behind_by_fits card place (Some (test.Out point)) = tt

  behind_fits : (card pc : ℕ) → InstrHasSlots count (behind_at table card pc)
  behind_fits card pc = behind_by_fits card _ _

  over_fits : (pc : ℕ) (s : Stmt) → InstrHasSlots count (over_at u table pc s)
  over_fits pc (Do label x first last by) = tt
  over_fits pc (Assign l r) = tt
  over_fits pc (GoTo label) = tt
  over_fits pc (Computed labels x) = tt
  over_fits pc (ArithIf e l m n) = tt
  over_fits pc (LogicalIf' e _ b) = tt
  over_fits pc Continue = tt
  over_fits pc (Call f args) = tt
  over_fits pc Return = tt
  over_fits pc (BlockIf e) = tt
  over_fits pc (ElseIf e) = tt
  over_fits pc Else = tt
  over_fits pc EndIf = tt
  over_fits pc (Subroutine f xs) = tt
  over_fits pc (Function o f xs) = tt
  over_fits pc (Declare o xs) = tt
  over_fits pc (Dimension xs) = tt
  over_fits pc (CommonBlock xs) = tt
  over_fits pc End = tt

module _ (u : Routine) (units : List Routine) (table : TestTable) (unit : UnitCode) (h : HasLines u units table unit) where
  abbrev Whole : List Instr → Type 0
  Whole is = Each (InstrHasSlots (length unit.slots.names)) is

  one_fits : (pc place k : ℕ) (line : Line) → slice_get u.lines pc ≡ Some line → k ≡ calls_before u pc → Whole (line_pushed u unit.slots.names table pc place k line)
  one_fits pc place k line there count =
      let behind = behind_at table line.card pc in
      let over = over_at u table pc line.stmt in
      let saw = seen unit.slots table.tests.items unit.calls unit.targets over in
      subst (λ n. Whole (line_pushed u unit.slots.names table pc place n line)) (sym count)
      (stmt_fits u units unit.slots.names unit.calls behind over (behind_fits u (length unit.slots.names) table line.card pc) (over_fits u (length unit.slots.names) table pc line.stmt)
      saw pc place (calls_before u pc) line.stmt
      (h.here pc line saw there (over_seen u unit.slots table unit.calls unit.targets h.told pc line there)))

  none_more : (n : ℕ) → n ≡ n + 0
  none_more n = omega arith

  and_next : (pc j : ℕ) → suc pc + j ≡ pc + suc j
  and_next pc j = omega arith

  all_fit : (lines : List Line) (pc place k : ℕ) → ((i : ℕ) → slice_get u.lines (pc + i) ≡ slice_get lines i) → k ≡ calls_before u pc
      → Whole (lines_pushed u unit.slots.names table pc place k lines)
  all_fit [] pc place k at count = tt
  all_fit (x ∷ lines) pc place k at count =
      let first : slice_get u.lines pc ≡ Some x = ap (slice_get u.lines) (none_more pc) ∙ at 0 in
      each_both (InstrHasSlots (length unit.slots.names)) (line_pushed u unit.slots.names table pc place k x)
      (lines_pushed u unit.slots.names table (suc pc) (place + length (aims u x.stmt)) (k + length (sites_of u x.stmt)) lines)
      (one_fits pc place k x first count)
      (all_fit lines (suc pc) (place + length (aims u x.stmt)) (k + length (sites_of u x.stmt)) (λ i. ap (slice_get u.lines) (and_next pc i) ∙ at (suc i))
      ((λ i. count i + stmt_long u x.stmt i) ∙ sym (calls_more u u.lines pc x first)))

  none_and : (n : ℕ) → 0 + n ≡ n
  none_and n = omega arith

  pub instr_fits : (i : ℕ) (c : Instr) → slice_get unit.instrs i ≡ Some c → InstrHasSlots (length unit.slots.names) c
  instr_fits i c e =
      each_at (InstrHasSlots (length unit.slots.names)) (lines_pushed u unit.slots.names table 0 0 0 u.lines) i c
      (all_fit u.lines 0 0 0 (λ i. ap (slice_get u.lines) (none_and i)) refl) (ap (λ is. slice_get is i) (sym h.instrs) ∙ e)

pub lines_have_slots : LinesHaveSlots
lines_have_slots u units table unit i c h e = instr_fits u units table unit h i c e
