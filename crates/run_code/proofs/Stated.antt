-- What the code of a statement does is what the statement does, and where it leads.
use Rattle.std.proofs.Common.{◌≡◌, ℕ, suc, ◌+◌, ◌==◌, Bool, true, false, cond, ◌&&◌, List, [], ◌∷◌, length, Option, Some, None, refl, sym, ap, ◌∙◌, arith}
use Rattle.std.specs.Prelude.{ℤ, pos, negsuc, ◌+ℤ◌, ◌-ℤ◌, int_le, int_lt, map, slice_get}
use Rattle.formula.specs.Values as values_of
use Rattle.formula.specs.Values.{is_between}
use Rattle.formula.specs.declared.value.Cell.{Cell}
use Rattle.formula.specs.declared.value.Cell.TheVariants.{Int}
use Rattle.fort_syntax.specs.TreePatterns.{carried, row_of}
use Rattle.fort_syntax.specs.Names.{subroutine, unit_at, is_function}
use Rattle.fort_syntax.specs.declared.name.Name.{Name}
use Rattle.fort_syntax.specs.declared.condition.Kind.TheVariants.{ChoiceCheck, LoopCheck}
use Rattle.fort_syntax.specs.declared.dialect.Dialect.{Dialect}
use Rattle.fort_syntax.specs.declared.dialect.Dialect.TheVariants.{Common, SeventySeven}
use Rattle.fort_syntax.specs.declared.expr.Expr.{Expr}
use Rattle.fort_syntax.specs.declared.stmt.Param.{Param}
use Rattle.fort_syntax.specs.declared.stmt.Param.TheVariants.{Fixed, Named}
use Rattle.fort_syntax.specs.declared.stmt.Stmt.{Stmt}
use Rattle.fort_syntax.specs.declared.stmt.Stmt.TheVariants.{Assign, GoTo, Computed, ArithIf, LogicalIf', Do, Continue, Call, Return, BlockIf, ElseIf, Else, EndIf}
use Rattle.fort_model.specs.Sites.{calls_in}
use Rattle.fort_model.specs.Cells.{num, holds, same}
use Rattle.fort_model.specs.Storage.{Storage}
use Rattle.fort_model.specs.Flow.{target, next_point, next_branch, loops_at, loops_around, through, leads, leads_do, leads_computed, one_of, chosen, behind}
use Rattle.fort_model.specs.Outcome.{Act, ◌>>=◌, ◌>>◌, give, check, and_then, step}
use Rattle.fort_model.specs.Passing.{Taken, Fresh, Caller, call, passed}
use Rattle.fort_model.specs.Evaluate.{Scene, ranged, taken, actuals, evaluate}
use Rattle.fort_model.specs.Perform.{variable, step_value, parameter, tests, card_in, assign, begin, select, result, perform, sign_choice, truth_choice}
use Rattle.run_code.specs.Code.{Instr, forget, assigned, turn, signs, ways, begin_do, refer, count, code, led_to, chooses, begins, behind_code, over_code, param_code, step_code, stmt_code, under, exec, StatementsArePerformed}
use Rattle.run_code.proofs.Coded.{assoc, alike, alike_if, pushed, computed, read_on, taking, newest_all, under_all, actuals_count}

equal_all : (n : ℕ) → (n == n) ≡ true
equal_all n = grind arith

not_behind : (z : ℤ) (n : ℕ) → is_between (pos 1) (pos n) z ≡ true → (values_of.count z == suc n) ≡ false
not_behind (pos k) n e = grind arith
not_behind (negsuc k) n e = grind arith

map_long : {A B : Type 0} (f : A → B) (xs : List A) → length (map f xs) ≡ length xs
map_long f [] = refl
map_long f (x ∷ xs) = ap suc (map_long f xs)

module _ {A : Type 0} (s : Scene) (run : Caller) (card : ℕ) (next : ℕ → List Taken → Act A) where
  abbrev does : List Instr → ℕ → List Taken → Act A
  does = exec s run card next

  abbrev to : List Taken → (List ℕ → Option ℕ) → List ℕ → Act A
  to xs way cs = led_to (way cs) (λ q. next q xs)

  signed : (a b : Bool) (l m r : ℕ) (xs : List Taken) (st : Storage) (n : ℕ)
      → next (cond a l (cond b m r)) xs st n ≡ led_to (one_of (l ∷ m ∷ r ∷ []) (cond a 1 (cond b 2 3) ∷ [])) (λ q. next q xs) st n
  signed true b l m r xs st n = refl
  signed false true l m r xs st n = refl
  signed false false l m r xs st n = refl

  true_or_not : (b : Bool) (q r : ℕ) (xs : List Taken) (st : Storage) (n : ℕ) → next (cond b q r) xs st n ≡ led_to (one_of (q ∷ r ∷ []) (cond b 1 2 ∷ [])) (λ q. next q xs) st n
  true_or_not true q r xs st n = refl
  true_or_not false q r xs st n = refl

  -- the parameters of a DO
  param_on : (m : Param) (is : List Instr) (xs : List Taken) (st : Storage) (n : ℕ)
      → does (param_code m is) 0 xs st n ≡ and_then (parameter s card m st n) (λ v. does is 0 (Fresh v ∷ xs))
  param_on (Fixed c) is xs st n = refl
  param_on (Named x) is xs st n = refl

  step_on : (m : Option Param) (is : List Instr) (xs : List Taken) (st : Storage) (n : ℕ)
      → does (step_code m is) 0 xs st n ≡ and_then (step_value s card m st n) (λ v. does is 0 (Fresh v ∷ xs))
  step_on None is xs st n = refl
  step_on (Some m) is xs st n = param_on m is xs st n

  module _ (pc : ℕ) (xs : List Taken) where
    abbrev goes : ℕ → Stmt → Act A
    goes k stmt = perform s run card pc k stmt >>= to xs (leads s.processor.dialect s.unit pc stmt)

    abbrev here : ℕ → Stmt → List Instr
    here k stmt = stmt_code s.unit s.units card pc k stmt

    -- behind a statement at this point
    abbrev on : Act A
    on st n = and_then (tests s card (loops_at s.unit pc) st n) (to xs (through (next_point s.unit pc) (loops_at s.unit pc)))

    -- ---- choices

    chosen_or_behind : (qs : List ℕ) (z : ℤ) (b : Bool) → is_between (pos 1) (pos (length qs)) z ≡ b → (st : Storage) (n : ℕ)
        → cond b (led_to (chosen qs (values_of.count z)) (λ q. next q xs)) on st n
        ≡ and_then (cond b (give (values_of.count z ∷ [])) (tests s card (loops_at s.unit pc) >>= (λ cs. give (suc (length qs) ∷ cs))) st n) (to xs (leads_computed SeventySeven s.unit pc qs))
    chosen_or_behind qs z true e st n =
        ap (λ c. led_to (cond c (behind s.unit pc []) (chosen qs (values_of.count z))) (λ q. next q xs) st n) (sym (not_behind z (length qs) e))
    chosen_or_behind qs z false e st n =
        alike (tests s card (loops_at s.unit pc) st n) (to xs (through (next_point s.unit pc) (loops_at s.unit pc))) (λ cs. to xs (leads_computed SeventySeven s.unit pc qs) (suc (length qs) ∷ cs))
        (λ cs st n. ap (λ c. led_to (cond c (behind s.unit pc cs) (one_of qs (suc (length qs) ∷ cs))) (λ q. next q xs) st n) (sym (equal_all (suc (length qs)))))
        ∙ sym (assoc (tests s card (loops_at s.unit pc) st n) _ _)

    chosen_right : (d : Dialect) (qs : List ℕ) (z : ℤ) (st : Storage) (n : ℕ)
        → chooses d card qs z (λ q. next q xs) on st n ≡ and_then (select d s card pc (length qs) z st n) (to xs (leads_computed d s.unit pc qs))
    chosen_right Common qs z st n =
        alike (check ChoiceCheck card (is_between (pos 1) (pos (length qs)) z) st n) _ _ (λ _ st n. refl) ∙ sym (assoc (check ChoiceCheck card (is_between (pos 1) (pos (length qs)) z) st n) _ _)
    chosen_right SeventySeven qs z st n = chosen_or_behind qs z (is_between (pos 1) (pos (length qs)) z) refl st n

    -- ---- DO

    entered_or_over : (last : ℕ) (b : Bool) (st : Storage) (n : ℕ)
        → cond b (next (suc pc) xs) (does (over_code s.unit last pc ∷ []) 0 xs) st n
        ≡ and_then (cond b (give (1 ∷ [])) (tests s (card_in (slice_get s.unit.lines last)) (loops_around s.unit last pc) >>= (λ cs. give (2 ∷ cs))) st n) (to xs (leads_do SeventySeven s.unit last pc))
    entered_or_over last true st n = refl
    entered_or_over last false st n = sym (assoc (tests s (card_in (slice_get s.unit.lines last)) (loops_around s.unit last pc) st n) _ _)

    begun : (d : Dialect) (last : ℕ) (x : Name) (m1 m2 m3 : ℤ) (st : Storage) (n : ℕ)
        → begins d s card x m1 m2 m3 (next (suc pc) xs) (does (over_code s.unit last pc ∷ []) 0 xs) st n
        ≡ and_then (begin d s card last pc x m1 m2 m3 st n) (to xs (leads_do d s.unit last pc))
    begun Common last x m1 m2 m3 st n =
        let b = int_le (pos 1) m1 && (int_le m1 m2 && int_le (pos 1) m3) in
        alike (check LoopCheck card b st n) _ _ (λ _ st n. refl) ∙ sym (assoc (check LoopCheck card b st n) _ _)
    begun SeventySeven last x m1 m2 m3 st n =
        alike (check LoopCheck card (int_le (pos 1) m3) st n) _ _
        (λ _ st n.
        alike (ranged s.processor card (m2 -ℤ m1) st n) _ _
        (λ _ st n.
        alike (ranged s.processor card (m2 -ℤ m1 +ℤ m3) st n) _ _ (λ _ st n. entered_or_over last (int_le m1 m2) _ n)
        ∙ sym (assoc (ranged s.processor card (m2 -ℤ m1 +ℤ m3) st n) _ _))
        ∙ sym (assoc (ranged s.processor card (m2 -ℤ m1) st n) _ _))
        ∙ sym (assoc (check LoopCheck card (int_le (pos 1) m3) st n) _ _)

    -- ---- IF

    turned : (e : _) (p : _) (b : Bool) (k : ℕ) (t : Stmt) → ((st : Storage) (n : ℕ) → does (here k t) 0 xs st n ≡ goes k t st n) → (st : Storage) (n : ℕ)
        → cond b (step >> does (here k t) 0 xs) on st n
        ≡ and_then (cond b (step >> (perform s run card pc k t >>= (λ cs. give (1 ∷ cs)))) (tests s card (loops_at s.unit pc) >>= (λ cs. give (2 ∷ cs))) st n)
        (to xs (leads s.processor.dialect s.unit pc (LogicalIf' e p (carried t))))
    turned e p true k t h st n =
        alike (step st n) _ _ (λ _ st n. h st n ∙ sym (assoc (perform s run card pc k t st n) _ _)) ∙ sym (assoc (step st n) _ _)
    turned e p false k t h st n = sym (assoc (tests s card (loops_at s.unit pc) st n) _ _)

    valued_then : (e : Expr) (k : ℕ) (is : List Instr) (act : Cell → Act (List ℕ)) (way : List ℕ → Option ℕ)
        → ((v : Cell) (st : Storage) (n : ℕ) → does is 0 (Fresh v ∷ xs) st n ≡ and_then (act v st n) (to xs way)) → (st : Storage) (n : ℕ)
        → does (code s.unit s.units true k e is) 0 xs st n ≡ and_then (and_then (evaluate s run card k e st n) act) (to xs way)
    valued_then e k is act way h st n = read_on s run card next k e is xs st n ∙ alike (evaluate s run card k e st n) _ _ h ∙ sym (assoc (evaluate s run card k e st n) _ _)

    -- ---- CALL

    abbrev called : ℕ → Option ℕ → List Taken → Act Cell
    called k callee ys = call run s.environment (unit_at s.units callee) (passed (s.processor.copies s.unit.name k) 1 ys)

    call_on : (k : ℕ) (callee : Option ℕ) (m : ℕ) (ys : List Taken) → length ys ≡ m → (st : Storage) (n : ℕ)
        → does (refer k callee m ∷ forget ∷ behind_code s.unit card pc ∷ []) 0 (pushed ys xs) st n ≡ and_then (called k callee ys st n) (λ _. on)
    call_on k callee m ys long st n =
        ap (λ j. does (refer k callee j ∷ forget ∷ behind_code s.unit card pc ∷ []) 0 (pushed ys xs) st n) (sym long)
        ∙ ap (λ zs. and_then (called k callee zs st n) (λ _. does (behind_code s.unit card pc ∷ []) 0 (under (length ys) (pushed ys xs)))) (newest_all s run card next ys xs)
        ∙ alike (called k callee ys st n) _ _ (λ _ st n. ap (λ zs. does (behind_code s.unit card pc ∷ []) 0 zs st n) (under_all s run card next ys xs))

    -- ---- statements

    pub stated : (k : ℕ) (stmt : Stmt) (st : Storage) (n : ℕ) → does (here k stmt) 0 xs st n ≡ goes k stmt st n
    stated k (Assign l r) st n =
        let kr = k + calls_in s.unit l in
        read_on s run card next kr r (code s.unit s.units false k l (assigned ∷ behind_code s.unit card pc ∷ [])) xs st n
        ∙ alike (evaluate s run card kr r st n) _ _
        (λ c st n.
        computed s run card next false k l (assigned ∷ behind_code s.unit card pc ∷ []) (Fresh c ∷ xs) st n
        ∙ alike (taken s run card k l st n) _ _ (λ x st n. sym (assoc (assign x c st n) _ _))
        ∙ sym (assoc (taken s run card k l st n) _ _))
        ∙ sym (assoc (evaluate s run card kr r st n) _ _)
    stated k (GoTo label) st n = refl
    stated k (Computed labels x) st n =
        let qs = map (target s.unit.lines) labels in
        alike (variable s card x st n) _ _
        (λ i st n.
        chosen_right s.processor.dialect qs (num i) st n
        ∙ ap (λ m. and_then (select s.processor.dialect s card pc m (num i) st n) (to xs (leads_computed s.processor.dialect s.unit pc qs))) (map_long (target s.unit.lines) labels))
        ∙ sym (assoc (variable s card x st n) _ _)
    stated k (ArithIf e l m r) st n =
        valued_then e k (signs (target s.unit.lines l) (target s.unit.lines m) (target s.unit.lines r) ∷ []) (λ v. give (sign_choice v ∷ [])) (leads s.processor.dialect s.unit pc (ArithIf e l m r))
        (λ v st n. signed (int_lt (num v) (pos 0)) (same v (Int (pos 0))) (target s.unit.lines l) (target s.unit.lines m) (target s.unit.lines r) xs st n) st n
    stated k (LogicalIf' e p (carried b)) st n =
        let kb = k + calls_in s.unit e in
        valued_then e k (turn ∷ behind_code s.unit card pc ∷ here kb b)
        (λ v. cond (holds v) (step >> (perform s run card pc kb b >>= (λ cs. give (1 ∷ cs)))) (tests s card (loops_at s.unit pc) >>= (λ cs. give (2 ∷ cs))))
        (leads s.processor.dialect s.unit pc (LogicalIf' e p (carried b)))
        (λ v st n. turned e p (holds v) kb b (stated kb b) st n) st n
    stated k (Do label x first last by) st n =
        let is = begin_do x (suc pc) ∷ over_code s.unit (target s.unit.lines label) pc ∷ [] in
        param_on first (param_code last (step_code by is)) xs st n
        ∙ alike (parameter s card first st n) _ _
        (λ m1 st n.
        param_on last (step_code by is) (Fresh m1 ∷ xs) st n
        ∙ alike (parameter s card last st n) _ _
        (λ m2 st n.
        step_on by is (Fresh m2 ∷ Fresh m1 ∷ xs) st n
        ∙ alike (step_value s card by st n) _ _ (λ m3 st n. begun s.processor.dialect (target s.unit.lines label) x (num m1) (num m2) (num m3) st n)
        ∙ sym (assoc (step_value s card by st n) _ _))
        ∙ sym (assoc (parameter s card last st n) _ _))
        ∙ sym (assoc (parameter s card first st n) _ _)
    stated k Continue st n = refl
    stated k (Call f args) st n =
        taking s run card next (suc k) (row_of args) (refer (suc k) (subroutine s.units f) (count (row_of args)) ∷ forget ∷ behind_code s.unit card pc ∷ []) xs st n
        ∙ alike_if _ (actuals s run card (suc k) (row_of args) st n) (actuals_count s run card next (suc k) (row_of args) st n) _ _
        (λ ys long st n. call_on (suc k) (subroutine s.units f) (count (row_of args)) ys long st n)
        ∙ sym (assoc (actuals s run card (suc k) (row_of args) st n) (called (suc k) (subroutine s.units f)) _)
        ∙ sym (assoc (and_then (actuals s run card (suc k) (row_of args) st n) (called (suc k) (subroutine s.units f))) _ _)
    stated k Return st n = sym (assoc (result s card (is_function s.unit) st n) _ _)
    stated k (BlockIf e) st n =
        valued_then e k (ways (next_point s.unit pc) (next_branch s.unit pc) ∷ []) (λ v. give (truth_choice (holds v) ∷ [])) (leads s.processor.dialect s.unit pc (BlockIf e))
        (λ v st n. true_or_not (holds v) (next_point s.unit pc) (next_branch s.unit pc) xs st n) st n
    stated k (ElseIf e) st n =
        valued_then e k (ways (next_point s.unit pc) (next_branch s.unit pc) ∷ []) (λ v. give (truth_choice (holds v) ∷ [])) (leads s.processor.dialect s.unit pc (ElseIf e))
        (λ v st n. true_or_not (holds v) (next_point s.unit pc) (next_branch s.unit pc) xs st n) st n
    stated k Else st n = refl
    stated k EndIf st n = refl
    stated k _ st n = refl

pub performed : {A : Type 0} (s : Scene) (run : Caller) (card : ℕ) (next : ℕ → List Taken → Act A) (pc k : ℕ) (stmt : Stmt) (xs : List Taken) (st : Storage) (n : ℕ)
    → exec s run card next (stmt_code s.unit s.units card pc k stmt) 0 xs st n
    ≡ (perform s run card pc k stmt >>= (λ choices. led_to (leads s.processor.dialect s.unit pc stmt choices) (λ q. next q xs))) st n
performed s run card next pc k stmt xs st n = stated s run card next pc xs k stmt st n

pub statements_are_performed : StatementsArePerformed
statements_are_performed s run card pc k next stmt xs st n = performed s run card next pc k stmt xs st n
