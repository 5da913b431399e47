-- Statements: where named values stand for cells, a walk and a strict run perform them alike, by choices that lead on; or the
-- first check of the walk that is false is the error of the run.
use Rattle.std.proofs.Common.{◌≡◌, ℕ, zero, suc, ◌+◌, ◌<◌, Bool, true, false, cond, not, ◌&&◌, ℤ, pos, negsuc, ◌+ℤ◌, ◌-ℤ◌, List, [], ◌∷◌, map, length, Option, Some, slice_get, refl, sym, ap, ◌∙◌, subst, arith, rules}
use Rattle.std.proofs.lemmas.Int.{ints}
use Rattle.std.specs.Prelude.{int_le, int_lt, ◌==◌}
use Rattle.fort_syntax.specs.Names.{Applied, is_function, subroutine, unit_at}
use Rattle.fort_syntax.specs.TreePatterns.{carried, row_of}
use mathlib.Core.Former.{Count}
use Rattle.formula.specs.declared.function.BuiltIn.TheVariants as f
use Rattle.formula.specs.declared.value.Cell.{Cell}
use Rattle.formula.specs.declared.value.Cell.TheVariants as cell
use Rattle.formula.specs.declared.value.Value.{Value}
use Rattle.formula.specs.declared.value.Value.TheVariants.{Int}
use Rattle.formula.specs.Values as value
use Rattle.formula.specs.Values.{holds, of_cell, is_between, count}
use Rattle.formula.specs.Worth.{Function}
use Rattle.fort_syntax.specs.declared.name.Name.{Name}
use Rattle.fort_syntax.specs.declared.condition.Kind.TheVariants.{ChoiceCheck, LoopCheck, ResultCheck}
use Rattle.fort_syntax.specs.declared.dialect.Dialect.{Dialect}
use Rattle.fort_syntax.specs.declared.dialect.Dialect.TheVariants.{Common, SeventySeven}
use Rattle.fort_syntax.specs.declared.dialect.Sort.{Sort}
use Rattle.fort_syntax.specs.declared.dialect.Sort.TheVariants.{Integer, Logical}
use Rattle.fort_syntax.specs.declared.expr.Expr.{Expr, Row_of-Expr}
use Rattle.fort_syntax.specs.declared.expr.Expr.TheVariants.{Const, Truth as TruthConstant, Var, Apply', Paren', Pos', Neg', Power', Bin', Rel', Not', And', Or'}
use Rattle.fort_syntax.specs.declared.stmt.Dim.{Dim}
use Rattle.fort_syntax.specs.declared.stmt.Param.{Param}
use Rattle.fort_syntax.specs.declared.stmt.Stmt.{Stmt}
use Rattle.fort_syntax.specs.declared.stmt.Stmt.TheVariants.{Subroutine, Function as FunctionHead, Declare, Dimension, Common as CommonBlock, Assign, GoTo, Computed, ArithIf, LogicalIf', Do, Continue, Call, Return, End, BlockIf, ElseIf, Else, EndIf}
use Rattle.fort_model.specs.Cells.{num, same, is_defined, holds as run_holds}
use Rattle.fort_model.specs.Arguments.{reference_sort}
use Rattle.fort_model.specs.Conditions.{sight}
use Rattle.fort_model.specs.Evaluate as run
use Rattle.fort_model.specs.Evaluate.{Scene}
use Rattle.fort_model.specs.Flow.{leads, target, loops_at, loops_around, behind, next_point, passed_over, leads_do, leads_computed, one_of, next_branch}
use Rattle.fort_model.specs.Outcome.{Act, Ended, give, check, step}
use Rattle.fort_model.specs.Passing.{Taken, Caller, call, passed}
use Rattle.fort_model.specs.Perform as perform
use Rattle.fort_model.specs.Processor.{MeetsBound}
use Rattle.fort_model.specs.Program.{Program}
use Rattle.fort_model.specs.Seen.{Named, See, ◌>>=◌, ◌>>◌, see}
use Rattle.fort_model.specs.Senses as sense
use Rattle.fort_model.specs.Senses.{of_values}
use Rattle.fort_model.specs.Sites.{calls_in}
use Rattle.fort_model.specs.Storage.{Storage, load, store}
use Rattle.fort_model.specs.Symbols.{Symbol, LeastInteger, GreatestInteger}
use Rattle.fort_model.specs.WalkCalls as walk_call
use Rattle.fort_model.specs.WalkCalls.{Sight, Operand}
use Rattle.fort_model.specs.WalkExpr as walk
use Rattle.fort_model.specs.WalkStmt as steps
use Rattle.fort_model.specs.WalkStmt.{with_name}
use Rattle.fort_laws.specs.Actuals.{ArePassed}
use Rattle.fort_laws.specs.Called.{IsReferenceTo, IsCallTo}
use Rattle.fort_laws.specs.GoodStatements.{MayBeWritten, Stood, HasScalarDims, AreGoodLoops, IsGoodElement, IsLeft, HasLabels, HasResult, IsGood, StatementsMatch}
use Rattle.fort_laws.specs.Matches.{AllTrue, Matches, moves, Same}
use Rattle.fort_laws.specs.Standing.{IsOf, MayBe, Of, CallsMatch}
use Rattle.fort_laws.specs.StepMatches.{StepMatches, goes}
use Rattle.fort_laws.specs.Typed.{IsScalar, IsArray, IsTyped, AreInteger, row_length}
use Rattle.fort_laws.proofs.Matching.{matches_see, matches_check, matches_as, matches_held, matches_twice, stays_then, followed}
use Rattle.fort_laws.proofs.Kept.{listed_row}
use Rattle.fort_laws.proofs.MatchedAssignments.{IsElement, matches_place, element_written}
use Rattle.fort_laws.proofs.MatchedExpressions.{integer_is, integer_between, matches_ranged, and_two}
use Rattle.fort_laws.proofs.MatchedOperands.{operands_match, matches_valued, integers_match, actuals_match, are_of, as_many, Integers}
use Rattle.fort_laws.proofs.MatchedPlaces.{scalar_stands}
use Rattle.fort_laws.proofs.MatchedTests.{scalar_written, matches_variable, matches_parameter, matches_step_value, tests_match}
use Rattle.fort_laws.proofs.Near.{known, through_all}
use Rattle.fort_laws.proofs.Stepping.{HasWay, step_after, step_stays, step_done, step_step, step_as, step_chosen, step_joined, step_split, step_fact, step_written}

module _ (fs : List Function) (values : Symbol → Value) (program : Program) (i : ℕ) (s : Scene) (caller : Caller)
    (least : values LeastInteger ≡ Int s.processor.least) (greatest : values GreatestInteger ≡ Int s.processor.greatest) (strict : s.processor.lazy ≡ false)
    (bounded : MeetsBound s.processor program.bound)
    (dialects : s.processor.dialect ≡ program.dialect) (dims : HasScalarDims s.unit s.environment)
    (IsReference : Sort → Name → List Expr → Type 0) (IsCall : Name → List Expr → Type 0)
    (told : (q : Sort) (a : Name) (es : List Expr) → IsReference q a es → reference_sort s.unit.functions a ≡ Some q)
    (references : (st : Storage) (now : Named Value) → Stood s.processor s.unit s.environment now st → CallsMatch fs values program i s caller st now IsReference)
    (calls : (st : Storage) (now : Named Value) → Stood s.processor s.unit s.environment now st → (card k : ℕ) (g : Name) (args : List Expr) (xs : List (Operand Value)) (ts : List Taken) → IsCall g args → ArePassed s st now args xs ts
    → Matches (λ r c after. Stood s.processor s.unit s.environment (r.0) after) (walk_call.call (sight (of_values fs values) program i s.unit) card (subroutine program.units g) now xs)
    (call caller s.environment (unit_at s.units (subroutine s.units g)) (passed (s.processor.copies s.unit.name k) 1 ts)) st) where
  abbrev w : Sight Value
  w = sight (of_values fs values) program i s.unit

  abbrev After : Named Value → Storage → Type 0
  After = Stood s.processor s.unit s.environment

  abbrev Step : (List ℕ → Option ℕ) → (List ℕ → See Value (Named Value)) → Act (List ℕ) → Storage → Type 0
  Step to part act st = StepMatches (λ (cs : List ℕ). cs) to part act After st

  -- behind a statement
  goes_behind : (card pc : ℕ) → AreGoodLoops s.unit s.environment (loops_at s.unit pc) → (now : Named Value) (st : Storage) → Stood s.processor s.unit s.environment now st
      → Step (behind s.unit pc) (λ cs. steps.behind w card pc now cs) (perform.go_on s card pc) st
  goes_behind card pc good now st stood =
      tests_match fs values program i s least greatest bounded dialects dims card (next_point s.unit pc) (loops_at s.unit pc) good now st stood

  behind_way : (pc : ℕ) → HasWay (λ (cs : List ℕ). cs) (behind s.unit pc)
  behind_way pc = let t = through_all (next_point s.unit pc) (loops_at s.unit pc) in record { choice = t.choices; point = next_point s.unit pc; to = t.to }

  module _ (st : Storage) (now : Named Value) (stood : Stood s.processor s.unit s.environment now st) where
    -- the value of a typed expression
    evaluated : (e : Expr) (q : Sort) (card k : ℕ) → IsTyped s.unit IsReference q e → Matches (Same st (Of s.processor q)) (walk.value w card now e) (run.evaluate s caller card k e) st
    evaluated e q card k h =
        matches_valued fs values program i s caller least greatest strict bounded st now stood.standing e card q _ _
        (operands_match fs values program i s caller least greatest strict bounded st now stood.standing IsReference told (references st now stood) e q card k h)

    -- ---- assignments

    may_be : (q : Sort) (v : Value) (c : Cell) → Of s.processor q v c → MayBe s.processor q c
    may_be q v (cell.Int z) h = h.1
    may_be q v (cell.Logical b) h = h.1
    may_be q v cell.Undefined h = tt

    -- the left side is taken and set
    abbrev set_left : ℕ → ℕ → Expr → Cell → Act (Unit {0})
    set_left card k left c = followed (run.taken s caller card k left) (λ x. perform.assign x c)

    set_scalar : (card k : ℕ) (q : Sort) (x : Name) → IsScalar s.unit q x → MayBeWritten s.unit s.environment x → (v : Value) (c : Cell) → Of s.processor q v c
        → Matches (λ next y after. Stood s.processor s.unit s.environment next after) (steps.assign w card now (Var x) v) (set_left card k (Var x) c) st
    set_scalar card k q x h may v c e =
        moves (λ answers. answers) (with_name now x v) tt (store st (s.environment x).first c) 0 (λ answers. tt) (λ answers. refl) (λ answers. refl)
        (λ n. ap (λ (j : ℕ). Ended tt (store st (s.environment x).first c) j) (let z : 0 + n ≡ n = omega arith in z))
        (scalar_written s.processor s.unit s.environment dims q x h may now st stood c (may_be q v c e) v e.0)

    element_set : (card : ℕ) (q : Sort) (a : Name) (b : Dim) (bs : List Dim) → IsArray s.unit q a (b ∷ bs) → MayBeWritten s.unit s.environment a → (v : Value) (c : Cell) → Of s.processor q v c
        → (p : Value) (t : Taken) → IsElement fs values program i s dims st now stood a p t
        → Matches (λ next y after. Stood s.processor s.unit s.environment next after) (see (with_name now a (sense.make3 (of_values fs values) f.Put (now a) p v))) (perform.assign t c) st
    element_set card q a b bs h may v c e p t g =
        moves (λ answers. answers) (with_name now a (sense.make3 (of_values fs values) f.Put (now a) p v)) tt (store st ((s.environment a).first + g.before) c) 0 (λ answers. tt) (λ answers. refl) (λ answers. refl)
        (λ n. ap (λ (x : Taken). perform.assign x c st (0 + n)) g.taken_is ∙ ap (λ (j : ℕ). Ended tt (store st ((s.environment a).first + g.before) c) j) (let z : 0 + n ≡ n = omega arith in z))
        (element_written fs values program i s dims st now stood q a b bs h may p t g c (may_be q v c e) v e.0)

    element_assigned : (card k : ℕ) (q : Sort) (a : Name) (b : Dim) (bs : List Dim) {m : Count} (args : Row_of-Expr m) → IsArray s.unit q a (b ∷ bs) → MayBeWritten s.unit s.environment a
        → row_length args ≡ length (b ∷ bs) → AreInteger s.unit IsReference args → (v : Value) (c : Cell) → Of s.processor q v c
        → Matches (λ next y after. Stood s.processor s.unit s.environment next after)
        (walk.values w card now args >>= (λ is. walk.place_checked w card now (b ∷ bs) is >>= (λ p. see (with_name now a (sense.make3 (of_values fs values) f.Put (now a) p v)))))
        (followed (followed (run.values s caller card k args) (λ cs. run.element s.environment card (s.environment a) (b ∷ bs) cs)) (λ x. perform.assign x c)) st
    element_assigned card k q a b bs args h may many integers v c e =
        matches_twice (λ next y after. Stood s.processor s.unit s.environment next after) _ (run.values s caller card k args) (λ cs. run.element s.environment card (s.environment a) (b ∷ bs) cs) (λ x. perform.assign x c) st
        (stays_then (Integers fs values program i s caller least greatest strict bounded st now stood.standing IsReference told (references st now stood) (row_length args)) (λ next y after. Stood s.processor s.unit s.environment next after) _ _ _ _ st
        (integers_match fs values program i s caller least greatest strict bounded st now stood.standing IsReference told (references st now stood) args card k integers)
        (λ is cs g. stays_then (IsElement fs values program i s dims st now stood a) (λ next y after. Stood s.processor s.unit s.environment next after) _ _ _ _ st
        (matches_place fs values program i s dims st now stood card q a b bs h is cs
        (are_of fs values program i s caller least greatest strict bounded st now stood.standing is cs g.0)
        (as_many fs values program i s caller least greatest strict bounded st now stood.standing cs (b ∷ bs) (g.1 ∙ many)))
        (λ p t o. element_set card q a b bs h may v c e p t o)))

    set_element : (card k : ℕ) (q : Sort) (a : Name) (x : _) (args : Row_of-Expr _) → IsGoodElement s.unit s.environment IsReference IsCall q a args → (v : Value) (c : Cell) → Of s.processor q v c
        → Matches (λ next y after. Stood s.processor s.unit s.environment next after) (steps.assign w card now (Apply' a x args) v) (set_left card k (Apply' a x args) c) st
    set_element card k q a x args h v c e =
        subst (λ (ds : List Dim). Matches (λ next y after. Stood s.processor s.unit s.environment next after)
        (walk.values w card now args >>= (λ is. walk.place_checked w card now ds is >>= (λ p. see (with_name now a (sense.make3 (of_values fs values) f.Put (now a) p v)))))
        (set_left card k (Apply' a x args) c) st) (sym h.dims_are)
        (subst (λ (kind : Applied). Matches (λ next y after. Stood s.processor s.unit s.environment next after)
        (walk.values w card now args >>= (λ is. walk.place_checked w card now (h.dim ∷ h.dims) is >>= (λ p. see (with_name now a (sense.make3 (of_values fs values) f.Put (now a) p v)))))
        (followed (run.apply s caller card k a kind (run.values s caller card k args) (run.actuals s caller card (suc k) args)) (λ t. perform.assign t c)) st) (sym h.applied_is)
        (element_assigned card k q a h.dim h.dims args h.array h.may h.many h.integers v c e))

    set_any : (card k : ℕ) (q : Sort) (left : Expr) → IsLeft s.unit s.environment IsReference IsCall q left → (v : Value) (c : Cell) → Of s.processor q v c
        → Matches (λ next y after. Stood s.processor s.unit s.environment next after) (steps.assign w card now left v) (set_left card k left c) st
    set_any card k q (Var x) h v c e = set_scalar card k q x h.0 h.1 v c e
    set_any card k q (Apply' a x args) h v c e = set_element card k q a x args h v c e
    set_any card k q (Const n) h v c e = absurd h
    set_any card k q (TruthConstant b) h v c e = absurd h
    set_any card k q (Paren' x a) h v c e = absurd h
    set_any card k q (Pos' x a) h v c e = absurd h
    set_any card k q (Neg' x a) h v c e = absurd h
    set_any card k q (Power' x a n) h v c e = absurd h
    set_any card k q (Bin' o x a y b) h v c e = absurd h
    set_any card k q (Rel' o x a y b) h v c e = absurd h
    set_any card k q (Not' x a) h v c e = absurd h
    set_any card k q (And' x a y b) h v c e = absurd h
    set_any card k q (Or' x a y b) h v c e = absurd h

    assign_step : (card pc k : ℕ) (left right : Expr) → IsGood s.unit s.environment IsReference IsCall pc (Assign left right)
        → Step (leads s.processor.dialect s.unit pc (Assign left right)) (λ cs. steps.performed w card pc now (Assign left right) cs) (perform.perform s caller card pc k (Assign left right)) st
    assign_step card pc k left right h =
        step_stays (λ (cs : List ℕ). cs) (behind s.unit pc) (Of s.processor h.0) After _ _ _ _ st (evaluated right h.0 card (k + calls_in s.unit left) h.2)
        (λ v c e. step_joined (λ (cs : List ℕ). cs) (behind s.unit pc) After _ (run.taken s caller card k left) (λ x. perform.assign x c) (λ _. perform.go_on s card pc) st
        (step_after (λ (cs : List ℕ). cs) (behind s.unit pc) (λ next y after. Stood s.processor s.unit s.environment next after) After _ _ (λ next cs. steps.behind w card pc next cs) (λ _. perform.go_on s card pc) st
        (set_any card k h.0 left h.1 v c e)
        (λ next y after g. goes_behind card pc h.3 next after g) (behind_way pc))) (behind_way pc)

    -- ---- conditions

    truth_is : (v : Value) (c : Cell) → Of s.processor Logical v c → holds v ≡ run_holds c
    truth_is v c e = ap holds e.0

    not_is : (b : Bool) → b ≡ false → not b ≡ true
    not_is b e = ap not e

    -- a fact is met, and nothing is done
    fact_step : (to : List ℕ → Option ℕ) (cs : List ℕ) (q : ℕ) (t : Value) (part : List ℕ → See Value (Named Value)) → to cs ≡ Some q → part cs ≡ (steps.taken w t >> see now) → holds t ≡ true → Step to part (give cs) st
    fact_step to cs q t part way is h =
        goes cs q way (λ answers. answers) now st 0
        (λ answers. subst (λ (p : See Value (Named Value)). AllTrue (p answers).events) (sym is) (h, tt))
        (λ answers. ap (λ (p : See Value (Named Value)). (p answers).value) is) (λ answers. ap (λ (p : See Value (Named Value)). (p answers).rest) is)
        (λ n. ap (λ (j : ℕ). Ended cs st j) (let z : 0 + n ≡ n = omega arith in z)) stood

    branch_step : (card k pc : ℕ) (e : Expr) (stmt : Stmt) → IsTyped s.unit IsReference Logical e → (to : List ℕ → Option ℕ) → to (1 ∷ []) ≡ Some (next_point s.unit pc) → to (2 ∷ []) ≡ Some (next_branch s.unit pc)
        → Step to (λ cs. walk.value w card now e >>= (λ v. steps.taken w (steps.truth_fact w v cs) >> see now)) (followed (run.evaluate s caller card k e) (λ v. give (perform.truth_choice (run_holds v) ∷ []))) st
    branch_step card k pc e stmt h to one two =
        step_stays (λ (cs : List ℕ). cs) to (Of s.processor Logical) After _ _ (λ v cs. steps.taken w (steps.truth_fact w v cs) >> see now) (λ v. give (perform.truth_choice (run_holds v) ∷ [])) st (evaluated e Logical card k h)
        (λ v c g. known (run_holds c)
        (λ t. subst (λ (b : Bool). Step to (λ cs. steps.taken w (steps.truth_fact w v cs) >> see now) (give (perform.truth_choice b ∷ [])) st) (sym t)
        (fact_step to (1 ∷ []) (next_point s.unit pc) v (λ cs. steps.taken w (steps.truth_fact w v cs) >> see now) one refl (truth_is v c g ∙ t)))
        (λ t. subst (λ (b : Bool). Step to (λ cs. steps.taken w (steps.truth_fact w v cs) >> see now) (give (perform.truth_choice b ∷ [])) st) (sym t)
        (fact_step to (2 ∷ []) (next_branch s.unit pc) (sense.negated (of_values fs values) v) (λ cs. steps.taken w (steps.truth_fact w v cs) >> see now) two refl (ap not (truth_is v c g ∙ t)))))
        (record { choice = 1 ∷ []; point = next_point s.unit pc; to = one })

    -- ---- arithmetic IF

    sign_step : (card k pc : ℕ) (e : Expr) (l m n : ℕ) → IsTyped s.unit IsReference Integer e
        → Step (leads s.processor.dialect s.unit pc (ArithIf e l m n)) (λ cs. steps.performed w card pc now (ArithIf e l m n) cs) (perform.perform s caller card pc k (ArithIf e l m n)) st
    sign_step card k pc e l m n h =
        step_stays (λ (cs : List ℕ). cs) to (Of s.processor Integer) After _ _ (λ v cs. steps.taken w (steps.sign_fact w v cs) >> see now) (λ v. give (perform.sign_choice v ∷ [])) st (evaluated e Integer card k h)
        (λ v c g. by_sign v c (integer_is s.processor v c g) g)
        (record { choice = 1 ∷ []; point = target s.unit.lines l; to = refl })
      where
        to : List ℕ → Option ℕ
        to = leads s.processor.dialect s.unit pc (ArithIf e l m n)

        part : Value → List ℕ → See Value (Named Value)
        part v cs = steps.taken w (steps.sign_fact w v cs) >> see now

        positive : (z : ℤ) → int_lt z (pos 0) ≡ false → value.same_value (Int z) (Int (pos 0)) ≡ false → int_lt (pos 0) z ≡ true
        positive z p q = grind (arith, ints)

        same_of : (v : Value) (c : Cell) → Of s.processor Integer v c → value.same_value v (Int (pos 0)) ≡ same c (cell.Int (pos 0))
        same_of v c g = ap (λ (x : Value). value.same_value x (Int (pos 0))) g.0

        by_sign : (v : Value) (c : Cell) → v ≡ Int (num c) → Of s.processor Integer v c → Step to (part v) (give (perform.sign_choice c ∷ [])) st
        by_sign v c is g =
            known (int_lt (num c) (pos 0))
            (λ t. subst (λ (b : Bool). Step to (part v) (give (cond b 1 (cond (same c (cell.Int (pos 0))) 2 3) ∷ [])) st) (sym t)
            (fact_step to (1 ∷ []) (target s.unit.lines l) (sense.make2 (of_values fs values) f.Less v (sense.natural (of_values fs values) 0)) (part v) refl refl (ap (λ (x : Value). int_lt (value.num x) (pos 0)) is ∙ t)))
            (λ t. subst (λ (b : Bool). Step to (part v) (give (cond b 1 (cond (same c (cell.Int (pos 0))) 2 3) ∷ [])) st) (sym t)
            (known (same c (cell.Int (pos 0)))
            (λ r. subst (λ (b : Bool). Step to (part v) (give (cond b 2 3 ∷ [])) st) (sym r)
            (fact_step to (2 ∷ []) (target s.unit.lines m) (sense.make2 (of_values fs values) f.Equal v (sense.natural (of_values fs values) 0)) (part v) refl refl (same_of v c g ∙ r)))
            (λ r. subst (λ (b : Bool). Step to (part v) (give (cond b 2 3 ∷ [])) st) (sym r)
            (fact_step to (3 ∷ []) (target s.unit.lines n) (sense.make2 (of_values fs values) f.Less (sense.natural (of_values fs values) 0) v) (part v) refl refl
            (ap (λ (x : Value). int_lt (pos 0) (value.num x)) is ∙ positive (num c) t (sym (ap (λ (x : Value). value.same_value x (Int (pos 0))) is) ∙ same_of v c g ∙ r))))))

    -- ---- RETURN

    result_matches : (card : ℕ) (b : Bool) → HasResult s.unit s.environment IsReference IsCall b → Matches (Same st (λ x y. Unit {0})) (steps.result w card now b) (perform.result s card b) st
    result_matches card false h = matches_see (Same st (λ x y. Unit {0})) tt tt st (refl, tt)
    result_matches card true h =
        matches_held (Same st (λ x y. Unit {0})) _ (λ x. check ResultCheck card (is_defined (load x (s.environment s.unit.name).first))) st
        (matches_as (Same st (λ x y. is_defined (load st (s.environment s.unit.name).first) ≡ true)) (Same st (λ x y. Unit {0})) _ _ st (λ x y after k. (k.0, tt))
        (matches_check ResultCheck card _ _ st (ap value.is_defined (scalar_stands s.processor s.unit s.environment st now stood.standing h.0 s.unit.name h.1))))

    return_step : (card pc k : ℕ) → HasResult s.unit s.environment IsReference IsCall (is_function s.unit)
        → Step (leads s.processor.dialect s.unit pc Return) (λ cs. steps.performed w card pc now Return cs) (perform.perform s caller card pc k Return) st
    return_step card pc k h =
        step_stays (λ (cs : List ℕ). cs) (leads s.processor.dialect s.unit pc Return) (λ x y. Unit {0}) After _ _ (λ x cs. see now) (λ _. give []) st (result_matches card (is_function s.unit) h)
        (λ x y g. step_done (λ (cs : List ℕ). cs) (leads s.processor.dialect s.unit pc Return) After (λ cs. see now) [] (length s.unit.lines) now [] st refl refl refl stood)
        (record { choice = []; point = length s.unit.lines; to = refl })

    -- ---- CALL

    call_step : (card pc k : ℕ) (g : Name) (args : List Expr) → IsGood s.unit s.environment IsReference IsCall pc (Call g args)
        → Step (leads s.processor.dialect s.unit pc (Call g args)) (λ cs. steps.performed w card pc now (Call g args) cs) (perform.perform s caller card pc k (Call g args)) st
    call_step card pc k g args h =
        step_split (λ (cs : List ℕ). cs) (behind s.unit pc) After (λ cs. steps.performed w card pc now (Call g args) cs) (run.actuals s caller card (suc k) (row_of args))
        (λ ys. call caller s.environment (unit_at s.units (subroutine s.units g)) (passed (s.processor.copies s.unit.name (suc k)) 1 ys)) (λ _. perform.go_on s card pc) st
        (step_stays (λ (cs : List ℕ). cs) (behind s.unit pc) (ArePassed s st now args) After _ _
        (λ xs cs. walk_call.call w card (subroutine program.units g) now xs >>= (λ after. steps.behind w card pc (after.0) cs))
        (λ ys. followed (call caller s.environment (unit_at s.units (subroutine s.units g)) (passed (s.processor.copies s.unit.name (suc k)) 1 ys)) (λ _. perform.go_on s card pc)) st
        (subst (λ (es : List Expr). Matches (Same st (ArePassed s st now es)) (walk.operands w card now (row_of args)) (run.actuals s caller card (suc k) (row_of args)) st) (listed_row args)
        (actuals_match fs values program i s caller least greatest strict bounded st now stood.standing IsReference told (references st now stood) (row_of args) card (suc k) h.1))
        (λ xs ts o. step_after (λ (cs : List ℕ). cs) (behind s.unit pc) (λ r c after. Stood s.processor s.unit s.environment (r.0) after) After _ _ (λ r cs. steps.behind w card pc (r.0) cs) (λ _. perform.go_on s card pc) st
        (calls st now stood card (suc k) g args xs ts h.0 o) (λ r c after q. goes_behind card pc h.2 (r.0) after q) (behind_way pc)) (behind_way pc))

    -- ---- logical IF

    abbrev PairOf : Type 0
    PairOf = ℕ × List ℕ

    abbrev pair_of : PairOf → List ℕ
    pair_of c = c.0 ∷ c.1

    if_step : (card pc k : ℕ) (e : Expr) (x : _) (b : Stmt) → IsTyped s.unit IsReference Logical e → AreGoodLoops s.unit s.environment (loops_at s.unit pc)
        → ((j : ℕ) → Step (leads s.processor.dialect s.unit pc b) (λ cs. steps.performed w card pc now b cs) (perform.perform s caller card pc j b) st)
        → Step (leads s.processor.dialect s.unit pc (LogicalIf' e x (carried b))) (λ cs. steps.performed w card pc now (LogicalIf' e x (carried b)) cs) (perform.perform s caller card pc k (LogicalIf' e x (carried b))) st
    if_step card pc k e x b h loops inner =
        step_as pair_of (λ (cs : List ℕ). cs) to After (λ c. steps.performed w card pc now (LogicalIf' e x (carried b)) (pair_of c)) (λ cs. steps.performed w card pc now (LogicalIf' e x (carried b)) cs) _ st
        pair_of (λ c. refl) (λ c. refl)
        (step_stays pair_of to (Of s.processor Logical) After _ _ body act st (evaluated e Logical card k h)
        (λ v c g. known (run_holds c)
        (λ t. subst (λ (z : Bool). StepMatches pair_of to (body v) (cond z yes no) After st) (sym t) (taken_on v (truth_is v c g ∙ t)))
        (λ t. subst (λ (z : Bool). StepMatches pair_of to (body v) (cond z yes no) After st) (sym t) (passed_by v (ap not (truth_is v c g ∙ t)))))
        (let t = through_all (next_point s.unit pc) (loops_at s.unit pc) in record { choice = (2, t.choices); point = next_point s.unit pc; to = t.to }))
      where
        to : List ℕ → Option ℕ
        to = leads s.processor.dialect s.unit pc (LogicalIf' e x (carried b))

        body : Value → PairOf → See Value (Named Value)
        body v c = cond (c.0 == 1) (steps.taken w v >> steps.performed w card pc now b (c.1)) (steps.taken w (sense.negated (of_values fs values) v) >> steps.behind w card pc now (c.1))

        yes : Act (List ℕ)
        yes = followed step (λ _. followed (perform.perform s caller card pc (k + calls_in s.unit e) b) (λ cs. give (1 ∷ cs)))

        no : Act (List ℕ)
        no = followed (perform.go_on s card pc) (λ cs. give (2 ∷ cs))

        act : Cell → Act (List ℕ)
        act c = cond (run_holds c) yes no

        taken_on : (v : Value) → holds v ≡ true → StepMatches pair_of to (body v) yes After st
        taken_on v t =
            step_as (λ (cs : List ℕ). 1 ∷ cs) pair_of to After (λ cs. steps.taken w v >> steps.performed w card pc now b cs) (body v) yes st (λ cs. (1, cs)) (λ cs. refl) (λ cs. refl)
            (step_fact (λ (cs : List ℕ). 1 ∷ cs) to After (λ cs. steps.performed w card pc now b cs) yes st v t
            (step_step (λ (cs : List ℕ). 1 ∷ cs) to After (λ cs. steps.performed w card pc now b cs) _ st
            (step_chosen (λ (cs : List ℕ). cs) (leads s.processor.dialect s.unit pc b) to After (λ cs. steps.performed w card pc now b cs) (perform.perform s caller card pc (k + calls_in s.unit e) b) st 1 (λ cs. refl)
            (inner (k + calls_in s.unit e)))))

        passed_by : (v : Value) → not (holds v) ≡ true → StepMatches pair_of to (body v) no After st
        passed_by v t =
            step_as (λ (cs : List ℕ). 2 ∷ cs) pair_of to After (λ cs. steps.taken w (sense.negated (of_values fs values) v) >> steps.behind w card pc now cs) (body v) no st (λ cs. (2, cs)) (λ cs. refl) (λ cs. refl)
            (step_fact (λ (cs : List ℕ). 2 ∷ cs) to After (λ cs. steps.behind w card pc now cs) no st (sense.negated (of_values fs values) v) t
            (step_chosen (λ (cs : List ℕ). cs) (behind s.unit pc) to After (λ cs. steps.behind w card pc now cs) (perform.go_on s card pc) st 2 (λ cs. refl)
            (goes_behind card pc loops now st stood)))

    -- ---- DO

    and_three : (a b c : Bool) → (a && (b && (c && true))) ≡ (a && (b && c))
    and_three true b c = and_two b c
    and_three false b c = refl

    module _ (card last pc : ℕ) (x : Name) (scalar : IsScalar s.unit Integer x) (may : MayBeWritten s.unit s.environment x) (loops : AreGoodLoops s.unit s.environment (loops_around s.unit last pc))
        (m1 : Value) (c1 : Cell) (m2 : Value) (c2 : Cell) (m3 : Value) (c3 : Cell) (e1 : Of s.processor Integer m1 c1) (e2 : Of s.processor Integer m2 c2) (e3 : IsOf m3 c3) where
      abbrev set_first : Storage
      set_first = store st (s.environment x).first (cell.Int (num c1))

      first_set : Stood s.processor s.unit s.environment (with_name now x m1) set_first
      first_set = scalar_written s.processor s.unit s.environment dims Integer x scalar may now st stood (cell.Int (num c1)) (integer_between s.processor m1 c1 e1) m1 (integer_is s.processor m1 c1 e1)

      first_written : (n : ℕ) → perform.set_variable s x (cell.Int (num c1)) st n ≡ Ended tt set_first n
      first_written n = refl

      not_above : (a b : ℤ) → int_le a b ≡ false → int_lt b a ≡ true
      not_above a b h = grind (arith, ints)

      -- a DO that is entered or passed over
      entered_step : Step (leads_do SeventySeven s.unit last pc) (λ cs. steps.entered w last pc (with_name now x m1) m1 m2 cs)
          (cond (int_le (num c1) (num c2)) (give (1 ∷ [])) (followed (perform.pass_over s last pc) (λ cs. give (2 ∷ cs)))) set_first
      entered_step =
          known (int_le (num c1) (num c2))
          (λ t. subst (λ (z : Bool). Step to part (cond z (give (1 ∷ [])) over) set_first) (sym t)
          (step_as {C = Unit {0}} (λ u. 1 ∷ []) (λ (cs : List ℕ). cs) to After (λ u. steps.taken w (sense.make2 (of_values fs values) f.AtMost m1 m2) >> see (with_name now x m1)) part (give (1 ∷ [])) set_first (λ u. 1 ∷ []) (λ u. refl) (λ u. refl)
          (step_fact {C = Unit {0}} (λ u. 1 ∷ []) to After (λ u. see (with_name now x m1)) (give (1 ∷ [])) set_first _ ((λ j. int_le (value.num (e1.0 j)) (value.num (e2.0 j))) ∙ t)
          (step_done {C = Unit {0}} (λ u. 1 ∷ []) to After (λ u. see (with_name now x m1)) tt (suc pc) (with_name now x m1) (1 ∷ []) set_first refl refl refl first_set))))
          (λ t. subst (λ (z : Bool). Step to part (cond z (give (1 ∷ [])) over) set_first) (sym t)
          (step_as (λ (cs : List ℕ). 2 ∷ cs) (λ (cs : List ℕ). cs) to After (λ cs. steps.taken w (sense.make2 (of_values fs values) f.Less m2 m1) >> steps.passed_over w last pc (with_name now x m1) cs) part over set_first (λ cs. 2 ∷ cs) (λ cs. refl) (λ cs. refl)
          (step_fact (λ (cs : List ℕ). 2 ∷ cs) to After (λ cs. steps.passed_over w last pc (with_name now x m1) cs) over set_first _ ((λ j. int_lt (value.num (e2.0 j)) (value.num (e1.0 j))) ∙ not_above (num c1) (num c2) t)
          (step_chosen (λ (cs : List ℕ). cs) (passed_over s.unit last pc) to After (λ cs. steps.passed_over w last pc (with_name now x m1) cs) (perform.pass_over s last pc) set_first 2 (λ cs. refl)
          (tests_match fs values program i s least greatest bounded dialects dims (perform.card_in (slice_get s.unit.lines last)) (next_point s.unit last) (loops_around s.unit last pc) loops (with_name now x m1) set_first first_set)))))
        where
          to : List ℕ → Option ℕ
          to = leads_do SeventySeven s.unit last pc

          part : List ℕ → See Value (Named Value)
          part cs = steps.entered w last pc (with_name now x m1) m1 m2 cs

          over : Act (List ℕ)
          over = followed (perform.pass_over s last pc) (λ cs. give (2 ∷ cs))

      begin_step : (d : Dialect) → Step (leads_do d s.unit last pc) (λ cs. steps.begin w d card last pc now x m1 m2 m3 cs) (perform.begin d s card last pc x (num c1) (num c2) (num c3)) st
      begin_step Common =
          step_stays (λ (cs : List ℕ). cs) (leads_do Common s.unit last pc) (λ y z. (int_le (pos 1) (num c1) && (int_le (num c1) (num c2) && int_le (pos 1) (num c3))) ≡ true) After _ _ (λ y cs. see (with_name now x m1))
          (λ y. followed (perform.set_variable s x (cell.Int (num c1))) (λ _. give [])) st
          (matches_check LoopCheck card _ _ st
          ((λ j. (int_le (pos 1) (value.num (e1.0 j)) && (int_le (value.num (e1.0 j)) (value.num (e2.0 j)) && (int_le (pos 1) (value.num (e3 j)) && true))))
          ∙ and_three (int_le (pos 1) (num c1)) (int_le (num c1) (num c2)) (int_le (pos 1) (num c3))))
          (λ y z g. step_written (λ (cs : List ℕ). cs) (leads_do Common s.unit last pc) After (λ cs. see (with_name now x m1)) (give []) st set_first (perform.set_variable s x (cell.Int (num c1))) first_written
          (step_done (λ (cs : List ℕ). cs) (leads_do Common s.unit last pc) After (λ cs. see (with_name now x m1)) [] (suc pc) (with_name now x m1) [] set_first refl refl refl first_set))
          (record { choice = []; point = suc pc; to = refl })
      begin_step SeventySeven =
          step_stays (λ (cs : List ℕ). cs) to (λ y z. int_le (pos 1) (num c3) ≡ true) After _ _ _ _ st
          (matches_check LoopCheck card _ _ st (λ j. int_le (pos 1) (value.num (e3 j))))
          (λ y z g. step_stays (λ (cs : List ℕ). cs) to (Of s.processor Integer) After _ _ _ _ st
          (matches_ranged fs values program i s.unit s least greatest st card (sense.make2 (of_values fs values) f.Difference m2 m1) (num c2 -ℤ num c1) (λ j. Int (value.num (e2.0 j) -ℤ value.num (e1.0 j))))
          (λ v a h. step_stays (λ (cs : List ℕ). cs) to (Of s.processor Integer) After _ _ _ _ st
          (matches_ranged fs values program i s.unit s least greatest st card (sense.make2 (of_values fs values) f.Plus (sense.make2 (of_values fs values) f.Difference m2 m1) m3) (num c2 -ℤ num c1 +ℤ num c3)
          (λ j. Int (value.num (e2.0 j) -ℤ value.num (e1.0 j) +ℤ value.num (e3 j))))
          (λ v2 a2 h2. step_written (λ (cs : List ℕ). cs) to After (λ cs. steps.entered w last pc (with_name now x m1) m1 m2 cs) _ st set_first (perform.set_variable s x (cell.Int (num c1))) first_written entered_step)
          way) way) way
        where
          to : List ℕ → Option ℕ
          to = leads_do SeventySeven s.unit last pc

          way : HasWay (λ (cs : List ℕ). cs) to
          way = record { choice = 1 ∷ []; point = suc pc; to = refl }

    do_way : (d : Dialect) (last pc : ℕ) → HasWay (λ (cs : List ℕ). cs) (leads_do d s.unit last pc)
    do_way Common last pc = record { choice = []; point = suc pc; to = refl }
    do_way SeventySeven last pc = record { choice = 1 ∷ []; point = suc pc; to = refl }

    do_step : (card pc k l : ℕ) (x : Name) (first last : Param) (by : Option Param) → IsGood s.unit s.environment IsReference IsCall pc (Do l x first last by)
        → Step (leads s.processor.dialect s.unit pc (Do l x first last by)) (λ cs. steps.performed w card pc now (Do l x first last by) cs) (perform.perform s caller card pc k (Do l x first last by)) st
    do_step card pc k l x first last by h =
        step_stays (λ (cs : List ℕ). cs) to (Of s.processor Integer) After _ _ _ _ st (matches_parameter fs values program i s least greatest bounded dialects dims st now stood card first h.2)
        (λ m1 c1 e1. step_stays (λ (cs : List ℕ). cs) to (Of s.processor Integer) After _ _ _ _ st (matches_parameter fs values program i s least greatest bounded dialects dims st now stood card last h.3)
        (λ m2 c2 e2. step_stays (λ (cs : List ℕ). cs) to IsOf After _ _ _ _ st (matches_step_value fs values program i s least greatest bounded dialects dims st now stood card by h.4)
        (λ m3 c3 e3. subst (λ (d : Dialect). Step to (λ cs. steps.begin w d card (target s.unit.lines l) pc now x m1 m2 m3 cs) (perform.begin s.processor.dialect s card (target s.unit.lines l) pc x (num c1) (num c2) (num c3)) st) dialects
        (begin_step card (target s.unit.lines l) pc x h.0 h.1 h.5 m1 c1 m2 c2 m3 c3 e1 e2 e3 s.processor.dialect))
        way) way) way
      where
        to : List ℕ → Option ℕ
        to = leads_do s.processor.dialect s.unit (target s.unit.lines l) pc

        way : HasWay (λ (cs : List ℕ). cs) to
        way = do_way s.processor.dialect (target s.unit.lines l) pc

    -- ---- computed GO TO

    -- a number that counts one of so many labels
    record Counts (labels : ℕ) (z : ℤ) : Type 0 where
      before : ℕ
      number : z ≡ pos (suc before)
      less : before < labels

    counts_of : (labels : ℕ) (z : ℤ) → is_between (pos 1) (pos labels) z ≡ true → Counts labels z
    counts_of labels (pos zero) h = absurd (grind arith)
    counts_of labels (negsuc n) h = absurd (grind arith)
    counts_of labels (pos (suc n)) h = record { before = n; number = refl; less = search rules }

    label_at : (ls : List ℕ) (k : ℕ) → k < length ls → (q : ℕ) × (slice_get (map (target s.unit.lines) ls) k ≡ Some q)
    label_at [] k h = absurd (omega arith)
    label_at (l ∷ ls) zero h = (target s.unit.lines l, refl)
    label_at (l ∷ ls) (suc k) h = label_at ls k (omega arith)

    same_number : (n : ℕ) → value.same_value (Int (pos n)) (Int (pos n)) ≡ true
    same_number n = grind arith

    mapped_length : (ls : List ℕ) → length (map (target s.unit.lines) ls) ≡ length ls
    mapped_length [] = refl
    mapped_length (l ∷ ls) = ap suc (mapped_length ls)

    between_is : (labels : ℕ) (v : Value) (c : Cell) → Of s.processor Integer v c → holds (steps.counts_label w labels v) ≡ is_between (pos 1) (pos labels) (num c)
    between_is labels v c e = (λ j. (int_le (pos 1) (value.num (e.0 j)) && (int_le (value.num (e.0 j)) (pos labels) && true))) ∙ and_two (int_le (pos 1) (num c)) (int_le (num c) (pos labels))

    -- a fact is met, by a choice
    fact_by : {C : Type 0} (list : C → List ℕ) (to : List ℕ → Option ℕ) (c : C) (q : ℕ) (t : Value) (part : C → See Value (Named Value)) → to (list c) ≡ Some q → part c ≡ (steps.taken w t >> see now) → holds t ≡ true
        → StepMatches list to part (give (list c)) After st
    fact_by list to c q t part way is h =
        goes c q way (λ answers. answers) now st 0
        (λ answers. subst (λ (p : See Value (Named Value)). AllTrue (p answers).events) (sym is) (h, tt))
        (λ answers. ap (λ (p : See Value (Named Value)). (p answers).value) is) (λ answers. ap (λ (p : See Value (Named Value)). (p answers).rest) is)
        (λ n. ap (λ (j : ℕ). Ended (list c) st j) (let z : 0 + n ≡ n = omega arith in z)) stood

    module _ (card pc : ℕ) (ls : List ℕ) (v : Value) (c : Cell) (e : Of s.processor Integer v c) (some : HasLabels s.unit s.environment IsReference IsCall ls) (loops : AreGoodLoops s.unit s.environment (loops_at s.unit pc)) where
      equal_fact : (h : Counts (length ls) (num c)) → holds (sense.make2 (of_values fs values) f.Equal v (sense.natural (of_values fs values) (suc h.before))) ≡ true
      equal_fact h = ap (λ (x : Value). value.same_value x (Int (pos (suc h.before)))) (integer_is s.processor v c e ∙ ap (λ (z : ℤ). Int z) h.number) ∙ same_number (suc h.before)

      abbrev chosen_part : Dialect → PairOf → See Value (Named Value)
      chosen_part d p = steps.select w d card pc now (length ls) v (p.0) (p.1)

      common_step : Counts (length ls) (num c) → StepMatches pair_of (leads_computed Common s.unit pc (map (target s.unit.lines) ls)) (chosen_part Common) (give (count (num c) ∷ [])) After st
      common_step h =
          subst (λ (z : ℤ). StepMatches pair_of (leads_computed Common s.unit pc (map (target s.unit.lines) ls)) (chosen_part Common) (give (count z ∷ [])) After st) (sym h.number)
          (let l = label_at ls h.before h.less in
          fact_by pair_of (leads_computed Common s.unit pc (map (target s.unit.lines) ls)) (suc h.before, []) l.0 _ (chosen_part Common) l.1 refl (equal_fact h))

      not_last : (k : ℕ) → k < length ls → (suc k == suc (length ls)) ≡ false
      not_last k lt = search rules

      not_last_label : (k : ℕ) → k < length ls → (suc k == suc (length (map (target s.unit.lines) ls))) ≡ false
      not_last_label k lt = ap (λ (n : ℕ). suc k == suc n) (mapped_length ls) ∙ not_last k lt

      inside_step : Counts (length ls) (num c) → StepMatches pair_of (leads_computed SeventySeven s.unit pc (map (target s.unit.lines) ls)) (chosen_part SeventySeven) (give (count (num c) ∷ [])) After st
      inside_step h =
          subst (λ (z : ℤ). StepMatches pair_of (leads_computed SeventySeven s.unit pc (map (target s.unit.lines) ls)) (chosen_part SeventySeven) (give (count z ∷ [])) After st) (sym h.number)
          (let l = label_at ls h.before h.less in
          fact_by pair_of (leads_computed SeventySeven s.unit pc (map (target s.unit.lines) ls)) (suc h.before, []) l.0 _ (chosen_part SeventySeven)
          (ap (λ (b : Bool). cond b (behind s.unit pc []) (one_of (map (target s.unit.lines) ls) (suc h.before ∷ []))) (not_last_label h.before h.less) ∙ l.1)
          (ap (λ (b : Bool). cond b (steps.taken w (sense.negated (of_values fs values) (steps.counts_label w (length ls) v)) >> steps.behind w card pc now [])
          (steps.taken w (sense.make2 (of_values fs values) f.Equal v (sense.natural (of_values fs values) (suc h.before))) >> see now)) (not_last h.before h.less)) (equal_fact h))

      last_label : (n : ℕ) → (suc n == suc n) ≡ true
      last_label n = search rules

      outside_step : is_between (pos 1) (pos (length ls)) (num c) ≡ false
          → StepMatches pair_of (leads_computed SeventySeven s.unit pc (map (target s.unit.lines) ls)) (chosen_part SeventySeven) (followed (perform.go_on s card pc) (λ cs. give (suc (length ls) ∷ cs))) After st
      outside_step h =
          step_as (λ (cs : List ℕ). suc (length ls) ∷ cs) pair_of to After (λ cs. steps.taken w (sense.negated (of_values fs values) (steps.counts_label w (length ls) v)) >> steps.behind w card pc now cs) (chosen_part SeventySeven) act st
          (λ cs. (suc (length ls), cs)) (λ cs. refl)
          (λ cs. ap (λ (b : Bool). cond b (steps.taken w (sense.negated (of_values fs values) (steps.counts_label w (length ls) v)) >> steps.behind w card pc now cs)
          (steps.taken w (sense.make2 (of_values fs values) f.Equal v (sense.natural (of_values fs values) (suc (length ls)))) >> see now)) (last_label (length ls)))
          (step_fact (λ (cs : List ℕ). suc (length ls) ∷ cs) to After (λ cs. steps.behind w card pc now cs) act st (sense.negated (of_values fs values) (steps.counts_label w (length ls) v)) (ap not (between_is (length ls) v c e ∙ h))
          (step_chosen (λ (cs : List ℕ). cs) (behind s.unit pc) to After (λ cs. steps.behind w card pc now cs) (perform.go_on s card pc) st (suc (length ls))
          (λ cs. ap (λ (b : Bool). cond b (behind s.unit pc cs) (one_of (map (target s.unit.lines) ls) (suc (length ls) ∷ cs))) (ap (λ (n : ℕ). suc (length ls) == suc n) (mapped_length ls) ∙ last_label (length ls)))
          (goes_behind card pc loops now st stood)))
        where
          to : List ℕ → Option ℕ
          to = leads_computed SeventySeven s.unit pc (map (target s.unit.lines) ls)

          act : Act (List ℕ)
          act = followed (perform.go_on s card pc) (λ cs. give (suc (length ls) ∷ cs))

      first_way : (d : Dialect) (labels : List ℕ) → HasLabels s.unit s.environment IsReference IsCall labels → HasWay pair_of (leads_computed d s.unit pc (map (target s.unit.lines) labels))
      first_way d [] h = absurd h
      first_way Common (l ∷ labels) h = record { choice = (1, []); point = target s.unit.lines l; to = refl }
      first_way SeventySeven (l ∷ labels) h = record { choice = (1, []); point = target s.unit.lines l; to = search arith }

      computed_step : (d : Dialect) → StepMatches pair_of (leads_computed d s.unit pc (map (target s.unit.lines) ls)) (λ p. steps.choice_check w d card (length ls) v >> chosen_part d p) (perform.select d s card pc (length ls) (num c)) After st
      computed_step Common =
          step_stays pair_of (leads_computed Common s.unit pc (map (target s.unit.lines) ls)) (λ y z. is_between (pos 1) (pos (length ls)) (num c) ≡ true) After _ _ (λ y p. chosen_part Common p) (λ y. give (count (num c) ∷ [])) st
          (matches_check ChoiceCheck card _ _ st (between_is (length ls) v c e))
          (λ y z g. common_step (counts_of (length ls) (num c) g)) (first_way Common ls some)
      computed_step SeventySeven =
          step_as pair_of pair_of (leads_computed SeventySeven s.unit pc (map (target s.unit.lines) ls)) After (chosen_part SeventySeven) (λ p. steps.choice_check w SeventySeven card (length ls) v >> chosen_part SeventySeven p) _ st (λ p. p) (λ p. refl) (λ p. refl)
          (known (is_between (pos 1) (pos (length ls)) (num c))
          (λ g. subst (λ (b : Bool). StepMatches pair_of (leads_computed SeventySeven s.unit pc (map (target s.unit.lines) ls)) (chosen_part SeventySeven) (cond b (give (count (num c) ∷ [])) (followed (perform.go_on s card pc) (λ cs. give (suc (length ls) ∷ cs)))) After st) (sym g)
          (inside_step (counts_of (length ls) (num c) g)))
          (λ g. subst (λ (b : Bool). StepMatches pair_of (leads_computed SeventySeven s.unit pc (map (target s.unit.lines) ls)) (chosen_part SeventySeven) (cond b (give (count (num c) ∷ [])) (followed (perform.go_on s card pc) (λ cs. give (suc (length ls) ∷ cs)))) After st) (sym g)
          (outside_step g)))

    select_step : (card pc k : ℕ) (ls : List ℕ) (x : Name) → IsGood s.unit s.environment IsReference IsCall pc (Computed ls x)
        → Step (leads s.processor.dialect s.unit pc (Computed ls x)) (λ cs. steps.performed w card pc now (Computed ls x) cs) (perform.perform s caller card pc k (Computed ls x)) st
    select_step card pc k ls x h =
        step_as pair_of (λ (cs : List ℕ). cs) to After (λ p. steps.performed w card pc now (Computed ls x) (pair_of p)) (λ cs. steps.performed w card pc now (Computed ls x) cs) _ st pair_of (λ p. refl) (λ p. refl)
        (step_stays pair_of to (Of s.processor Integer) After _ _ (λ v p. steps.choice_check w program.dialect card (length ls) v >> steps.select w program.dialect card pc now (length ls) v (p.0) (p.1))
        (λ c. perform.select s.processor.dialect s card pc (length ls) (num c)) st
        (matches_variable fs values program i s least greatest bounded dialects dims st now stood card x h.0)
        (λ v c e. subst (λ (d : Dialect). StepMatches pair_of to (λ p. steps.choice_check w d card (length ls) v >> steps.select w d card pc now (length ls) v (p.0) (p.1)) (perform.select s.processor.dialect s card pc (length ls) (num c)) After st) dialects
        (computed_step card pc ls v c e h.1 h.2 s.processor.dialect))
        (some_label ls h.1 s.processor.dialect))
      where
        to : List ℕ → Option ℕ
        to = leads_computed s.processor.dialect s.unit pc (map (target s.unit.lines) ls)

        some_label : (labels : List ℕ) → HasLabels s.unit s.environment IsReference IsCall labels → (d : Dialect) → HasWay pair_of (leads_computed d s.unit pc (map (target s.unit.lines) labels))
        some_label [] g d = absurd g
        some_label (l ∷ labels) g Common = record { choice = (1, []); point = target s.unit.lines l; to = refl }
        some_label (l ∷ labels) g SeventySeven = record { choice = (1, []); point = target s.unit.lines l; to = search arith }

    -- ---- all statements

    pub statement_matches : (stmt : Stmt) (card pc k : ℕ) → IsGood s.unit s.environment IsReference IsCall pc stmt
        → Step (leads s.processor.dialect s.unit pc stmt) (λ cs. steps.performed w card pc now stmt cs) (perform.perform s caller card pc k stmt) st
    statement_matches (Assign left right) card pc k h = assign_step card pc k left right h
    statement_matches (GoTo l) card pc k h =
        step_done (λ (cs : List ℕ). cs) (leads s.processor.dialect s.unit pc (GoTo l)) After (λ cs. steps.performed w card pc now (GoTo l) cs) [] (target s.unit.lines l) now [] st refl refl refl stood
    statement_matches (Computed ls x) card pc k h = select_step card pc k ls x h
    statement_matches (ArithIf e l m n) card pc k h = sign_step card k pc e l m n h
    statement_matches (LogicalIf' e x (carried b)) card pc k h = if_step card pc k e x b h.0 h.1 (λ j. statement_matches b card pc j h.3)
    statement_matches (Do l x first last by) card pc k h = do_step card pc k l x first last by h
    statement_matches Continue card pc k h = goes_behind card pc h now st stood
    statement_matches (Call g args) card pc k h = call_step card pc k g args h
    statement_matches Return card pc k h = return_step card pc k h
    statement_matches (BlockIf e) card pc k h = branch_step card k pc e (BlockIf e) h (leads s.processor.dialect s.unit pc (BlockIf e)) refl refl
    statement_matches (ElseIf e) card pc k h = branch_step card k pc e (ElseIf e) h (leads s.processor.dialect s.unit pc (ElseIf e)) refl refl
    statement_matches Else card pc k h = goes_behind card pc h now st stood
    statement_matches EndIf card pc k h = goes_behind card pc h now st stood
    statement_matches (Subroutine x xs) card pc k h = absurd h
    statement_matches (FunctionHead o x xs) card pc k h = absurd h
    statement_matches (Declare o items) card pc k h = absurd h
    statement_matches (Dimension items) card pc k h = absurd h
    statement_matches (CommonBlock groups) card pc k h = absurd h
    statement_matches End card pc k h = absurd h

pub statements_match : StatementsMatch
statements_match fs values program i s caller least greatest strict bounded dialects dims references calls st now stood stmt card pc k good =
    statement_matches fs values program i s caller least greatest strict bounded dialects dims (IsReferenceTo program i s.unit) (IsCallTo program i s.unit) (λ q a es r. r.told) references calls st now stood stmt card pc k good
