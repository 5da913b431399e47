-- Runs from which no walk fails come to the next cut point.
use Rattle.std.proofs.Common.{◌≡◌, ℕ, zero, suc, Bool, true, false, ◌+◌, inl, inr, List, [], ◌∷◌, ◌++◌, map, Option, Some, None, slice_get, refl, sym, ap, ◌∙◌, subst, arith}
use Rattle.fort_syntax.specs.TreePatterns.{carried}
use Rattle.fort_syntax.specs.Names.{is_function}
use Rattle.formula.specs.declared.value.Value.{Value}
use Rattle.formula.specs.declared.value.Value.TheVariants.{Undefined}
use Rattle.formula.specs.Tree.{Tree}
use Rattle.formula.specs.Values as value
use Rattle.formula.specs.Values.{holds}
use Rattle.formula.specs.Worth.{Function}
use Rattle.fort_syntax.specs.declared.name.Name.{Name}
use Rattle.fort_syntax.specs.declared.condition.Kind.{Kind}
use Rattle.fort_syntax.specs.declared.condition.Kind.TheVariants.{AssertCheck, ClockCheck, OutputCheck}
use Rattle.fort_syntax.specs.declared.dialect.Dialect.{Dialect}
use Rattle.fort_syntax.specs.declared.dialect.Sort.{Sort}
use Rattle.fort_syntax.specs.declared.expr.Expr.{Expr}
use Rattle.fort_syntax.specs.declared.stmt.Stmt.{Stmt}
use Rattle.fort_syntax.specs.declared.stmt.Stmt.TheVariants.{Subroutine, Function as FunctionHead, Declare, Dimension, Common as CommonBlock, Assign, GoTo, Computed, ArithIf, LogicalIf', Do, Continue, Call, Return, End, BlockIf, ElseIf, Else, EndIf}
use Rattle.fort_syntax.specs.declared.unit.Line.{Line}
use Rattle.fort_syntax.specs.declared.unit.Unit.{Unit as Routine}
use Rattle.fort_model.specs.Conditions.{sight}
use Rattle.fort_model.specs.Evaluate.{Scene}
use Rattle.fort_model.specs.Events.{Event, Check, Take, checks}
use Rattle.fort_model.specs.Flow.{leads}
use Rattle.fort_model.specs.Outcome.{Outcome, Ended, Act, and_then, step}
use Rattle.fort_model.specs.Paths.{Cut, NoCut, AtEnd, AtAssert, cut_of, cut_in, cut_at, Edge, IsWay, over_or}
use Rattle.fort_model.specs.Perform.{perform}
use Rattle.fort_notes.specs.Assertions.{Assertion, Notes}
use Rattle.fort_model.specs.Program.{Program, notes_of, assertion_at}
use Rattle.fort_model.specs.Run.{run, go_to, at_line}
use Rattle.fort_model.specs.Seen.{Named, Answers}
use Rattle.fort_model.specs.Senses.{of_values, note}
use Rattle.fort_model.specs.Sites.{calls_before}
use Rattle.fort_model.specs.Storage.{Storage, Environment}
use Rattle.fort_model.specs.Symbols.{Symbol}
use Rattle.fort_model.specs.Walk.{arrive, walk_from, fall, perform_line, go_on, at_entry, not_negative}
use Rattle.fort_model.specs.WalkCalls.{Sight}
use Rattle.fort_model.specs.WalkExpr as walk
use Rattle.fort_model.specs.WalkStmt as steps
use Rattle.fort_model.specs.WalkStmt.{performed}
use Rattle.fort_laws.specs.Called.{IsReferenceTo, IsCallTo}
use Rattle.fort_laws.specs.GoodStatements.{Stood, IsGood, StatementsStep}
use Rattle.fort_laws.specs.Matches.{AllTrue, FirstFails}
use Rattle.fort_laws.specs.Segments.{NoCheckFails, IsSafe, KeepsUnsmashed, StatementsKeep, Arrives, at_end, at_assert, SafeRunsArrive}
use Rattle.fort_laws.specs.StepMatches.{StepMatches, goes, stops}
use Rattle.step_laws.specs.Unfolded.{run_from}
use Rattle.fort_laws.specs.Ways.{IsReturn, IsCutUp, AreExecutable, IsExecutable, Completed}
use Rattle.fort_laws.proofs.MatchedStatements.{statements_match}
use Rattle.fort_laws.proofs.Matching.{followed, fails_later, fails_before}
use Rattle.fort_laws.proofs.Near.{known, Near, near, near_all, complete, line_from, way_on}
use Rattle.step_laws.proofs.Unfolding.{runs_unfold}

-- only checks
abbrev OnlyChecks : List (Event Value) → Type 0
OnlyChecks [] = Unit {0}
OnlyChecks (Check kind card v ∷ es) = OnlyChecks es
OnlyChecks (Take v ∷ es) = ⊥

only_append : (es fs : List (Event Value)) → OnlyChecks es → OnlyChecks fs → OnlyChecks (es ++ fs)
only_append [] fs h k = k
only_append (Check kind card v ∷ es) fs h k = only_append es fs h k
only_append (Take v ∷ es) fs h k = absurd h

only_checks : (kind : Kind) (card : ℕ) (vs : List Value) → OnlyChecks (checks kind card vs)
only_checks kind card [] = tt
only_checks kind card (v ∷ vs) = only_checks kind card vs

-- checks of which none fails are all true
pub all_checks_true : (es : List (Event Value)) → OnlyChecks es → NoCheckFails es → AllTrue es
all_checks_true [] h n = tt
all_checks_true (Check kind card v ∷ es) h n =
    known (holds v)
    (λ t. (t, all_checks_true es h (λ k c f. n k c (inl (t, f)))))
    (λ t. absurd (n kind card (inr (t, refl, refl))))
all_checks_true (Take v ∷ es) h n = absurd h

-- the rest behind what is true
pub rest_safe : (es fs : List (Event Value)) → AllTrue es → NoCheckFails (es ++ fs) → NoCheckFails fs
rest_safe es fs t n kind card f = n kind card (fails_later kind card es fs t f)

-- a statement whose parts have their types is executable
pub good_is_executable : (u : Routine) (env : Environment) (IsReference : Sort → Name → List Expr → Type 0) (IsCall : Name → List Expr → Type 0) (pc : ℕ) (stmt : Stmt) → IsGood u env IsReference IsCall pc stmt → IsExecutable stmt
good_is_executable u env IsReference IsCall pc (Assign left right) h = tt
good_is_executable u env IsReference IsCall pc (GoTo label) h = tt
good_is_executable u env IsReference IsCall pc (Computed [] x) h = absurd h.1
good_is_executable u env IsReference IsCall pc (Computed (label ∷ labels) x) h = tt
good_is_executable u env IsReference IsCall pc (ArithIf e l m n) h = tt
good_is_executable u env IsReference IsCall pc (LogicalIf' e q b) h = tt
good_is_executable u env IsReference IsCall pc (Do label x first last by) h = tt
good_is_executable u env IsReference IsCall pc Continue h = tt
good_is_executable u env IsReference IsCall pc (Call g args) h = tt
good_is_executable u env IsReference IsCall pc Return h = tt
good_is_executable u env IsReference IsCall pc (BlockIf e) h = tt
good_is_executable u env IsReference IsCall pc (ElseIf e) h = tt
good_is_executable u env IsReference IsCall pc Else h = tt
good_is_executable u env IsReference IsCall pc EndIf h = tt
good_is_executable u env IsReference IsCall pc (Subroutine x xs) h = absurd h
good_is_executable u env IsReference IsCall pc (FunctionHead o x xs) h = absurd h
good_is_executable u env IsReference IsCall pc (Declare o items) h = absurd h
good_is_executable u env IsReference IsCall pc (Dimension items) h = absurd h
good_is_executable u env IsReference IsCall pc (CommonBlock groups) h = absurd h
good_is_executable u env IsReference IsCall pc End h = absurd h

-- answers of calls, of which nothing is known
pub no_answers : Answers Value
no_answers k x = Undefined

module _ (fs : List Function) (values : Symbol → Value) (program : Program) (i : ℕ) (s : Scene) (dialects : s.processor.dialect ≡ program.dialect) where
  abbrev w : Sight Value
  w = sight (of_values fs values) program i s.unit

  abbrev notes : Notes
  notes = notes_of program i

  pub walk_is : (clock : Option (List Value)) (pc : ℕ) (line : Line) (cs : List ℕ) (q : ℕ) (now : Named Value) (answers : Answers Value) (way : List (List ℕ)) → slice_get s.unit.lines pc ≡ Some line
      → leads program.dialect s.unit pc line.stmt cs ≡ Some q
      → walk_from w clock pc now answers (cs ∷ way) ≡ (performed w line.card pc now line.stmt cs answers).events
      ++ arrive w clock line.card (cut_at s.unit notes q) (performed w line.card pc now line.stmt cs answers).value
      (walk_from w clock q (performed w line.card pc now line.stmt cs answers).value (performed w line.card pc now line.stmt cs answers).rest way)
  walk_is clock pc line cs q now answers way e to =
      ap (λ (o : Option Line). perform_line w clock o pc now answers cs (λ p after rest. walk_from w clock p after rest way)) e
      ∙ ap (λ (o : Option ℕ). (performed w line.card pc now line.stmt cs answers).events ++ go_on w clock line.card o (performed w line.card pc now line.stmt cs answers).value
      (λ p. walk_from w clock p (performed w line.card pc now line.stmt cs answers).value (performed w line.card pc now line.stmt cs answers).rest way)) to

  pub run_is : (pc : ℕ) (line : Line) (cs : List ℕ) (q : ℕ) (st after : Storage) (cost n : ℕ) → slice_get s.unit.lines pc ≡ Some line → leads s.processor.dialect s.unit pc line.stmt cs ≡ Some q
      → perform s (run s.processor s.units) line.card pc (calls_before s.unit pc) line.stmt st (cost + n) ≡ Ended cs after n
      → run_from s.processor s.units s.unit s.environment pc st (suc cost + n) ≡ run_from s.processor s.units s.unit s.environment q after n
  run_is pc line cs q st after cost n e to done =
      ap (run_from s.processor s.units s.unit s.environment pc st) (let same : suc cost + n ≡ suc (cost + n) = omega arith in same)
      ∙ (runs_unfold s.processor s.units s.unit s.environment st (suc (cost + n))).1 pc
      ∙ ap (λ (o : Option Line). at_line o body st (suc (cost + n))) e
      ∙ ap (λ (o : Outcome (List ℕ)). and_then o (λ choices. go_to (leads s.processor.dialect s.unit pc line.stmt choices) (run_from s.processor s.units s.unit s.environment))) done
      ∙ ap (λ (o : Option ℕ). go_to o (run_from s.processor s.units s.unit s.environment) after n) to
    where
      body : Line → Act (Unit {0})
      body l = followed step (λ _. followed (perform s (run s.processor s.units) l.card pc (calls_before s.unit pc) l.stmt)
          (λ choices. go_to (leads s.processor.dialect s.unit pc l.stmt choices) (run_from s.processor s.units s.unit s.environment)))

  -- a run that arrives behind the last statement is over
  pub end_is : (q : ℕ) (st : Storage) (n : ℕ) → slice_get s.unit.lines q ≡ None → run_from s.processor s.units s.unit s.environment q st n ≡ Ended tt st n
  end_is q st n e =
      (runs_unfold s.processor s.units s.unit s.environment st n).1 q
      ∙ ap (λ (o : Option Line). at_line o body st n) e
    where
      body : Line → Act (Unit {0})
      body l = followed step (λ _. followed (perform s (run s.processor s.units) l.card q (calls_before s.unit q) l.stmt)
          (λ choices. go_to (leads s.processor.dialect s.unit q l.stmt choices) (run_from s.processor s.units s.unit s.environment)))

  -- no statement stands at the end
  pub none_at : (q : ℕ) → cut_at s.unit notes q ≡ AtEnd → slice_get s.unit.lines q ≡ None
  none_at q c = go (slice_get s.unit.lines q) refl c
    where
      by_assertion : (a : Option Assertion) → cut_of a ≡ AtEnd → ⊥
      by_assertion None c = absurd (grind arith)
      by_assertion (Some a) c = absurd (grind arith)

      go : (o : Option Line) → slice_get s.unit.lines q ≡ o → cut_in o (assertion_at notes q) ≡ AtEnd → slice_get s.unit.lines q ≡ None
      go None e c = e
      go (Some line) e c = absurd (by_assertion (assertion_at notes q) c)

  -- what is met on arrival at a cut point are checks
  pub only_at_end : (clock : Option (List Value)) (card : ℕ) (now : Named Value) → OnlyChecks (arrive w clock card AtEnd now [])
  only_at_end clock card now = only_checks OutputCheck card (map (note w.sense (at_entry w) now) notes.output)

  only_fall : (card : ℕ) (clock : Option (List Value)) (new : List Value) → OnlyChecks (fall w card clock new)
  only_fall card None new = tt
  only_fall card (Some old) new = tt

  pub only_at_assert : (clock : Option (List Value)) (card : ℕ) (a : Assertion) (now : Named Value) → OnlyChecks (arrive w clock card (AtAssert a) now [])
  only_at_assert clock card a now =
      only_append (checks AssertCheck a.card (map told a.terms) ++ checks ClockCheck a.card (map (λ t. not_negative w (told t)) a.clock)) (fall w a.card clock (map told a.clock))
      (only_append (checks AssertCheck a.card (map told a.terms)) (checks ClockCheck a.card (map (λ t. not_negative w (told t)) a.clock))
      (only_checks AssertCheck a.card (map told a.terms)) (only_checks ClockCheck a.card (map (λ t. not_negative w (told t)) a.clock)))
      (only_fall a.card clock (map told a.clock))
    where
      told : Tree → Value
      told = note w.sense (at_entry w) now

  -- at a RETURN of a FUNCTION its value is defined
  result_true : (card : ℕ) (now : Named Value) (answers : Answers Value) (b : Bool) → b ≡ true → AllTrue ((steps.result w card now b answers).events ++ []) → value.is_defined (now s.unit.name) ≡ true
  result_true card now answers true e h = h.0
  result_true card now answers false e h = absurd (cc)

  right_true : (es fs : List (Event Value)) → AllTrue (es ++ fs) → AllTrue fs
  right_true [] fs h = h
  right_true (Check kind card v ∷ es) fs h = right_true es fs h.1
  right_true (Take v ∷ es) fs h = right_true es fs h.1

  pub returned : (card pc : ℕ) (stmt : Stmt) (cs : List ℕ) (now : Named Value) (answers : Answers Value) → IsReturn stmt cs → is_function s.unit ≡ true
      → AllTrue (performed w card pc now stmt cs answers).events → value.is_defined ((performed w card pc now stmt cs answers).value s.unit.name) ≡ true
  returned card pc Return cs now answers r f h = result_true card now answers (is_function s.unit) f h
  returned card pc (LogicalIf' e x (carried b)) [] now answers r f h = absurd r
  returned card pc (LogicalIf' e x (carried b)) (zero ∷ cs) now answers r f h = absurd r
  returned card pc (LogicalIf' e x (carried b)) (suc zero ∷ cs) now answers r f h =
      returned card pc b cs now _ r f (right_true (walk.value w card now e answers).events _ h).1
  returned card pc (LogicalIf' e x (carried b)) (suc (suc n) ∷ cs) now answers r f h = absurd r
  returned card pc (Assign left right) cs now answers r f h = absurd r
  returned card pc (GoTo label) cs now answers r f h = absurd r
  returned card pc (Computed labels x) cs now answers r f h = absurd r
  returned card pc (ArithIf e l m n) cs now answers r f h = absurd r
  returned card pc (Do label x first last by) cs now answers r f h = absurd r
  returned card pc Continue cs now answers r f h = absurd r
  returned card pc (Call g args) cs now answers r f h = absurd r
  returned card pc (BlockIf e) cs now answers r f h = absurd r
  returned card pc (ElseIf e) cs now answers r f h = absurd r
  returned card pc Else cs now answers r f h = absurd r
  returned card pc EndIf cs now answers r f h = absurd r
  returned card pc (Subroutine x xs) cs now answers r f h = absurd r
  returned card pc (FunctionHead o x xs) cs now answers r f h = absurd r
  returned card pc (Declare o items) cs now answers r f h = absurd r
  returned card pc (Dimension items) cs now answers r f h = absurd r
  returned card pc (CommonBlock groups) cs now answers r f h = absurd r
  returned card pc End cs now answers r f h = absurd r

  -- ---- what a run from a point comes to

  module _ (clock : Option (List Value)) (pc : ℕ) (line : Line) (now : Named Value) (st : Storage) (e : slice_get s.unit.lines pc ≡ Some line) (safe : IsSafe fs values program i s clock pc now) where
    to_walk : (cs : List ℕ) (q : ℕ) → leads s.processor.dialect s.unit pc line.stmt cs ≡ Some q → leads program.dialect s.unit pc line.stmt cs ≡ Some q
    to_walk cs q to = subst (λ (d : Dialect). leads d s.unit pc line.stmt cs ≡ Some q) dialects to

    -- no statement errs
    no_stop : (cs : List ℕ) (q : ℕ) → leads s.processor.dialect s.unit pc line.stmt cs ≡ Some q → Completed program.dialect s.unit notes pc cs
        → (answers : Answers Value) (kind : Kind) (card : ℕ) → FirstFails kind card (performed w line.card pc now line.stmt cs answers).events → ⊥
    no_stop cs q to r answers kind card f =
        safe (cs ∷ r.way) answers r.is kind card
        (subst (λ (es : List (Event Value)). FirstFails kind card es) (sym (walk_is clock pc line cs q now answers r.way e (to_walk cs q to))) (fails_before kind card _ _ f))

    module _ (cs : List ℕ) (q : ℕ) (to : leads s.processor.dialect s.unit pc line.stmt cs ≡ Some q) (pre : Answers Value → Answers Value) (next : Named Value) (after : Storage) (cost : ℕ)
        (true_all : (answers : Answers Value) → AllTrue (performed w line.card pc now line.stmt cs (pre answers)).events)
        (value_is : (answers : Answers Value) → (performed w line.card pc now line.stmt cs (pre answers)).value ≡ next)
        (rest : (answers : Answers Value) → (performed w line.card pc now line.stmt cs (pre answers)).rest ≡ answers)
        (runs : (n : ℕ) → perform s (run s.processor s.units) line.card pc (calls_before s.unit pc) line.stmt st (cost + n) ≡ Ended cs after n) (stood : Stood s.processor s.unit s.environment next after)
        (kept : KeepsUnsmashed fs values program i s next) where
      -- behind the statement no check fails
      safe_on : (way : List (List ℕ)) (answers : Answers Value) → over_or program.dialect s.unit notes (cut_at s.unit notes q) way (IsWay program.dialect s.unit notes q way)
          → NoCheckFails (arrive w clock line.card (cut_at s.unit notes q) next (walk_from w clock q next answers way))
      safe_on way answers over =
          subst (λ (a : Answers Value). NoCheckFails (arrive w clock line.card (cut_at s.unit notes q) next (walk_from w clock q next a way))) (rest answers)
          (subst (λ (x : Named Value). NoCheckFails (arrive w clock line.card (cut_at s.unit notes q) x (walk_from w clock q x (performed w line.card pc now line.stmt cs (pre answers)).rest way))) (value_is answers)
          (rest_safe _ _ (true_all answers)
          (subst (λ (es : List (Event Value)). NoCheckFails es) (walk_is clock pc line cs q now (pre answers) way e (to_walk cs q to))
          (safe (cs ∷ way) (pre answers) (way_on program.dialect s.unit notes pc line cs q way e (to_walk cs q to) over)))))

      -- the run goes on from the next point
      runs_on : (n : ℕ) → run_from s.processor s.units s.unit s.environment pc st (suc cost + n) ≡ run_from s.processor s.units s.unit s.environment q after n
      runs_on n = run_is pc line cs q st after cost n e to (runs n)

      longer : (more n : ℕ) → run_from s.processor s.units s.unit s.environment pc st (suc cost + more + n) ≡ run_from s.processor s.units s.unit s.environment q after (more + n)
      longer more n = ap (run_from s.processor s.units s.unit s.environment pc st) (let same : suc cost + more + n ≡ suc cost + (more + n) = omega arith in same) ∙ runs_on (more + n)

      stepped : Arrives fs values program i s clock q after → Arrives fs values program i s clock pc st
      stepped (at_end now2 last more card ends stood2 kept2 true2 value2) = at_end now2 last (suc cost + more) card (λ n. longer more n ∙ ends n) stood2 kept2 true2 value2
      stepped (at_assert a q2 now2 last more card c goes2 stood2 kept2 true2) = at_assert a q2 now2 last (suc cost + more) card c (λ n. longer more n ∙ goes2 n) stood2 kept2 true2

      by_cut : (c : Cut) → cut_at s.unit notes q ≡ c → (cut_at s.unit notes q ≡ NoCut → IsSafe fs values program i s clock q next → Arrives fs values program i s clock q after)
          → Arrives fs values program i s clock pc st
      by_cut NoCut c on =
          stepped (on c (λ way answers is.
          subst (λ (k : Cut). NoCheckFails (arrive w clock line.card k next (walk_from w clock q next answers way))) c
          (safe_on way answers (subst (λ (k : Cut). over_or program.dialect s.unit notes k way (IsWay program.dialect s.unit notes q way)) (sym c) is))))
      by_cut AtEnd c on =
          at_end next after (suc cost) line.card (λ n. runs_on n ∙ end_is q after n (none_at q c)) stood kept
          (all_checks_true _ (only_at_end clock line.card next)
          (subst (λ (k : Cut). NoCheckFails (arrive w clock line.card k next [])) c
          (safe_on [] no_answers (subst (λ (k : Cut). over_or program.dialect s.unit notes k [] (IsWay program.dialect s.unit notes q [])) (sym c) refl))))
          (λ returns is. subst (λ (x : Named Value). value.is_defined (x s.unit.name) ≡ true) (value_is no_answers)
          (returned line.card pc line.stmt cs now (pre no_answers) (returns pc line cs q e (to_walk cs q to) (none_at q c)) is (true_all no_answers)))
      by_cut (AtAssert a) c on =
          at_assert a q next after (suc cost) line.card c runs_on stood kept
          (all_checks_true _ (only_at_assert clock line.card a next)
          (subst (λ (k : Cut). NoCheckFails (arrive w clock line.card k next [])) c
          (safe_on [] no_answers (subst (λ (k : Cut). over_or program.dialect s.unit notes k [] (IsWay program.dialect s.unit notes q [])) (sym c) refl))))

  module _ (IsReference : Sort → Name → List Expr → Type 0) (IsCall : Name → List Expr → Type 0)
      (steps : StatementsStep fs values program i s (run s.processor s.units) IsReference IsCall)
      (good : (pc : ℕ) (line : Line) → slice_get s.unit.lines pc ≡ Some line → IsGood s.unit s.environment IsReference IsCall pc line.stmt)
      (cut : IsCutUp program.dialect s.unit notes) (keep : StatementsKeep fs values program i s) where
    executable : AreExecutable s.unit
    executable pc line e = good_is_executable s.unit s.environment IsReference IsCall pc line.stmt (good pc line e)

    by_step : (clock : Option (List Value)) (pc : ℕ) (line : Line) (now : Named Value) (st : Storage) → slice_get s.unit.lines pc ≡ Some line → KeepsUnsmashed fs values program i s now → IsSafe fs values program i s clock pc now
        → StepMatches (λ (cs : List ℕ). cs) (leads s.processor.dialect s.unit pc line.stmt) (λ cs. performed w line.card pc now line.stmt cs)
        (perform s (run s.processor s.units) line.card pc (calls_before s.unit pc) line.stmt) (Stood s.processor s.unit s.environment) st
        → ((cs : List ℕ) (q : ℕ) → Edge program.dialect s.unit pc cs q → cut_at s.unit notes q ≡ NoCut → (next : Named Value) (after : Storage) → Stood s.processor s.unit s.environment next after
        → KeepsUnsmashed fs values program i s next → IsSafe fs values program i s clock q next → Arrives fs values program i s clock q after)
        → Arrives fs values program i s clock pc st
    by_step clock pc line now st e kept safe (goes cs q to pre next after cost t v r runs stood) on =
        let kept2 : KeepsUnsmashed fs values program i s next = subst (λ (x : Named Value). KeepsUnsmashed fs values program i s x) (v no_answers) (keep pc line now (pre no_answers) cs e kept) in
        by_cut clock pc line now st e safe cs q to pre next after cost t v r runs stood kept2 (cut_at s.unit notes q) refl
        (λ c safe2. on cs q (record { line = line; at = e; to = to_walk clock pc line now st e safe cs q to }) c next after stood kept2 safe2)
    by_step clock pc line now st e kept safe (stops cs q to pre kind card f err) on =
        absurd (no_stop clock pc line now st e safe cs q to
        (complete program.dialect s.unit notes executable pc (near_all program.dialect s.unit notes cut pc) line cs q e (to_walk clock pc line now st e safe cs q to)) (pre no_answers) kind card (f no_answers))

    arrives : (clock : Option (List Value)) (pc : ℕ) → Near program.dialect s.unit notes pc → (line : Line) (now : Named Value) (st : Storage) → slice_get s.unit.lines pc ≡ Some line
        → Stood s.processor s.unit s.environment now st → KeepsUnsmashed fs values program i s now → IsSafe fs values program i s clock pc now → Arrives fs values program i s clock pc st
    arrives clock pc (near h) line now st e stood kept safe =
        by_step clock pc line now st e kept safe (steps st now stood line.stmt line.card pc (calls_before s.unit pc) (good pc line e))
        (λ cs q edge c next after stood2 kept2 safe2. let l = line_from program.dialect s.unit notes q c in arrives clock q (h cs q edge c) l.0 next after l.1 stood2 kept2 safe2)

pub safe_runs_arrive : SafeRunsArrive
safe_runs_arrive fs values program i s least greatest strict bounded dialects dims references calls good cut keep clock pc line now st e stood kept safe =
    arrives fs values program i s dialects (IsReferenceTo program i s.unit) (IsCallTo program i s.unit)
    (statements_match fs values program i s (run s.processor s.units) least greatest strict bounded dialects dims references calls) good cut keep clock pc
    (near_all program.dialect s.unit (notes_of program i) cut pc) line now st e stood kept safe
