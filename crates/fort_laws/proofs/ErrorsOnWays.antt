-- A run goes a way to the next cut point, or errs on it.
use Rattle.std.proofs.Common.{◌≡◌, ℕ, suc, ◌+◌, ◌⊎◌, inl, inr, true, List, [], ◌∷◌, ◌++◌, Option, Some, slice_get, refl, sym, ap, ◌∙◌, subst, append_assoc, arith}
use Rattle.formula.specs.declared.value.Value.{Value}
use Rattle.formula.specs.Values as value
use Rattle.formula.specs.Values.{holds}
use Rattle.formula.specs.Worth.{Function}
use Rattle.fort_syntax.specs.declared.name.Name.{Name}
use Rattle.fort_syntax.specs.declared.condition.Kind.{Kind}
use Rattle.fort_syntax.specs.declared.dialect.Dialect.{Dialect}
use Rattle.fort_syntax.specs.declared.dialect.Sort.{Sort}
use Rattle.fort_syntax.specs.declared.expr.Expr.{Expr}
use Rattle.fort_syntax.specs.declared.unit.Line.{Line}
use Rattle.fort_model.specs.Evaluate.{Scene}
use Rattle.fort_model.specs.Events.{Event}
use Rattle.fort_model.specs.Flow.{leads}
use Rattle.fort_model.specs.Outcome.{Outcome, Act, and_then, step}
use Rattle.fort_model.specs.Paths.{Cut, NoCut, AtEnd, AtAssert, cut_at, Edge, IsWay, over_or}
use Rattle.fort_model.specs.Perform.{perform}
use Rattle.fort_model.specs.Program.{Program, notes_of}
use Rattle.fort_model.specs.Run.{run, go_to, at_line}
use Rattle.fort_model.specs.Seen.{Named, Answers}
use Rattle.fort_model.specs.Sites.{calls_before}
use Rattle.fort_model.specs.Storage.{Storage}
use Rattle.fort_model.specs.Symbols.{Symbol}
use Rattle.fort_model.specs.Walk.{arrive, walk_from}
use Rattle.fort_model.specs.WalkCalls.{Sight}
use Rattle.fort_model.specs.WalkStmt.{performed}
use Rattle.fort_laws.specs.Errors.{IsOnArrival, IsCut, Comes, RunsAs, arrives, fails_there, errs_on_way, GoesAWay}
use Rattle.fort_laws.specs.GoodStatements.{Stood, IsGood, StatementsStep}
use Rattle.fort_laws.specs.Matches.{AllTrue, FirstFails, Errs, of_callee, errs}
use Rattle.fort_laws.specs.Segments.{seen, KeepsUnsmashed, StatementsKeep}
use Rattle.fort_laws.specs.StepMatches.{StepMatches, goes, stops}
use Rattle.step_laws.specs.Unfolded.{run_from}
use Rattle.fort_laws.specs.Ways.{IsCutUp, AreExecutable}
use Rattle.fort_laws.proofs.ErrorsOnArrival.{checks_fail, are_on_arrival}
use Rattle.fort_laws.proofs.Matching.{followed, all_true_append, fails_later, fails_before}
use Rattle.fort_laws.proofs.Near.{Near, near, near_all, complete, line_from, way_on}
use Rattle.fort_laws.proofs.SafeRuns.{walk_is, run_is, end_is, none_at, returned, good_is_executable, no_answers}
use Rattle.step_laws.proofs.Unfolding.{runs_unfold}

module _ (fs : List Function) (values : Symbol → Value) (program : Program) (i : ℕ) (s : Scene) (dialects : s.processor.dialect ≡ program.dialect) where
  abbrev sight : Sight Value
  sight = seen fs values program i s

  -- ---- a run that errs

  abbrev run_at : ℕ → Act (Unit {0})
  run_at pc = run_from s.processor s.units s.unit s.environment pc

  -- a statement that errs
  run_errs : (kind : Kind) (card pc : ℕ) (line : Line) (st : Storage) → slice_get s.unit.lines pc ≡ Some line
      → Errs kind card (perform s (run s.processor s.units) line.card pc (calls_before s.unit pc) line.stmt) st → Errs kind card (run_at pc) st
  run_errs kind card pc line st e (of_callee q) = of_callee q
  run_errs kind card pc line st e (errs after cost h) = errs after (suc cost) (λ n.
      ap (run_at pc st) (let same : suc cost + n ≡ suc (cost + n) = omega arith in same)
      ∙ (runs_unfold s.processor s.units s.unit s.environment st (suc (cost + n))).1 pc
      ∙ ap (λ (o : Option Line). at_line o body st (suc (cost + n))) e
      ∙ ap (λ (o : Outcome (List ℕ)). and_then o (λ choices. go_to (leads s.processor.dialect s.unit pc line.stmt choices) (run_from s.processor s.units s.unit s.environment))) (h n))
    where
      body : Line → Act (Unit {0})
      body l = followed step (λ _. followed (perform s (run s.processor s.units) l.card pc (calls_before s.unit pc) l.stmt)
          (λ choices. go_to (leads s.processor.dialect s.unit pc l.stmt choices) (run_from s.processor s.units s.unit s.environment)))

  -- ---- one statement of a way

  module _ (clock : Option (List Value)) (pc : ℕ) (line : Line) (now : Named Value) (st : Storage) (e : slice_get s.unit.lines pc ≡ Some line) (cs : List ℕ) (q : ℕ)
      (to : leads program.dialect s.unit pc line.stmt cs ≡ Some q) (pre : Answers Value → Answers Value) (next : Named Value) (after : Storage) (cost : ℕ)
      (true_all : (answers : Answers Value) → AllTrue (performed sight line.card pc now line.stmt cs (pre answers)).events)
      (value_is : (answers : Answers Value) → (performed sight line.card pc now line.stmt cs (pre answers)).value ≡ next)
      (rest : (answers : Answers Value) → (performed sight line.card pc now line.stmt cs (pre answers)).rest ≡ answers)
      (runs : (n : ℕ) → run_at pc st (suc cost + n) ≡ run_at q after n) where
    abbrev met : Answers Value → List (Event Value)
    met answers = (performed sight line.card pc now line.stmt cs (pre answers)).events

    -- the walk goes on behind the statement
    walked : (way : List (List ℕ)) (answers : Answers Value) → walk_from sight clock pc now (pre answers) (cs ∷ way)
        ≡ met answers ++ arrive sight clock line.card (cut_at s.unit (notes_of program i) q) next (walk_from sight clock q next answers way)
    walked way answers =
        walk_is fs values program i s dialects clock pc line cs q now (pre answers) way e to
        ∙ ap (λ (x : Named Value). met answers ++ arrive sight clock line.card (cut_at s.unit (notes_of program i) q) x (walk_from sight clock q x (performed sight line.card pc now line.stmt cs (pre answers)).rest way)) (value_is answers)
        ∙ ap (λ (a : Answers Value). met answers ++ arrive sight clock line.card (cut_at s.unit (notes_of program i) q) next (walk_from sight clock q next a way)) (rest answers)

    longer : (more n : ℕ) → run_at pc st (suc cost + more + n) ≡ run_at q after (more + n)
    longer more n = ap (run_at pc st) (let same : suc cost + more + n ≡ suc cost + (more + n) = omega arith in same) ∙ runs (more + n)

    -- ---- where no cut point follows

    module _ (c : cut_at s.unit (notes_of program i) q ≡ NoCut) (way : List (List ℕ)) (answers : Answers Value) where
      walked_on : walk_from sight clock pc now (pre answers) (cs ∷ way) ≡ met answers ++ walk_from sight clock q next answers way
      walked_on = walked way answers ∙ ap (λ (k : Cut). met answers ++ arrive sight clock line.card k next (walk_from sight clock q next answers way)) c

      comes_on : Comes fs values program i s clock q next after answers way → Comes fs values program i s clock pc now st (pre answers) (cs ∷ way)
      comes_on r = record {
        point = r.point;
        card = r.card;
        next = r.next;
        after = r.after;
        cost = suc cost + r.cost;
        used = omega arith;
        before = met answers ++ r.before;
        cut = r.cut;
        walk_is = walked_on ∙ ap (λ (es : List (Event Value)). met answers ++ es) r.walk_is ∙ sym (append_assoc (met answers) r.before (arrive sight clock r.card (cut_at s.unit (notes_of program i) r.point) r.next []));
        before_true = all_true_append (met answers) r.before (true_all answers) r.before_true;
        runs = λ n. longer r.cost n ∙ r.runs n;
        ends = λ a n. longer r.cost n ∙ r.ends a n;
        stood = r.stood;
        kept = r.kept;
        value = r.value;
      }

      errs_on : (kind : Kind) (card : ℕ) → Errs kind card (run_at q) after → Errs kind card (run_at pc) st
      errs_on kind card (of_callee h) = of_callee h
      errs_on kind card (errs last more h) = errs last (suc cost + more) (λ n. longer more n ∙ h n)

      fails_on : (kind : Kind) (card : ℕ) → FirstFails kind card (walk_from sight clock q next answers way) → FirstFails kind card (walk_from sight clock pc now (pre answers) (cs ∷ way))
      fails_on kind card f = subst (λ (es : List (Event Value)). FirstFails kind card es) (sym walked_on) (fails_later kind card (met answers) _ (true_all answers) f)

      runs_on : RunsAs fs values program i s clock q next after answers way → RunsAs fs values program i s clock pc now st (pre answers) (cs ∷ way)
      runs_on (arrives r t) = arrives (comes_on r) (subst (λ (es : List (Event Value)). AllTrue es) (sym walked_on) (all_true_append (met answers) _ (true_all answers) t))
      runs_on (fails_there r kind card k f) = fails_there (comes_on r) kind card k (fails_on kind card f)
      runs_on (errs_on_way kind card f h) = errs_on_way kind card (fails_on kind card f) (errs_on kind card h)

    -- ---- where a cut point follows

    module _ (c : IsCut (cut_at s.unit (notes_of program i) q)) (stood : Stood s.processor s.unit s.environment next after) (kept : KeepsUnsmashed fs values program i s next) where
      abbrev arrival : List (Event Value)
      arrival = arrive sight clock line.card (cut_at s.unit (notes_of program i) q) next []

      comes : Comes fs values program i s clock pc now st (pre no_answers) (cs ∷ [])
      comes = record {
        point = q;
        card = line.card;
        next = next;
        after = after;
        cost = suc cost;
        used = omega arith;
        before = met no_answers;
        cut = c;
        walk_is = walked [] no_answers;
        before_true = true_all no_answers;
        runs = runs;
        ends = λ a n. runs n ∙ end_is fs values program i s dialects q after n (none_at fs values program i s dialects q a);
        stood = stood;
        kept = kept;
        value = λ a returns is. subst (λ (x : Named Value). value.is_defined (x s.unit.name) ≡ true) (value_is no_answers)
            (returned fs values program i s dialects line.card pc line.stmt cs now (pre no_answers) (returns pc line cs q e to (none_at fs values program i s dialects q a)) is (true_all no_answers));
      }

      runs_there : AllTrue arrival ⊎ ((kind : Kind) × (card : ℕ) × IsOnArrival kind × FirstFails kind card arrival) → RunsAs fs values program i s clock pc now st (pre no_answers) (cs ∷ [])
      runs_there (inl t) = arrives comes (subst (λ (es : List (Event Value)). AllTrue es) (sym (walked [] no_answers)) (all_true_append (met no_answers) arrival (true_all no_answers) t))
      runs_there (inr r) =
          fails_there comes r.0 r.1 r.2
          (subst (λ (es : List (Event Value)). FirstFails r.0 r.1 es) (sym (walked [] no_answers)) (fails_later r.0 r.1 (met no_answers) arrival (true_all no_answers) r.3))

      there : (over_or program.dialect s.unit (notes_of program i) (cut_at s.unit (notes_of program i) q) [] (IsWay program.dialect s.unit (notes_of program i) q [])) → GoesAWay fs values program i s clock pc now st
      there over = record {
        answers = pre no_answers;
        way = cs ∷ [];
        is_way = way_on program.dialect s.unit (notes_of program i) pc line cs q [] e to over;
        runs_as = runs_there (checks_fail IsOnArrival arrival (are_on_arrival fs values program i s clock line.card (cut_at s.unit (notes_of program i) q) next));
      }

    by_cut : (k : Cut) → cut_at s.unit (notes_of program i) q ≡ k → Stood s.processor s.unit s.environment next after → KeepsUnsmashed fs values program i s next
        → (cut_at s.unit (notes_of program i) q ≡ NoCut → GoesAWay fs values program i s clock q next after) → GoesAWay fs values program i s clock pc now st
    by_cut NoCut c stood kept rec =
        let r = rec c in
        record {
          answers = pre r.answers;
          way = cs ∷ r.way;
          is_way = way_on program.dialect s.unit (notes_of program i) pc line cs q r.way e to
              (subst (λ (k : Cut). over_or program.dialect s.unit (notes_of program i) k r.way (IsWay program.dialect s.unit (notes_of program i) q r.way)) (sym c) r.is_way);
          runs_as = runs_on c r.way r.answers r.runs_as;
        }
    by_cut AtEnd c stood kept rec =
        there (subst IsCut (sym c) tt) stood kept (subst (λ (k : Cut). over_or program.dialect s.unit (notes_of program i) k [] (IsWay program.dialect s.unit (notes_of program i) q [])) (sym c) refl)
    by_cut (AtAssert a) c stood kept rec =
        there (subst IsCut (sym c) tt) stood kept (subst (λ (k : Cut). over_or program.dialect s.unit (notes_of program i) k [] (IsWay program.dialect s.unit (notes_of program i) q [])) (sym c) refl)

  -- ---- all statements of a way

  module _ (IsReference : Sort → Name → List Expr → Type 0) (IsCall : Name → List Expr → Type 0)
      (steps : StatementsStep fs values program i s (run s.processor s.units) IsReference IsCall)
      (good : (pc : ℕ) (line : Line) → slice_get s.unit.lines pc ≡ Some line → IsGood s.unit s.environment IsReference IsCall pc line.stmt)
      (cut : IsCutUp program.dialect s.unit (notes_of program i)) (keep : StatementsKeep fs values program i s) where
    executable : AreExecutable s.unit
    executable pc line e = good_is_executable s.unit s.environment IsReference IsCall pc line.stmt (good pc line e)

    module _ (clock : Option (List Value)) (pc : ℕ) (line : Line) (now : Named Value) (st : Storage) (e : slice_get s.unit.lines pc ≡ Some line) (kept : KeepsUnsmashed fs values program i s now) where
      to_walk : (cs : List ℕ) (q : ℕ) → leads s.processor.dialect s.unit pc line.stmt cs ≡ Some q → leads program.dialect s.unit pc line.stmt cs ≡ Some q
      to_walk cs q to = subst (λ (d : Dialect). leads d s.unit pc line.stmt cs ≡ Some q) dialects to

      by_step : StepMatches (λ (cs : List ℕ). cs) (leads s.processor.dialect s.unit pc line.stmt) (λ cs. performed sight line.card pc now line.stmt cs)
          (perform s (run s.processor s.units) line.card pc (calls_before s.unit pc) line.stmt) (Stood s.processor s.unit s.environment) st
          → ((cs : List ℕ) (q : ℕ) → Edge program.dialect s.unit pc cs q → cut_at s.unit (notes_of program i) q ≡ NoCut → (next : Named Value) (after : Storage) → Stood s.processor s.unit s.environment next after
          → KeepsUnsmashed fs values program i s next → GoesAWay fs values program i s clock q next after)
          → GoesAWay fs values program i s clock pc now st
      by_step (goes cs q to pre next after cost t v r runs stood) on =
          let kept2 : KeepsUnsmashed fs values program i s next = subst (λ (x : Named Value). KeepsUnsmashed fs values program i s x) (v no_answers) (keep pc line now (pre no_answers) cs e kept) in
          by_cut clock pc line now st e cs q (to_walk cs q to) pre next after cost t v r
          (λ n. run_is fs values program i s dialects pc line cs q st after cost n e to (runs n))
          (cut_at s.unit (notes_of program i) q) refl stood kept2
          (λ c. on cs q (record { line = line; at = e; to = to_walk cs q to }) c next after stood kept2)
      by_step (stops cs q to pre kind card f err) on =
          let r = complete program.dialect s.unit (notes_of program i) executable pc (near_all program.dialect s.unit (notes_of program i) cut pc) line cs q e (to_walk cs q to) in
          record {
            answers = pre no_answers;
            way = cs ∷ r.way;
            is_way = r.is;
            runs_as = errs_on_way kind card
                (subst (λ (es : List (Event Value)). FirstFails kind card es) (sym (walk_is fs values program i s dialects clock pc line cs q now (pre no_answers) r.way e (to_walk cs q to)))
                (fails_before kind card _ _ (f no_answers)))
                (run_errs kind card pc line st e err);
          }

    pub goes_a_way : (clock : Option (List Value)) (pc : ℕ) → Near program.dialect s.unit (notes_of program i) pc → (line : Line) (now : Named Value) (st : Storage) → slice_get s.unit.lines pc ≡ Some line
        → Stood s.processor s.unit s.environment now st → KeepsUnsmashed fs values program i s now → GoesAWay fs values program i s clock pc now st
    goes_a_way clock pc (near h) line now st e stood kept =
        by_step clock pc line now st e kept (steps st now stood line.stmt line.card pc (calls_before s.unit pc) (good pc line e))
        (λ cs q edge c next after stood2 kept2. let l = line_from program.dialect s.unit (notes_of program i) q c in goes_a_way clock q (h cs q edge c) l.0 next after l.1 stood2 kept2)
