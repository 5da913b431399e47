-- A run that errs is blamed on a check of a path.
use Rattle.std.proofs.Common.{◌≡◌, ℕ, zero, suc, ◌+◌, ◌-◌, ◌<◌, ◌≤◌, ◌⊎◌, inl, inr, List, [], ◌++◌, map, length, Option, Some, None, slice_get, refl, sym, ap, ◌∙◌, subst, arith}
use Rattle.formula.specs.declared.value.Cell.TheVariants as cell
use Rattle.formula.specs.declared.value.Value.{Value}
use Rattle.formula.specs.Tree.{Tree}
use Rattle.fort_syntax.specs.declared.condition.Kind.{Kind}
use Rattle.fort_syntax.specs.declared.condition.Kind.TheVariants.{AssertCheck, ClockCheck}
use Rattle.fort_syntax.specs.declared.unit.Line.{Line}
use Rattle.fort_syntax.specs.declared.unit.Unit.{Unit as Routine}
use Rattle.fort_model.specs.Conditions.{sight}
use Rattle.fort_model.specs.Correct.{IsMet, names_hold}
use Rattle.fort_model.specs.Events.{Event, takes, checks}
use Rattle.fort_model.specs.Fits.{IsApart, Fits}
use Rattle.fort_model.specs.Fitting.{FitsUnit}
use Rattle.fort_model.specs.Outcome.{Outcome, Ended, Erred, Running, and_then}
use Rattle.fort_model.specs.Paths.{Cut, NoCut, AtEnd, AtAssert, cut_in, cut_at, over_or, IsWay, IsWayIn, starts_at}
use Rattle.fort_model.specs.Processor.{Processor}
use Rattle.fort_notes.specs.Assertions.{Assertion}
use Rattle.fort_model.specs.Program.{Program, notes_of, assertion_at}
use Rattle.fort_model.specs.Run.{run, leave}
use Rattle.fort_model.specs.Seen.{Named, Answers}
use Rattle.fort_model.specs.Senses.{of_values, note}
use Rattle.fort_model.specs.Storage.{Storage, Environment}
use Rattle.fort_model.specs.Symbols.{Symbol}
use Rattle.fort_model.specs.Walk.{arrive, at_entry, at_start, entry_facts, start_facts, from_assert, fall, not_negative, walk_from}
use Rattle.fort_model.specs.WalkCalls.{Sight}
use Rattle.fort_laws.specs.Blame.{FailingPath, IsAtAssert, IsBlamed, Blamed, ErringRunsAreBlamed}
use Rattle.fort_laws.specs.CallLaw.{at_home, LieApart}
use Rattle.fort_laws.specs.EntryErrors.{StandAtEntry}
use Rattle.fort_laws.specs.Errors.{IsCut, IsInOrder, AreGood, IsUnderWay, Comes, RunsAs, arrives, fails_there, errs_on_way}
use Rattle.fort_laws.specs.GoodStatements.{Stood}
use Rattle.fort_laws.specs.Matches.{AllTrue, FirstFails, Errs, of_callee, errs}
use Rattle.fort_laws.specs.Segments.{KeepsUnsmashed}
use Rattle.step_laws.specs.Unfolded.{run_from}
use Rattle.fort_laws.specs.WholeRuns.{clock_of, IsTrueAt}
use Rattle.fort_laws.proofs.Descents.{true_left, true_right}
use Rattle.fort_laws.proofs.Entering.{begun_placed, entry_stood, entry_true}
use Rattle.fort_laws.proofs.ErrorsAtEntry.{unit, here, start, known, at, same_walk}
use Rattle.fort_laws.proofs.ErrorsLater.{erred_later, none_done}
use Rattle.fort_laws.proofs.ErrorsOfUnits.{runs_arrive_or_err}
use Rattle.fort_laws.proofs.ErrorsOnArrival.{checks_fail, failing_kind, are_at_assert}
use Rattle.fort_laws.proofs.ErrorsParting.{fails_behind}
use Rattle.fort_laws.proofs.FewSymbols.{answered, begun, numbered, assert_is, same_facts, start_true, same_walks}
use Rattle.fort_laws.proofs.Matching.{all_true_append, fails_later}
use Rattle.fort_laws.proofs.Near.{line_from}
use Rattle.fort_laws.proofs.SafeRuns.{no_answers, end_is, none_at}
use Rattle.fort_laws.proofs.SafeUnits.{smashed_have_types}
use Rattle.step_laws.proofs.Tied.{at_most_or}
use Rattle.step_laws.proofs.Unfolding.{runs_unfold}

same_erred : {A : Type 0} (k kind : Kind) (c card : ℕ) (after last : Storage) → ◌≡◌ {A = Outcome A} (Erred k c after) (Erred kind card last) → (k ≡ kind) × (c ≡ card) × (after ≡ last)
same_erred k kind c card after last e = (cc, cc, cc)

module _ (program : Program) (p : Processor) (i : ℕ) (u : Routine) (order : IsInOrder program p i u) (fitting : FitsUnit u (notes_of program i))
    (good : (env : Environment) → LieApart program.units i u env → AreGood program i u env) (env : Environment) (st : Storage) (apart : IsApart program.units i u env) (fits : Fits p u env st)
    (met : IsMet program.functions p (names_hold u env st cell.Undefined) (names_hold u env st cell.Undefined) (notes_of program i).input) (kind : Kind) (card : ℕ) where
  abbrev own : Environment
  own x = here program p i u order fitting good env st apart fits met x

  abbrev first : Storage
  first = start program p i u order fitting good env st apart fits met

  abbrev entry_known : Symbol → Value
  entry_known = known program p i u order fitting good env st apart fits met

  abbrev w : Sight Value
  w = at program p i u order fitting good env st apart fits met

  abbrev Failing : Kind → ℕ → Type 0
  Failing found place = FailingPath p program i u env st found place

  abbrev Result : Type 0
  Result = Blamed p program i u env st kind card

  abbrev Keeps : Named Value → Type 0
  Keeps now = KeepsUnsmashed program.functions entry_known program i (at_home p program u own) now

  abbrev IsTrue : Assertion → Named Value → Type 0
  IsTrue a now = IsTrueAt program.functions entry_known program i (at_home p program u own) a now

  abbrev run_at : ℕ → Storage → ℕ → Outcome (Unit {0})
  run_at pc before n = run_from p program.units u own pc before n

  facts : AllTrue (takes (entry_facts w))
  facts = entry_true program p i u (unit program p i u order fitting good env st apart fits met) env st apart fits order.bounded fitting met

  -- where a check fails on a way from a point, it fails on a path
  abbrev Lifts : Option (List Value) → ℕ → Named Value → Type 0
  Lifts clock pc now =
      (answers : Answers Value) (way : List (List ℕ)) → IsWay program.dialect u (notes_of program i) pc way → (found : Kind) (place : ℕ) → FirstFails found place (walk_from w clock pc now answers way) → Failing found place

  -- ---- from the entry

  entry_path : (answers : Answers Value) (way : List (List ℕ)) → IsWayIn program.dialect u (notes_of program i) way → (found : Kind) (place : ℕ)
      → FirstFails found place (arrive w None 0 (cut_at u (notes_of program i) 0) (at_entry w) (walk_from w None 0 (at_entry w) answers way)) → Failing found place
  unfolding answered
  entry_path answers way is found place f =
      let values : Symbol → Value = answered entry_known answers in
      let stand : StandAtEntry values p u env st = record { least = refl; greatest = refl; entries = λ x. refl } in
      record {
        values = values;
        stand = stand;
        path = record { start = 0; choices = way };
        is_path = is;
        fails = subst (λ (es : List (Event Value)). FirstFails found place es) (sym (same_walk program p i u order fitting good env st apart fits met values stand answers way))
            (fails_later found place (takes (entry_facts w)) _ facts f);
      }

  entry_lifts : cut_at u (notes_of program i) 0 ≡ NoCut → Lifts None 0 (at_entry w)
  entry_lifts c answers way is found place f =
      entry_path answers way (subst (λ (k : Cut). over_or program.dialect u (notes_of program i) k way (IsWay program.dialect u (notes_of program i) 0 way)) (sym c) is) found place
      (subst (λ (k : Cut). FirstFails found place (arrive w None 0 k (at_entry w) (walk_from w None 0 (at_entry w) answers way))) (sym c) f)

  -- ---- from an ASSERT

  assert_lifts : (a : Assertion) (q : ℕ) (now : Named Value) (before : Storage) → cut_at u (notes_of program i) q ≡ AtAssert a → Stood p u own now before → Keeps now → IsTrue a now
      → Lifts (Some (clock_of program.functions entry_known program i (at_home p program u own) a now)) q now
  unfolding begun
  assert_lifts a q now before c stood kept t answers way is found place f =
      let fs = program.functions in
      let values : Symbol → Value = begun entry_known now answers in
      let two = sight (of_values fs values) program i u in
      let n = numbered (notes_of program i).asserts q a (assert_is (slice_get u.lines q) (assertion_at (notes_of program i) q) a c) in
      let typed = smashed_have_types entry_known program p i u own refl refl order.sound order.is now before stood kept in
      let told : Tree → Value = note (of_values fs values) (at_entry two) (at_start two) in
      let calls : Answers Value = answers in
      let front : AllTrue (takes (entry_facts two) ++ takes (start_facts two a)) =
      all_true_append (takes (entry_facts two)) (takes (start_facts two a))
      (subst (λ (ts : List Value). AllTrue (takes ts)) (same_facts fs entry_known program i (at_home p program u own) now answers kept) facts)
      (start_true fs entry_known program i (at_home p program u own) now answers kept a typed t) in
      let there : FirstFails found place (walk_from two (Some (map told a.clock)) a.point (at_start two) calls way) =
      subst (λ (pc : ℕ). FirstFails found place (walk_from two (Some (map told a.clock)) pc (at_start two) calls way)) (sym n.point)
      (subst (λ (es : List (Event Value)). FirstFails found place es) (same_walks fs entry_known program i (at_home p program u own) now answers kept a q way) f) in
      record {
        values = values;
        stand = record { least = refl; greatest = refl; entries = λ x. refl };
        path = record { start = suc n.number; choices = way };
        is_path = subst (λ (o : Option Assertion). starts_at program.dialect u (notes_of program i) o way) (sym n.among)
            (subst (λ (pc : ℕ). IsWay program.dialect u (notes_of program i) pc way) (sym n.point) is);
        fails = subst (λ (o : Option Assertion). FirstFails found place (from_assert two calls o way)) (sym n.among)
            (fails_later found place (takes (entry_facts two) ++ takes (start_facts two a)) _ front there);
      }

  -- ---- from one cut point to the next

  under : (pc : ℕ) (line : Line) (now : Named Value) (before : Storage) → slice_get u.lines pc ≡ Some line → Stood p u own now before → Keeps now → IsUnderWay entry_known program p i u own pc now before
  under pc line now before e stood kept =
      let placed = begun_placed program p i u (unit program p i u order fitting good env st apart fits met) env st apart fits in
      record { order = order; least = refl; greatest = refl; apart = placed.apart; good = good own placed.apart; line = line; at = e; stood = stood; kept = kept }

  line_at : (q : ℕ) (a : Assertion) → cut_at u (notes_of program i) q ≡ AtAssert a → (line : Line) × (slice_get u.lines q ≡ Some line)
  line_at q a c = go (slice_get u.lines q) refl c
    where
      go : (o : Option Line) → slice_get u.lines q ≡ o → cut_in o (assertion_at (notes_of program i) q) ≡ AtAssert a → (line : Line) × (slice_get u.lines q ≡ Some line)
      go None e k = absurd (cc)
      go (Some line) e k = (line, e)

  -- a run that errs from an ASSERT that is true, with so many steps, is blamed
  abbrev FromAssert : ℕ → Type 0
  FromAssert n =
      (a : Assertion) (q : ℕ) (now : Named Value) (before : Storage) → cut_at u (notes_of program i) q ≡ AtAssert a → Stood p u own now before → Keeps now → IsTrue a now
      → (last : Storage) → run_at q before n ≡ Erred kind card last → Result

  module _ (n : ℕ) (clock : Option (List Value)) (pc : ℕ) (now : Named Value) (before : Storage) (lifts : Lifts clock pc now) (last : Storage) (e : run_at pc before n ≡ Erred kind card last)
      (next : (m : ℕ) → m < n → FromAssert m) where
    abbrev Arrived : Answers Value → List (List ℕ) → Type 0
    Arrived answers way = Comes program.functions entry_known program i (at_home p program u own) clock pc now before answers way

    -- the run errs with more steps too
    more : (k : ℕ) → run_at pc before (k + n) ≡ Erred kind card last
    more k = erred_later p program.units u own pc before n k kind card last e

    at_end : (answers : Answers Value) (way : List (List ℕ)) (r : Arrived answers way) → cut_at u (notes_of program i) r.point ≡ AtEnd → Result
    at_end answers way r c = let bad : Ended tt r.after n ≡ Erred kind card last = sym (r.ends c n) ∙ more r.cost in absurd (cc)

    true_there : (answers : Answers Value) (way : List (List ℕ)) (r : Arrived answers way) (a : Assertion) → cut_at u (notes_of program i) r.point ≡ AtAssert a → AllTrue (walk_from w clock pc now answers way) → IsTrue a r.next
    true_there answers way r a c t =
        all_true_append (checks AssertCheck a.card (map told a.terms) ++ checks ClockCheck a.card (map (λ z. not_negative w (told z)) a.clock)) []
        (true_left (checks AssertCheck a.card (map told a.terms) ++ checks ClockCheck a.card (map (λ z. not_negative w (told z)) a.clock)) (fall w a.card clock (map told a.clock))
        (subst (λ (k : Cut). AllTrue (arrive w clock r.card k r.next [])) c (true_right r.before _ (subst (λ (es : List (Event Value)). AllTrue es) r.walk_is t)))) tt
      where
        told : Tree → Value
        told = note w.sense (at_entry w) r.next

    at_assert : (answers : Answers Value) (way : List (List ℕ)) (r : Arrived answers way) (a : Assertion) → cut_at u (notes_of program i) r.point ≡ AtAssert a → AllTrue (walk_from w clock pc now answers way)
        → (r.cost < n) ⊎ (n ≤ r.cost) → Result
    at_assert answers way r a c t (inl lt) =
        let used : 1 ≤ r.cost = r.used in
        let parts : n ≡ r.cost + (n - r.cost) = omega arith in
        next (n - r.cost) (omega arith) a r.point r.next r.after c r.stood r.kept (true_there answers way r a c t) last
        (sym (r.runs (n - r.cost)) ∙ (sym (ap (run_at pc before) parts) ∙ e))
    at_assert answers way r a c t (inr le) =
        let l = line_at r.point a c in
        let parts : r.cost + 0 ≡ (r.cost - n) + n = omega arith in
        let bad : Running r.after ≡ Erred kind card last = sym (none_done p program.units u own r.point r.after l.0 l.1) ∙ (sym (r.runs 0) ∙ (ap (run_at pc before) parts ∙ more (r.cost - n))) in
        absurd (cc)

    by_cut : (answers : Answers Value) (way : List (List ℕ)) (r : Arrived answers way) → AllTrue (walk_from w clock pc now answers way) → (k : Cut) → cut_at u (notes_of program i) r.point ≡ k → Result
    by_cut answers way r t NoCut c = absurd (subst IsCut c r.cut)
    by_cut answers way r t AtEnd c = at_end answers way r c
    by_cut answers way r t (AtAssert a) c = at_assert answers way r a c t (at_most_or r.cost n)

    blamed_on : (answers : Answers Value) (way : List (List ℕ)) → IsWay program.dialect u (notes_of program i) pc way → (found : Kind) (place : ℕ) → FirstFails found place (walk_from w clock pc now answers way)
        → IsBlamed kind card found place → Result
    blamed_on answers way is found place f why = record { found = found; place = place; path = lifts answers way is found place f; why = why }

    -- a check is false on arrival at an ASSERT; a run that came to the end does not err
    by_failure : (answers : Answers Value) (way : List (List ℕ)) → IsWay program.dialect u (notes_of program i) pc way → (r : Arrived answers way) (found : Kind) (place : ℕ)
        → FirstFails found place (walk_from w clock pc now answers way) → (k : Cut) → cut_at u (notes_of program i) r.point ≡ k → Result
    by_failure answers way is r found place f NoCut c = absurd (subst IsCut c r.cut)
    by_failure answers way is r found place f AtEnd c = at_end answers way r c
    by_failure answers way is r found place f (AtAssert a) c =
        blamed_on answers way is found place f
        (inr (inl (failing_kind IsAtAssert found place _ (are_at_assert program.functions entry_known program i (at_home p program u own) clock r.card a r.next)
        (subst (λ (k : Cut). FirstFails found place (arrive w clock r.card k r.next [])) c
        (fails_behind found place r.before _ r.before_true (subst (λ (es : List (Event Value)). FirstFails found place es) r.walk_is f))))))

    same_error : (k : Kind) (c : ℕ) → Errs k c (run_from p program.units u own pc) before → IsBlamed kind card k c
    same_error k c (of_callee q) = inr (inr q)
    same_error k c (errs after cost h) =
        let one = same_erred k kind c card after last (sym (h n) ∙ more cost) in
        inl (one.0, one.1)

    by_run : (answers : Answers Value) (way : List (List ℕ)) → IsWay program.dialect u (notes_of program i) pc way
        → RunsAs program.functions entry_known program i (at_home p program u own) clock pc now before answers way → Result
    by_run answers way is (arrives r t) = by_cut answers way r t (cut_at u (notes_of program i) r.point) refl
    by_run answers way is (fails_there r k c a f) = by_failure answers way is r k c f (cut_at u (notes_of program i) r.point) refl
    by_run answers way is (errs_on_way k c f h) = blamed_on answers way is k c f (same_error k c h)

    segment : IsUnderWay entry_known program p i u own pc now before → Result
    segment h = let g = runs_arrive_or_err entry_known program p i u own clock pc now before h in by_run g.answers g.way g.is_way g.runs_as

  -- ---- from cut point to cut point

  from_asserts : (bound n : ℕ) → n < bound → FromAssert n
  from_asserts zero n lt a q now before c stood kept t last e = absurd (omega arith)
  from_asserts (suc bound) n lt a q now before c stood kept t last e =
      let l = line_at q a c in
      segment n (Some (clock_of program.functions entry_known program i (at_home p program u own) a now)) q now before (assert_lifts a q now before c stood kept t) last e
      (λ m less. from_asserts bound m (omega arith)) (under q l.0 now before l.1 stood kept)

  from_first : (n : ℕ) (last : Storage) → run_at 0 first n ≡ Erred kind card last → Result
  from_first n last e = by_start (cut_at u (notes_of program i) 0) refl
    where
      stands : Stood p u own (at_entry w) first
      stands = entry_stood program p i u (unit program p i u order fitting good env st apart fits met) env st apart fits

      by_arrival : (a : Assertion) → cut_at u (notes_of program i) 0 ≡ AtAssert a
          → AllTrue (arrive w None 0 (AtAssert a) (at_entry w) []) ⊎ ((k : Kind) × (c : ℕ) × IsAtAssert k × FirstFails k c (arrive w None 0 (AtAssert a) (at_entry w) [])) → Result
      by_arrival a c (inl t) = from_asserts (suc n) n (omega arith) a 0 (at_entry w) first c stands (λ x h. refl) t last e
      by_arrival a c (inr r) = record {
        found = r.0;
        place = r.1;
        path = entry_path no_answers [] (subst (λ (k : Cut). over_or program.dialect u (notes_of program i) k [] (IsWay program.dialect u (notes_of program i) 0 [])) (sym c) refl) r.0 r.1
            (subst (λ (k : Cut). FirstFails r.0 r.1 (arrive w None 0 k (at_entry w) [])) (sym c) r.3);
        why = inr (inl r.2);
      }

      by_start : (k : Cut) → cut_at u (notes_of program i) 0 ≡ k → Result
      by_start NoCut c = let l = line_from program.dialect u (notes_of program i) 0 c in
          segment n None 0 (at_entry w) first (entry_lifts c) last e (λ m less. from_asserts (suc m) m (omega arith)) (under 0 l.0 (at_entry w) first l.1 stands (λ x h. refl))
      by_start AtEnd c =
          let bad : Ended tt first n ≡ Erred kind card last =
          sym (end_is program.functions entry_known program i (at_home p program u own) order.dialects 0 first n (none_at program.functions entry_known program i (at_home p program u own) order.dialects 0 c)) ∙ e in absurd (cc)
      by_start (AtAssert a) c = by_arrival a c (checks_fail IsAtAssert _ (are_at_assert program.functions entry_known program i (at_home p program u own) None 0 a (at_entry w)))

  -- what errs in a whole run errs behind the entry
  inside : (o : Outcome (Unit {0})) (last : Storage) → and_then o (λ _. leave u own (length st)) ≡ Erred kind card last → o ≡ Erred kind card last
  inside (Ended a after n) last e = absurd (cc)
  inside (Erred k c after) last e =
      let one = same_erred k kind c card after last e in
      ap (λ (z : Kind). Erred z c after) one.0 ∙ (ap (λ (z : ℕ). Erred kind z after) one.1 ∙ ap (λ (z : Storage). Erred kind card z) one.2)
  inside (Running after) last e = absurd (cc)

  pub blamed : (n : ℕ) (last : Storage) → run p program.units u env st n ≡ Erred kind card last → Result
  blamed zero last e = let bad : Running st ≡ Erred kind card last = sym (runs_unfold p program.units u env st 0).0 ∙ e in absurd (cc)
  blamed (suc n) last e = from_first n last (inside (run_at 0 first n) last (sym (runs_unfold p program.units u env st (suc n)).0 ∙ e))

pub erring_runs_are_blamed : ErringRunsAreBlamed
erring_runs_are_blamed program p i u order fitting good env st apart fits met n kind card after e = blamed program p i u order fitting good env st apart fits met kind card n after e
