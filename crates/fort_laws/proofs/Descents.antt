-- Runs from which no walk fails come to the end of their unit.
use Rattle.std.proofs.Common.{◌≡◌, ℕ, suc, ◌+◌, Bool, true, false, ◌&&◌, ◌||◌, ℤ, int_lt, int_le, List, [], ◌∷◌, ◌++◌, map, length, Option, Some, None, slice_get, refl, sym, ap, ◌∙◌, subst, arith}
use Rattle.formula.specs.declared.value.Value.{Value}
use Rattle.formula.specs.Tree.{Tree}
use Rattle.formula.specs.Values.{holds, num}
use Rattle.formula.specs.Worth.{Function}
use Rattle.fort_syntax.specs.declared.condition.Kind.TheVariants.{AssertCheck, ClockCheck}
use Rattle.fort_syntax.specs.declared.unit.Line.{Line}
use Rattle.fort_model.specs.Evaluate.{Scene}
use Rattle.fort_model.specs.Events.{Event, Check, Take, checks}
use Rattle.fort_model.specs.Paths.{Cut, NoCut, AtEnd, AtAssert, cut_in, cut_at, over_or, IsWay}
use Rattle.fort_notes.specs.Assertions.{Assertion, Notes}
use Rattle.fort_model.specs.Program.{Program, notes_of, assertion_at}
use Rattle.fort_model.specs.Seen.{Named}
use Rattle.fort_model.specs.Senses.{note}
use Rattle.fort_model.specs.Storage.{Storage}
use Rattle.fort_model.specs.Symbols.{Symbol}
use Rattle.fort_model.specs.Walk.{arrive, at_entry, walk_from, fall, falls, not_negative}
use Rattle.fort_model.specs.WalkCalls.{Sight}
use Rattle.fort_laws.specs.Clocks.{are_below, AreNotNegative, IsClock, FallsOnlySoOften, so_often}
use Rattle.fort_laws.specs.GoodStatements.{Stood}
use Rattle.fort_laws.specs.Matches.{AllTrue}
use Rattle.fort_laws.specs.Segments.{NoCheckFails, seen, IsSafe, KeepsUnsmashed, Arrives, at_end, at_assert}
use Rattle.step_laws.specs.Unfolded.{run_from}
use Rattle.fort_laws.specs.WholeRuns.{clock_of, IsTrueAt, AssertsAreSafe, ClocksHave, IsSafeIn, ComesToEnd, SafeRunsEnd}
use Rattle.fort_laws.proofs.Falling.{clocks_fall_only_so_often}
use Rattle.fort_laws.proofs.Near.{line_from}
use Rattle.fort_laws.proofs.SafeRuns.{no_answers, all_checks_true, only_at_end, only_at_assert, end_is, none_at, safe_runs_arrive}

-- ---- clocks in walks

pub true_left : (es fs : List (Event Value)) → AllTrue (es ++ fs) → AllTrue es
true_left [] fs h = tt
true_left (Check kind card v ∷ es) fs h = (h.0, true_left es fs h.1)
true_left (Take v ∷ es) fs h = (h.0, true_left es fs h.1)

pub true_right : (es fs : List (Event Value)) → AllTrue (es ++ fs) → AllTrue fs
true_right [] fs h = h
true_right (Check kind card v ∷ es) fs h = true_right es fs h.1
true_right (Take v ∷ es) fs h = true_right es fs h.1

or_left : (a b : Bool) → a ≡ true → (a || b) ≡ true
or_left true b h = refl
or_left false b h = absurd (grind arith)

below_parts : (a b c d : Bool) → (c ≡ true → d ≡ true) → (a || ((b && (c && true)) || false)) ≡ true → (a || (b && d)) ≡ true
below_parts true b c d f h = refl
below_parts false true true d f h = f refl
below_parts false true false d f h = absurd (grind arith)
below_parts false false c d f h = absurd (grind arith)

length_told : {A B C : Type 0} (f : A → B) (g : B → C) (xs : List A) → length (map g (map f xs)) ≡ length xs
length_told f g [] = refl
length_told f g (x ∷ xs) = ap suc (length_told f g xs)

module _ (fs : List Function) (values : Symbol → Value) (program : Program) (i : ℕ) (s : Scene) where
  abbrev w : Sight Value
  w = seen fs values program i s

  abbrev notes : Notes
  notes = notes_of program i

  -- a clock that has fallen, in numbers
  fallen : (ns os : List Value) → holds (falls w ns os) ≡ true → are_below (map num ns) (map num os) ≡ true
  fallen [] [] h = absurd (grind arith)
  fallen [] (o ∷ os) h = absurd (grind arith)
  fallen (n ∷ []) [] h = absurd (grind arith)
  fallen (n ∷ (m ∷ ns)) [] h = absurd (grind arith)
  fallen (n ∷ []) (o ∷ []) h = or_left (int_lt (num n) (num o)) (int_le (num n) (num o) && false) h
  fallen (n ∷ []) (o ∷ (q ∷ os)) h = absurd (grind arith)
  fallen (n ∷ (m ∷ ns)) (o ∷ []) h = absurd (grind arith)
  fallen (n ∷ (m ∷ ns)) (o ∷ (q ∷ os)) h =
      below_parts (int_lt (num n) (num o)) (int_le (num n) (num o)) (holds (falls w (m ∷ ns) (q ∷ os))) (are_below (map num (m ∷ ns)) (map num (q ∷ os))) (fallen (m ∷ ns) (q ∷ os)) h

  not_negatives : (told : Tree → Value) (card : ℕ) (ts : List Tree) → AllTrue (checks ClockCheck card (map (λ t. not_negative w (told t)) ts)) → AreNotNegative (map num (map told ts))
  not_negatives told card [] h = tt
  not_negatives told card (t ∷ ts) h = (h.0, not_negatives told card ts h.1)

  -- the parts of a clock, in numbers
  abbrev parts_of : Assertion → Named Value → List ℤ
  parts_of a now = map num (clock_of fs values program i s a now)

  module _ (a : Assertion) (now : Named Value) where
    abbrev told : Tree → Value
    told = note w.sense (at_entry w) now

    abbrev terms_here : List (Event Value)
    terms_here = checks AssertCheck a.card (map told a.terms)

    abbrev clock_here : List (Event Value)
    clock_here = checks ClockCheck a.card (map (λ t. not_negative w (told t)) a.clock)

    is_clock : (parts : ℕ) → length a.clock ≡ parts → IsTrueAt fs values program i s a now → IsClock parts (parts_of a now)
    is_clock parts e t = (length_told told num a.clock ∙ e, not_negatives told a.card a.clock (true_right terms_here clock_here (true_left (terms_here ++ clock_here) [] t)))

    -- on arrival from an ASSERT, an ASSERT is true and the clock has fallen
    arrived : (old : List Value) (card : ℕ) → AllTrue (arrive w (Some old) card (AtAssert a) now []) → IsTrueAt fs values program i s a now × (are_below (parts_of a now) (map num old) ≡ true)
    arrived old card t =
        let first : AllTrue (terms_here ++ clock_here) = true_left (terms_here ++ clock_here) (fall w a.card (Some old) (map told a.clock)) t in
        let last : AllTrue (fall w a.card (Some old) (map told a.clock)) = true_right (terms_here ++ clock_here) (fall w a.card (Some old) (map told a.clock)) t in
        (and_nothing (terms_here ++ clock_here) first, fallen (map told a.clock) old last.0)
      where
        and_nothing : (es : List (Event Value)) → AllTrue es → AllTrue (es ++ [])
        and_nothing [] h = tt
        and_nothing (Check kind card v ∷ es) h = (h.0, and_nothing es h.1)
        and_nothing (Take v ∷ es) h = (h.0, and_nothing es h.1)

  -- ---- from ASSERT to ASSERT

  line_at : (q : ℕ) (a : Assertion) → cut_at s.unit notes q ≡ AtAssert a → (line : Line) × (slice_get s.unit.lines q ≡ Some line)
  line_at q a h = go (slice_get s.unit.lines q) refl h
    where
      go : (o : Option Line) → slice_get s.unit.lines q ≡ o → cut_in o (assertion_at notes q) ≡ AtAssert a → (line : Line) × (slice_get s.unit.lines q ≡ Some line)
      go None e c = absurd (grind arith)
      go (Some line) e c = (line, e)

  some_at : (q : ℕ) (a : Assertion) → cut_at s.unit notes q ≡ AtAssert a → slice_get s.unit.lines q ≡ None → ⊥
  some_at q a c none = let l = line_at q a c in no_line l.0 (sym none ∙ l.1)
    where
      no_line : (line : Line) → None ≡ Some line → ⊥
      no_line line e = cc

  -- what comes to the end after some steps
  before : (pc q cost : ℕ) (st after : Storage) → (slice_get s.unit.lines q ≡ None → ⊥) → ((n : ℕ) → run_from s.processor s.units s.unit s.environment pc st (cost + n) ≡ run_from s.processor s.units s.unit s.environment q after n)
      → ComesToEnd fs values program i s q after → ComesToEnd fs values program i s pc st
  before pc q cost st after here runs r = record {
    now = r.now;
    after = r.after;
    cost = cost + r.cost;
    card = r.card;
    ends = λ n. ap (run_from s.processor s.units s.unit s.environment pc st) (let same : cost + r.cost + n ≡ cost + (r.cost + n) = omega arith in same) ∙ runs (r.cost + n) ∙ r.ends n;
    stood = r.stood;
    kept = r.kept;
    met = r.met;
    value = λ _. r.value here;
  }

  module _ (dialects : s.processor.dialect ≡ program.dialect)
      (arrive_from : (clock : Option (List Value)) (pc : ℕ) (line : Line) (now : Named Value) (st : Storage) → slice_get s.unit.lines pc ≡ Some line → Stood s.processor s.unit s.environment now st
      → KeepsUnsmashed fs values program i s now → IsSafe fs values program i s clock pc now → Arrives fs values program i s clock pc st)
      (parts : ℕ) (same : ClocksHave fs values program i s parts) (safe_at : AssertsAreSafe fs values program i s) where
    after_arrival : (old : List Value) (pc : ℕ) (st : Storage) → Arrives fs values program i s (Some old) pc st
        → ((a : Assertion) (q : ℕ) (now : Named Value) (after : Storage) → cut_at s.unit notes q ≡ AtAssert a → Stood s.processor s.unit s.environment now after → KeepsUnsmashed fs values program i s now
        → IsTrueAt fs values program i s a now → IsClock parts (parts_of a now) → are_below (parts_of a now) (map num old) ≡ true → ComesToEnd fs values program i s q after)
        → ComesToEnd fs values program i s pc st
    after_arrival old pc st (at_end now after cost card ends stood kept met value) on = record { now = now; after = after; cost = cost; card = card; ends = ends; stood = stood; kept = kept; met = met; value = λ _. value }
    after_arrival old pc st (at_assert a q now after cost card c runs stood kept t) on =
        let r = arrived a now old card t in
        before pc q cost st after (some_at q a c) runs (on a q now after c stood kept r.0 (is_clock a now parts (same a q c) r.0) r.1)

    from_assert : (old : List ℤ) → FallsOnlySoOften parts old → (a : Assertion) (q : ℕ) (now : Named Value) (st : Storage) → cut_at s.unit notes q ≡ AtAssert a → old ≡ parts_of a now
        → Stood s.processor s.unit s.environment now st → KeepsUnsmashed fs values program i s now → IsTrueAt fs values program i s a now → ComesToEnd fs values program i s q st
    from_assert old (so_often h) a q now st c e stood kept t =
        let l = line_at q a c in
        after_arrival (clock_of fs values program i s a now) q st (arrive_from (Some (clock_of fs values program i s a now)) q l.0 now st l.1 stood kept (safe_at a q now st c stood kept t))
        (λ a2 q2 now2 after2 c2 stood2 kept2 t2 is below.
        from_assert (parts_of a2 now2) (h (parts_of a2 now2) is (subst (λ (os : List ℤ). are_below (parts_of a2 now2) os ≡ true) (sym e) below)) a2 q2 now2 after2 c2 refl stood2 kept2 t2)

    at_once : (a : Assertion) (q : ℕ) (now : Named Value) (st : Storage) → cut_at s.unit notes q ≡ AtAssert a → Stood s.processor s.unit s.environment now st → KeepsUnsmashed fs values program i s now
        → IsTrueAt fs values program i s a now → ComesToEnd fs values program i s q st
    at_once a q now st c stood kept t =
        from_assert (parts_of a now) (clocks_fall_only_so_often parts (parts_of a now) (is_clock a now parts (same a q c) t)) a q now st c refl stood kept t

    first_arrival : (pc : ℕ) (st : Storage) → Arrives fs values program i s None pc st → ComesToEnd fs values program i s pc st
    first_arrival pc st (at_end now after cost card ends stood kept met value) = record { now = now; after = after; cost = cost; card = card; ends = ends; stood = stood; kept = kept; met = met; value = λ _. value }
    first_arrival pc st (at_assert a q now after cost card c runs stood kept t) = before pc q cost st after (some_at q a c) runs (at_once a q now after c stood kept t)

    by_cut : (pc : ℕ) (now : Named Value) (st : Storage) (c : Cut) → cut_at s.unit notes pc ≡ c → Stood s.processor s.unit s.environment now st → KeepsUnsmashed fs values program i s now
        → IsSafeIn fs values program i s pc now → ComesToEnd fs values program i s pc st
    by_cut pc now st NoCut c stood kept safe =
        let l = line_from program.dialect s.unit notes pc c in
        first_arrival pc st
        (arrive_from None pc l.0 now st l.1 stood kept
        (λ way answers is.
        subst (λ (k : Cut). NoCheckFails (arrive w None 0 k now (walk_from w None pc now answers way))) c
        (safe way answers (subst (λ (k : Cut). over_or program.dialect s.unit notes k way (IsWay program.dialect s.unit notes pc way)) (sym c) is))))
    by_cut pc now st AtEnd c stood kept safe = record {
      now = now;
      after = st;
      cost = 0;
      card = 0;
      value = λ here. absurd (here (none_at fs values program i s dialects pc c));
      ends = λ n. ap (run_from s.processor s.units s.unit s.environment pc st) (let none : 0 + n ≡ n = omega arith in none) ∙ end_is fs values program i s dialects pc st n (none_at fs values program i s dialects pc c);
      stood = stood;
      kept = kept;
      met = all_checks_true _ (only_at_end fs values program i s dialects None 0 now)
          (subst (λ (k : Cut). NoCheckFails (arrive w None 0 k now [])) c
          (safe [] no_answers (subst (λ (k : Cut). over_or program.dialect s.unit notes k [] (IsWay program.dialect s.unit notes pc [])) (sym c) refl)));
    }
    by_cut pc now st (AtAssert a) c stood kept safe =
        at_once a pc now st c stood kept (all_checks_true _ (only_at_assert fs values program i s dialects None 0 a now)
        (subst (λ (k : Cut). NoCheckFails (arrive w None 0 k now [])) c
        (safe [] no_answers (subst (λ (k : Cut). over_or program.dialect s.unit notes k [] (IsWay program.dialect s.unit notes pc [])) (sym c) refl))))

pub safe_runs_end : SafeRunsEnd
safe_runs_end fs values program i s least greatest strict bounded dialects dims references calls good cut keep parts same safe_at pc now st stood kept safe =
    by_cut fs values program i s dialects (safe_runs_arrive fs values program i s least greatest strict bounded dialects dims references calls good cut keep) parts same safe_at
    pc now st (cut_at s.unit (notes_of program i) pc) refl stood kept safe
