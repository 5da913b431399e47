-- Two parts of runs that come to the same with every stock below a bound, and to which more steps do no harm.
use Rattle.std.proofs.Common.{◌≡◌, ℕ, zero, suc, ◌+◌, ◌-◌, ◌<◌, ◌≤◌, ◌⊎◌, inl, inr, Bool, true, false, cond, refl, sym, ap, ◌∙◌, subst, arith}
use Rattle.fort_syntax.specs.declared.condition.Kind.{Kind}
use Rattle.fort_model.specs.Outcome.{Outcome, Ended, Erred, Running, and_then, Act, ◌>>=◌, ◌>>◌, give, fail, check, step, stuck, held, put}
use Rattle.fort_model.specs.Storage.{Storage}
use Rattle.step_laws.specs.Steps.{IsRunning}

-- what a part of a run comes to, by its stock, where stocks stay below a bound: it ends with every stock from
-- `used` on, or errs with every such stock, and is running with smaller ones; or it is running with all up to n
pub data Behaves {A : Type 0} (bound : ℕ) (f : ℕ → Outcome A) (n : ℕ) : Type 0 where
  ends : (a : A) (st : Storage) (used : ℕ) → used ≤ n → ((m : ℕ) → used ≤ m → m < bound → f m ≡ Ended a st (m - used))
      → ((m : ℕ) → m < used → IsRunning (f m)) → Behaves bound f n
  errs : (kind : Kind) (card : ℕ) (st : Storage) (used : ℕ) → used ≤ n → ((m : ℕ) → used ≤ m → m < bound → f m ≡ Erred kind card st)
      → ((m : ℕ) → m < used → IsRunning (f m)) → Behaves bound f n
  runs : ((m : ℕ) → m ≤ n → IsRunning (f m)) → Behaves bound f n

abbrev pub Tied : {A : Type 0} → ℕ → Act A → Act A → Type 0
Tied bound a b = (st : Storage) (n : ℕ) → n < bound → Behaves bound (a st) n × (a st n ≡ b st n)

-- ---- running

running_then : {A B : Type 0} (o : Outcome A) (next : A → Act B) → IsRunning o → IsRunning (and_then o next)
running_then (Ended a st n) next h = absurd h
running_then (Erred kind card st) next h = absurd h
running_then (Running st) next h = tt

running_same : {A B : Type 0} (o : Outcome A) (next other : A → Act B) → IsRunning o → and_then o next ≡ and_then o other
running_same (Ended a st n) next other h = absurd h
running_same (Erred kind card st) next other h = absurd h
running_same (Running st) next other h = refl

pub at_most_or : (m n : ℕ) → (m < n) ⊎ (n ≤ m)
at_most_or zero zero = inr (omega arith)
at_most_or zero (suc n) = inl (omega arith)
at_most_or (suc m) zero = inr (omega arith)
at_most_or (suc m) (suc n) = one_up (at_most_or m n)
  where
    one_up : (m < n) ⊎ (n ≤ m) → (suc m < suc n) ⊎ (suc n ≤ suc m)
    one_up (inl h) = inl (omega arith)
    one_up (inr h) = inr (omega arith)

-- ---- one part behind another

module _ {A B : Type 0} (bound : ℕ) (a : Act A) (next : A → Act B) (st : Storage) (v : A) (after : Storage) (used : ℕ)
    (at : (m : ℕ) → used ≤ m → m < bound → a st m ≡ Ended v after (m - used)) (before : (m : ℕ) → m < used → IsRunning (a st m)) where
  -- what follows, with what is left
  behind : (m : ℕ) → used ≤ m → m < bound → (a >>= next) st m ≡ next v after (m - used)
  behind m le lt = ap (λ (o : Outcome A). and_then o next) (at m le lt)

  below : (more m : ℕ) → m < bound → ((k : ℕ) → k < more → IsRunning (next v after k)) → m < used + more → IsRunning ((a >>= next) st m)
  below more m lt rest h = pick (at_most_or m used)
    where
      pick : (m < used) ⊎ (used ≤ m) → IsRunning ((a >>= next) st m)
      pick (inl less) = running_then (a st m) next (before m less)
      pick (inr le) = subst IsRunning (sym (behind m le lt)) (rest (m - used) (omega arith))

  then_behaves : (n : ℕ) → n < bound → used ≤ n → Behaves bound (next v after) (n - used) → Behaves bound ((a >>= next) st) n
  then_behaves n lt le (ends w last more le2 at2 before2) =
      ends w last (used + more) (omega arith)
      (λ m h b. behind m (omega arith) b ∙ at2 (m - used) (omega arith) (omega arith) ∙ ap (λ (k : ℕ). Ended w last k) (omega arith))
      (λ m h. below more m (omega arith) before2 h)
  then_behaves n lt le (errs kind card last more le2 at2 before2) =
      errs kind card last (used + more) (omega arith)
      (λ m h b. behind m (omega arith) b ∙ at2 (m - used) (omega arith) (omega arith))
      (λ m h. below more m (omega arith) before2 h)
  then_behaves n lt le (runs all) =
      runs (λ m h. below (suc (n - used)) m (omega arith) (λ k less. all k (omega arith)) (omega arith))

pub tied_then : {A B : Type 0} (bound : ℕ) (a b : Act A) (c d : A → Act B) → Tied bound a b → ((v : A) → Tied bound (c v) (d v))
    → Tied bound (a >>= c) (b >>= d)
tied_then {A} {B} bound a b c d first rest st n lt = by_cases (first st n lt).0
  where
    same : a st n ≡ b st n
    same = (first st n lt).1

    by_cases : Behaves bound (a st) n → Behaves bound ((a >>= c) st) n × ((a >>= c) st n ≡ (b >>= d) st n)
    by_cases (ends v after used le at before) =
        let e : a st n ≡ Ended v after (n - used) = at n le lt in
        let more : Behaves bound (c v after) (n - used) × (c v after (n - used) ≡ d v after (n - used)) = rest v after (n - used) (omega arith) in (
          then_behaves bound a c st v after used at before n lt le more.0,
          ap (λ (o : Outcome A). and_then o c) e ∙ more.1 ∙ ap (λ (o : Outcome A). and_then o d) (sym e ∙ same),
        )
    by_cases (errs kind card after used le at before) =
        let e : a st n ≡ Erred kind card after = at n le lt in (
          errs kind card after used le (λ m h k. ap (λ (o : Outcome A). and_then o c) (at m h k)) (λ m h. running_then (a st m) c (before m h)),
          ap (λ (o : Outcome A). and_then o c) e ∙ ap (λ (o : Outcome A). and_then o d) (sym e ∙ same),
        )
    by_cases (runs all) = (
      runs (λ m h. running_then (a st m) c (all m h)),
      running_same (a st n) c d (all n (omega arith)) ∙ ap (λ (o : Outcome A). and_then o d) same,
    )

pub tied_before : {A B : Type 0} (bound : ℕ) (a b : Act A) (c d : Act B) → Tied bound a b → Tied bound c d → Tied bound (a >> c) (b >> d)
tied_before bound a b c d first rest = tied_then bound a b (λ _. c) (λ _. d) first (λ _. rest)

-- ---- single parts

pub tied_give : {A : Type 0} (bound : ℕ) (v : A) → Tied bound (give v) (give v)
tied_give bound v st n lt = (ends v st 0 (omega arith) (λ m h k. ap (λ (j : ℕ). Ended v st j) (omega arith)) (λ m h. absurd (omega arith)), refl)

pub tied_fail : {A : Type 0} (bound : ℕ) (kind : Kind) (card : ℕ) → Tied {A = A} bound (fail kind card) (fail kind card)
tied_fail bound kind card st n lt = (errs kind card st 0 (omega arith) (λ m h k. refl) (λ m h. absurd (omega arith)), refl)

pub tied_stuck : {A : Type 0} (bound : ℕ) → Tied {A = A} bound stuck stuck
tied_stuck bound st n lt = (runs (λ m h. tt), refl)

pub tied_held : (bound : ℕ) → Tied bound held held
tied_held bound st n lt = (ends st st 0 (omega arith) (λ m h k. ap (λ (j : ℕ). Ended st st j) (omega arith)) (λ m h. absurd (omega arith)), refl)

pub tied_put : (bound : ℕ) (new : Storage) → Tied bound (put new) (put new)
tied_put bound new st n lt = (ends tt new 0 (omega arith) (λ m h k. ap (λ (j : ℕ). Ended tt new j) (omega arith)) (λ m h. absurd (omega arith)), refl)

pub tied_check : (bound : ℕ) (kind : Kind) (card : ℕ) (b : Bool) → Tied bound (check kind card b) (check kind card b)
tied_check bound kind card true = tied_give bound tt
tied_check bound kind card false = tied_fail bound kind card

pub tied_cond : {A : Type 0} (bound : ℕ) (t : Bool) (a b c d : Act A) → Tied bound a b → Tied bound c d → Tied bound (cond t a c) (cond t b d)
tied_cond bound true a b c d h k = h
tied_cond bound false a b c d h k = k

-- ---- a step

-- a part that takes a step and then does another
abbrev IsStepped : {A : Type 0} → Act A → Act A → Type 0
IsStepped a r = ((st : Storage) → IsRunning (a st 0)) × ((st : Storage) (n : ℕ) → a st (suc n) ≡ r st n)

stepped_behaves : {A : Type 0} (bound : ℕ) (a r : Act A) → IsStepped a r → (st : Storage) (n : ℕ) → n < bound → Behaves bound (r st) n → Behaves (suc bound) (a st) (suc n)
stepped_behaves {A} bound a r h st n lt (ends v after used le at before) =
    ends v after (suc used) (omega arith) ends_at running
  where
    ends_at : (m : ℕ) → suc used ≤ m → m < suc bound → a st m ≡ Ended v after (m - suc used)
    ends_at zero j k = absurd (omega arith)
    ends_at (suc m) j k = h.1 st m ∙ at m (omega arith) (omega arith) ∙ ap (λ (i : ℕ). Ended v after i) (omega arith)

    running : (m : ℕ) → m < suc used → IsRunning (a st m)
    running zero j = h.0 st
    running (suc m) j = subst IsRunning (sym (h.1 st m)) (before m (omega arith))
stepped_behaves {A} bound a r h st n lt (errs kind card after used le at before) =
    errs kind card after (suc used) (omega arith) errs_at running
  where
    errs_at : (m : ℕ) → suc used ≤ m → m < suc bound → a st m ≡ Erred kind card after
    errs_at zero j k = absurd (omega arith)
    errs_at (suc m) j k = h.1 st m ∙ at m (omega arith) (omega arith)

    running : (m : ℕ) → m < suc used → IsRunning (a st m)
    running zero j = h.0 st
    running (suc m) j = subst IsRunning (sym (h.1 st m)) (before m (omega arith))
stepped_behaves {A} bound a r h st n lt (runs all) = runs running
  where
    running : (m : ℕ) → m ≤ suc n → IsRunning (a st m)
    running zero j = h.0 st
    running (suc m) j = subst IsRunning (sym (h.1 st m)) (all m (omega arith))

running_at_zero : {A : Type 0} (bound : ℕ) (a r : Act A) → IsStepped a r → (st : Storage) → Behaves bound (a st) 0
running_at_zero bound a r h st = runs running
  where
    running : (m : ℕ) → m ≤ 0 → IsRunning (a st m)
    running zero j = h.0 st
    running (suc m) j = absurd (omega arith)

-- with one step more, the bound is one more
pub tied_stepped : {A : Type 0} (bound : ℕ) (a b r s : Act A) → IsStepped a r → IsStepped b s → ((st : Storage) → a st 0 ≡ b st 0) → Tied bound r s → Tied (suc bound) a b
tied_stepped bound a b r s h k zero_same tied st zero lt = (running_at_zero (suc bound) a r h st, zero_same st)
tied_stepped bound a b r s h k zero_same tied st (suc n) lt =
    let t : Behaves bound (r st) n × (r st n ≡ s st n) = tied st n (omega arith) in
    (stepped_behaves bound a r h st n (omega arith) t.0, h.1 st n ∙ t.1 ∙ sym (k.1 st n))

step_stepped : {A : Type 0} (r : Act A) → IsStepped (step >> r) r
step_stepped r = (λ st. tt, λ st n. refl)

pub tied_step : (bound : ℕ) → Tied bound step step
tied_step zero st n lt = absurd (omega arith)
tied_step (suc bound) st zero lt = (runs only, refl)
  where
    only : (m : ℕ) → m ≤ 0 → IsRunning (step st m)
    only zero j = tt
    only (suc m) j = absurd (omega arith)
tied_step (suc bound) st (suc n) lt = (ends tt st 1 (omega arith) at before, refl)
  where
    at : (m : ℕ) → 1 ≤ m → m < suc bound → step st m ≡ Ended tt st (m - 1)
    at zero j k = absurd (omega arith)
    at (suc m) j k = ap (λ (i : ℕ). Ended tt st i) (omega arith)

    before : (m : ℕ) → m < 1 → IsRunning (step st m)
    before zero j = tt
    before (suc m) j = absurd (omega arith)

pub tied_after_step : {A : Type 0} (bound : ℕ) (r s : Act A) → Tied bound r s → Tied (suc bound) (step >> r) (step >> s)
tied_after_step bound r s tied = tied_stepped bound (step >> r) (step >> s) r s (step_stepped r) (step_stepped s) (λ st. refl) tied

-- a part that begins with a step, and what follows
pub tied_step_then : {A B : Type 0} (bound : ℕ) (r : Act A) (c d : A → Act B) → Tied bound (r >>= c) (r >>= d) → Tied (suc bound) ((step >> r) >>= c) ((step >> r) >>= d)
tied_step_then bound r c d tied =
    tied_stepped bound ((step >> r) >>= c) ((step >> r) >>= d) (r >>= c) (r >>= d) (λ st. tt, λ st n. refl) (λ st. tt, λ st n. refl) (λ st. refl) tied
