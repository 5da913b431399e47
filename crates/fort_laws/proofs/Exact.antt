-- The conditions of a program are exact.
use Rattle.std.proofs.Common.{◌≡◌, ℕ, suc, ◌<◌, ◌≤◌, Bool, true, false, cond, not, ◌&&◌, List, [], ◌∷◌, ◌++◌, refl, sym, ap, ◌∙◌, subst, arith, rules}
use Rattle.std.specs.Prelude.{nat_le, ◌==◌}
use Rattle.std.specs.List.{list_all}
use Rattle.fort_syntax.specs.Conditions.{ConditionTree}
use Rattle.formula.specs.declared.value.Value.{Value}
use Rattle.formula.specs.Substitution.{substituted, row_substituted}
use Rattle.formula.specs.Tree.{Tree, num, truth, symbol, old, apply, Row, none, more, tree_row}
use Rattle.formula.specs.Values.{holds, applied}
use Rattle.formula.specs.Worth.{Function, Valuation, used, worth, worth_by, worths_by, function_worth, nothing_known, is_true_under}
use Rattle.fort_syntax.specs.declared.name.Name.{Name}
use Rattle.fort_syntax.specs.declared.condition.Kind.{Kind}
use Rattle.fort_syntax.specs.declared.unit.Unit.{Unit as Routine}
use Rattle.fort_model.specs.Conditions.{sight, walked, checks_of, conditions_from, conditions_along, conditions_of_units, CheckSite, sites_from, sites_along, sites_of_units, AreExactFor}
use Rattle.fort_model.specs.Events.{Event, Check, Take, Verdict, Fails, Off, verdict, verdict_from, reaches, fails_at, labels}
use Rattle.fort_model.specs.Paths.{Path}
use Rattle.fort_model.specs.Program.{Program}
use Rattle.fort_model.specs.Senses.{Sense, of_values, by_words, of_terms, of_nothing}
use Rattle.fort_model.specs.Walk.{walk}
use Rattle.fort_laws.specs.Exactness.{ConditionsAreExact, ChecksDoNotDependOnValues}
use Rattle.fort_laws.proofs.BothSenses.{Pairwise, Correspond, EventsAlike}
use Rattle.fort_laws.proofs.BothWalks.{walks_alike}

-- ---- terms and values

module _ (fs : List Function) (words : Valuation) where
  abbrev Worth : Tree → Value → Type 0
  Worth t v = worth fs words nothing_known t ≡ v

  worths_row : (ts : List Tree) (vs : List Value) → Pairwise Worth ts vs → worths_by (used fs) words nothing_known (tree_row ts) ≡ vs
  worths_row [] [] h = refl
  worths_row [] (v ∷ vs) h = absurd h
  worths_row (t ∷ ts) [] h = absurd h
  worths_row (t ∷ ts) (v ∷ vs) h =
      ap (λ (x : Value). x ∷ worths_by (used fs) words nothing_known (tree_row ts)) h.0 ∙ ap (λ (xs : List Value). v ∷ xs) (worths_row ts vs h.1)

  module _ (now : List ℕ → Tree) (now' : Valuation) (entry : List ℕ → Tree) (entry' : Valuation) (h : (w : List ℕ) → Worth (now w) (now' w)) (k : (w : List ℕ) → Worth (entry w) (entry' w)) where
    mutual
      told_worth : (t : Tree) → worth_by (used fs) words nothing_known (substituted now entry t) ≡ worth_by (used fs) now' entry' t
      told_worth (num z) = refl
      told_worth (truth b) = refl
      told_worth (symbol w) = h w
      told_worth (old w) = k w
      told_worth (apply g row) = ap (λ (vs : List Value). function_worth (used fs) g vs) (told_row row)

      told_row : (row : Row) → worths_by (used fs) words nothing_known (row_substituted now entry row) ≡ worths_by (used fs) now' entry' row
      told_row none = refl
      told_row (more t rest) =
          ap (λ (v : Value). v ∷ worths_by (used fs) words nothing_known (row_substituted now entry rest)) (told_worth t)
          ∙ ap (λ (vs : List Value). worth_by (used fs) now' entry' t ∷ vs) (told_row rest)

  terms_and_values : Correspond Worth of_terms (of_values fs (by_words words))
  terms_and_values = record {
    number = λ z. refl;
    truth_value = λ b. refl;
    make = λ g xs ys h. ap (λ (vs : List Value). applied g vs) (worths_row xs ys h);
    told = λ now now' entry entry' h k t. told_worth now now' entry entry' h k t;
    least = refl;
    greatest = refl;
    entries = λ x. refl;
  }

-- anything corresponds to nothing
abbrev Whatever : {V : Type 0} → V → Unit {0} → Type 0
Whatever v w = Unit {0}

with_nothing : {V : Type 0} (s : Sense V) → Correspond (Whatever {V = V}) s of_nothing
with_nothing s = record { number = λ z. tt; truth_value = λ b. tt; make = λ g xs ys h. tt; told = λ now now' entry entry' h k t. tt; least = tt; greatest = tt; entries = λ x. tt }

-- events that correspond have the same kinds and cards
same_labels : {V W : Type 0} (R : V → W → Type 0) (es : List (Event V)) (fs : List (Event W)) → Pairwise (EventsAlike R) es fs → labels es ≡ labels fs
same_labels R [] [] h = refl
same_labels R [] (f ∷ fs) h = absurd h
same_labels R (e ∷ es) [] h = absurd h
same_labels R (Check kind card v ∷ es) (Check kind' card' w ∷ fs) h =
    ap (λ (x : Kind). (x, card) ∷ labels es) h.0.0 ∙ ap (λ (x : ℕ). (kind', x) ∷ labels es) h.0.1 ∙ ap (λ (ls : List (Kind × ℕ)). (kind', card') ∷ ls) (same_labels R es fs h.1)
same_labels R (Check kind card v ∷ es) (Take w ∷ fs) h = absurd h.0
same_labels R (Take v ∷ es) (Check kind card w ∷ fs) h = absurd h.0
same_labels R (Take v ∷ es) (Take w ∷ fs) h = same_labels R es fs h.1

pub checks_do_not_depend_on_values : ChecksDoNotDependOnValues
checks_do_not_depend_on_values p i u values path =
    same_labels Whatever _ _ (walks_alike Whatever (of_values p.functions values) of_nothing (with_nothing (of_values p.functions values)) p i u (λ x. tt) path)

-- ---- verdicts

reaches_either : (b : Bool) (w z : Verdict) (k : ℕ) → reaches w k ≡ true → reaches z k ≡ true → reaches (cond b w z) k ≡ true
reaches_either true w z k h l = h
reaches_either false w z k h l = l

fails_either : (b : Bool) (w z : Verdict) (k : ℕ) → fails_at w k ≡ false → fails_at z k ≡ false → fails_at (cond b w z) k ≡ false
fails_either true w z k h l = h
fails_either false w z k h l = l

at_most : (k n : ℕ) → k ≤ n → nat_le k n ≡ true
at_most k n h = search rules

not_the_same : (k n : ℕ) → k ≤ n → (suc n == k) ≡ false
not_the_same k n h = search rules

-- behind checks that held, a walk reaches each of them and fails at none
reaches_past : (es : List (Event Value)) (n k : ℕ) → k ≤ n → reaches (verdict_from n es) k ≡ true
reaches_past [] n k h = refl
reaches_past (Check kind card v ∷ es) n k h = reaches_either (holds v) _ _ k (reaches_past es (suc n) k (omega arith)) (at_most k (suc n) (omega arith))
reaches_past (Take v ∷ es) n k h = reaches_either (holds v) _ _ k (reaches_past es n k h) (at_most k n h)

fails_past : (es : List (Event Value)) (n k : ℕ) → k ≤ n → fails_at (verdict_from n es) k ≡ false
fails_past [] n k h = refl
fails_past (Check kind card v ∷ es) n k h = fails_either (holds v) _ _ k (fails_past es (suc n) k (omega arith)) (not_the_same k n h)
fails_past (Take v ∷ es) n k h = fails_either (holds v) _ _ k (fails_past es n k h) refl

-- behind j checks, a walk's verdict is that of what is left where all before held; else it is decided, and reaches no later check
abbrev Status : Verdict → ℕ → List (Event Value) → Bool → Type 0
Status w j es true = w ≡ verdict_from j es
Status w j es false = (k : ℕ) → j < k → (reaches w k ≡ false) × (fails_at w k ≡ false)

failed_before : (j k : ℕ) → j < k → (reaches (Fails j) k ≡ false) × (fails_at (Fails j) k ≡ false)
failed_before j k h = (search rules, search rules)

off_before : (j k : ℕ) → j < k → (reaches (Off j) k ≡ false) × (fails_at (Off j) k ≡ false)
off_before j k h = (search rules, refl)

after_check : (w : Verdict) (j : ℕ) (kind : Kind) (card : ℕ) (v : Value) (es : List (Event Value)) (b : Bool) → Status w j (Check kind card v ∷ es) b → Status w (suc j) es (b && holds v)
after_check w j kind card v es false h = λ k lt. h k (omega arith)
after_check w j kind card v es true h = by_test (holds v) h
  where
    by_test : (t : Bool) → w ≡ cond t (verdict_from (suc j) es) (Fails (suc j)) → Status w (suc j) es t
    by_test true e = e
    by_test false e = λ k lt. (ap (λ (x : Verdict). reaches x k) e ∙ (failed_before (suc j) k lt).0, ap (λ (x : Verdict). fails_at x k) e ∙ (failed_before (suc j) k lt).1)

after_fact : (w : Verdict) (j : ℕ) (v : Value) (es : List (Event Value)) (b : Bool) → Status w j (Take v ∷ es) b → Status w j es (b && holds v)
after_fact w j v es false h = λ k lt. h k lt
after_fact w j v es true h = by_test (holds v) h
  where
    by_test : (t : Bool) → w ≡ cond t (verdict_from j es) (Off j) → Status w j es t
    by_test true e = e
    by_test false e = λ k lt. (ap (λ (x : Verdict). reaches x k) e ∙ (off_before j k lt).0, ap (λ (x : Verdict). fails_at x k) e ∙ (off_before j k lt).1)

reached_here : (w : Verdict) (j : ℕ) (kind : Kind) (card : ℕ) (v : Value) (es : List (Event Value)) (b : Bool) → Status w j (Check kind card v ∷ es) b → b ≡ reaches w (suc j)
reached_here w j kind card v es false h = sym ((h (suc j) (omega arith)).0)
reached_here w j kind card v es true h = sym (ap (λ (x : Verdict). reaches x (suc j)) h ∙ by_test (holds v))
  where
    by_test : (t : Bool) → reaches (cond t (verdict_from (suc j) es) (Fails (suc j))) (suc j) ≡ true
    by_test true = reaches_past es (suc j) (suc j) (omega arith)
    by_test false = search rules

false_here : (w : Verdict) (j : ℕ) (kind : Kind) (card : ℕ) (v : Value) (es : List (Event Value)) (b : Bool) → Status w j (Check kind card v ∷ es) b → (b && not (holds v)) ≡ fails_at w (suc j)
false_here w j kind card v es false h = sym ((h (suc j) (omega arith)).1)
false_here w j kind card v es true h = sym (ap (λ (x : Verdict). fails_at x (suc j)) h ∙ by_test (holds v))
  where
    by_test : (t : Bool) → fails_at (cond t (verdict_from (suc j) es) (Fails (suc j))) (suc j) ≡ not t
    by_test true = fails_past es (suc j) (suc j) (omega arith)
    by_test false = search rules

-- ---- the conditions of one walk

and_true : (b : Bool) → (b && true) ≡ b
and_true true = refl
and_true false = refl

and_more : (b c d e : Bool) → c ≡ d && e → (b && c) ≡ (b && d) && e
and_more true c d e h = h
and_more false c d e h = refl

all_append : {A : Type 0} (test : A → Bool) (xs : List A) (x : A) → list_all test (xs ++ x ∷ []) ≡ list_all test xs && test x
all_append test [] x = and_true (test x)
all_append test (y ∷ xs) x = and_more (test y) _ _ _ (all_append test xs x)

-- what comes behind the first event
abbrev behind_first : List (Event Value) → List (Event Value)
behind_first [] = []
behind_first (e ∷ es) = es

module _ (fs : List Function) where
  abbrev Along : Valuation → List (Event Tree) → List (Event Value) → Type 0
  Along words es vs = Pairwise (EventsAlike (Worth fs words)) es vs

  first_check : (words : Valuation) (kind : Kind) (card : ℕ) (t : Tree) (es : List (Event Tree)) (vs : List (Event Value)) → Along words (Check kind card t ∷ es) vs
      → (vs ≡ Check kind card (worth fs words nothing_known t) ∷ behind_first vs) × Along words es (behind_first vs)
  first_check words kind card t es [] h = absurd h
  first_check words kind card t es (Check kind' card' v ∷ vs) h = (
    sym (ap (λ (x : Kind). Check x card (worth fs words nothing_known t) ∷ vs) h.0.0 ∙ ap (λ (x : ℕ). Check kind' x (worth fs words nothing_known t) ∷ vs) h.0.1
        ∙ ap (λ (x : Value). Check kind' card' x ∷ vs) h.0.2),
    h.1,
  )
  first_check words kind card t es (Take v ∷ vs) h = absurd h.0

  first_fact : (words : Valuation) (t : Tree) (es : List (Event Tree)) (vs : List (Event Value)) → Along words (Take t ∷ es) vs
      → (vs ≡ Take (worth fs words nothing_known t) ∷ behind_first vs) × Along words es (behind_first vs)
  first_fact words t es [] h = absurd h
  first_fact words t es (Check kind card v ∷ vs) h = absurd h.0
  first_fact words t es (Take v ∷ vs) h = (sym (ap (λ (x : Value). Take x ∷ vs) h.0), h.1)

  module _ (unit : Name) (path : ℕ) (whole : Valuation → List (Event Value)) where
    abbrev hold : Valuation → List Tree → Bool
    hold words hyps = list_all (is_true_under fs words nothing_known) hyps

    exact_from : (es : List (Event Tree)) (j : ℕ) (hyps : List Tree) (rest : Valuation → List (Event Value))
        → ((words : Valuation) → Along words es (rest words))
        → ((words : Valuation) → Status (verdict (whole words)) j (rest words) (hold words hyps))
        → AreExactFor fs (conditions_from unit path (suc j) hyps es) (sites_from unit path (suc j) (labels es) whole)
    exact_from [] j hyps rest along status = tt
    exact_from (Check kind card t ∷ es) j hyps rest along status = (
      record {
        unit = refl;
        path = refl;
        check = refl;
        kind = refl;
        card = refl;
        reached = λ words. reached_here (verdict (whole words)) j kind card (worth fs words nothing_known t) (behind_first (rest words)) (hold words hyps) (first words);
        false = λ words. false_here (verdict (whole words)) j kind card (worth fs words nothing_known t) (behind_first (rest words)) (hold words hyps) (first words);
      },
      exact_from es (suc j) (hyps ++ t ∷ []) (λ words. behind_first (rest words)) (λ words. (first_check words kind card t es (rest words) (along words)).1)
          (λ words. subst (Status (verdict (whole words)) (suc j) (behind_first (rest words))) (sym (all_append (is_true_under fs words nothing_known) hyps t))
          (after_check (verdict (whole words)) j kind card (worth fs words nothing_known t) (behind_first (rest words)) (hold words hyps) (first words))),
    )
      where
        first : (words : Valuation) → Status (verdict (whole words)) j (Check kind card (worth fs words nothing_known t) ∷ behind_first (rest words)) (hold words hyps)
        first words = subst (λ (vs : List (Event Value)). Status (verdict (whole words)) j vs (hold words hyps)) (first_check words kind card t es (rest words) (along words)).0 (status words)
    exact_from (Take t ∷ es) j hyps rest along status =
        exact_from es j (hyps ++ t ∷ []) (λ words. behind_first (rest words)) (λ words. (first_fact words t es (rest words) (along words)).1)
        (λ words. subst (Status (verdict (whole words)) j (behind_first (rest words))) (sym (all_append (is_true_under fs words nothing_known) hyps t))
        (after_fact (verdict (whole words)) j (worth fs words nothing_known t) (behind_first (rest words)) (hold words hyps) (first words)))
      where
        first : (words : Valuation) → Status (verdict (whole words)) j (Take (worth fs words nothing_known t) ∷ behind_first (rest words)) (hold words hyps)
        first words = subst (λ (vs : List (Event Value)). Status (verdict (whole words)) j vs (hold words hyps)) (first_fact words t es (rest words) (along words)).0 (status words)

-- ---- all of them

append_exact : (fs : List Function) (cs : List ConditionTree) (ss : List CheckSite) (ds : List ConditionTree) (ts : List CheckSite)
    → AreExactFor fs cs ss → AreExactFor fs ds ts → AreExactFor fs (cs ++ ds) (ss ++ ts)
append_exact fs [] [] ds ts h k = k
append_exact fs [] (x ∷ ss) ds ts h k = absurd h
append_exact fs (c ∷ cs) [] ds ts h k = absurd h
append_exact fs (c ∷ cs) (x ∷ ss) ds ts h k = (h.0, append_exact fs cs ss ds ts h.1 k)

module _ (p : Program) where
  exact_path : (i : ℕ) (u : Routine) (n : ℕ) (path : Path)
      → AreExactFor p.functions (conditions_from u.name n 1 [] (walk (sight of_terms p i u) path)) (sites_from u.name n 1 (checks_of p i u path) (λ words. walked p i u words path))
  exact_path i u n path =
      subst (λ (ls : List (Kind × ℕ)). AreExactFor p.functions (conditions_from u.name n 1 [] (walk (sight of_terms p i u) path)) (sites_from u.name n 1 ls (λ words. walked p i u words path)))
      (same_labels Whatever _ _ (walks_alike Whatever of_terms of_nothing (with_nothing of_terms) p i u (λ x. tt) path))
      (exact_from p.functions u.name n (λ words. walked p i u words path) (walk (sight of_terms p i u) path) 0 [] (λ words. walked p i u words path)
      (λ words. walks_alike (Worth p.functions words) of_terms (of_values p.functions (by_words words)) (terms_and_values p.functions words) p i u (λ x. refl) path)
      (λ words. refl))

  exact_along : (i : ℕ) (u : Routine) (n : ℕ) (paths : List Path) → AreExactFor p.functions (conditions_along p i u n paths) (sites_along p i u n paths)
  exact_along i u n [] = tt
  exact_along i u n (path ∷ paths) = append_exact p.functions _ _ _ _ (exact_path i u n path) (exact_along i u (suc n) paths)

  exact_units : (i : ℕ) (us : List Routine) (all : List (List Path)) → AreExactFor p.functions (conditions_of_units p i us all) (sites_of_units p i us all)
  exact_units i [] all = tt
  exact_units i (u ∷ us) [] = tt
  exact_units i (u ∷ us) (paths ∷ rest) = append_exact p.functions _ _ _ _ (exact_along i u 1 paths) (exact_units (suc i) us rest)

pub conditions_are_exact : ConditionsAreExact
conditions_are_exact p paths all = record { paths = paths; all = all; exact = exact_units p 0 p.units paths }
