-- Parts of walks, in the sense of values, and parts of strict runs: where they go on alike, and where the first event
-- that is false is a check and the run errs with it.
use Rattle.std.proofs.Common.{◌≡◌, ℕ, suc, ◌+◌, inl, inr, Bool, true, false, cond, List, [], ◌∷◌, ◌++◌, refl, sym, ap, ◌∙◌, subst, arith}
use Rattle.formula.specs.declared.value.Value.{Value}
use Rattle.formula.specs.Values.{holds}
use Rattle.fort_syntax.specs.declared.condition.Kind.{Kind}
use Rattle.fort_model.specs.Events.{Event, Check, Take}
use Rattle.fort_model.specs.Outcome.{Outcome, Ended, Erred, Running, and_then, Act, give, check, step, held}
use Rattle.fort_model.specs.Seen.{Answers, Seen, See, ◌>>=◌, see, meet}
use Rattle.fort_model.specs.Storage.{Storage}
use Rattle.fort_laws.specs.Matches.{AllTrue, FirstFails, Errs, of_callee, errs, Matches, moves, fails, Same}

-- a part of a run, and what follows
abbrev pub followed : {B C : Type 0} → Act B → (B → Act C) → Act C
followed act next st n = and_then (act st n) next

pub all_true_append : (es fs : List (Event Value)) → AllTrue es → AllTrue fs → AllTrue (es ++ fs)
all_true_append [] fs h k = k
all_true_append (Check kind card v ∷ es) fs h k = (h.0, all_true_append es fs h.1 k)
all_true_append (Take v ∷ es) fs h k = (h.0, all_true_append es fs h.1 k)

pub fails_later : (kind : Kind) (card : ℕ) (es fs : List (Event Value)) → AllTrue es → FirstFails kind card fs → FirstFails kind card (es ++ fs)
fails_later kind card [] fs h k = k
fails_later kind card (Check k c v ∷ es) fs h l = inl (h.0, fails_later kind card es fs h.1 l)
fails_later kind card (Take v ∷ es) fs h l = (h.0, fails_later kind card es fs h.1 l)

pub fails_before : (kind : Kind) (card : ℕ) (es fs : List (Event Value)) → FirstFails kind card es → FirstFails kind card (es ++ fs)
fails_before kind card [] fs h = absurd h
fails_before kind card (Check k c v ∷ es) fs (inl h) = inl (h.0, fails_before kind card es fs h.1)
fails_before kind card (Check k c v ∷ es) fs (inr h) = inr h
fails_before kind card (Take v ∷ es) fs h = (h.0, fails_before kind card es fs h.1)

pub errs_then : {B C : Type 0} (kind : Kind) (card : ℕ) (act : Act B) (next : B → Act C) (st : Storage) → Errs kind card act st → Errs kind card (followed act next) st
errs_then kind card act next st (of_callee e) = of_callee e
errs_then kind card act next st (errs after cost h) = errs after cost (λ n. ap (λ o. and_then o next) (h n))

module _ {A B C D : Type 0} (Q : A → B → Storage → Type 0) (P : C → D → Storage → Type 0) (part : See Value A) (act : Act B) (f : A → See Value C) (g : B → Act D) (st : Storage) where
  -- what follows, where the first part moved
  module _ (pre : Answers Value → Answers Value) (a : A) (b : B) (after : Storage) (cost : ℕ)
      (true1 : (answers : Answers Value) → AllTrue (part (pre answers)).events) (value1 : (answers : Answers Value) → (part (pre answers)).value ≡ a)
      (rest1 : (answers : Answers Value) → (part (pre answers)).rest ≡ answers) (run1 : (n : ℕ) → act st (cost + n) ≡ Ended b after n) where
    -- the second part of the walk begins as if it stood alone
    second : (answers : Answers Value) → f (part (pre answers)).value (part (pre answers)).rest ≡ f a answers
    second answers = ap (λ (x : A). f x (part (pre answers)).rest) (value1 answers) ∙ ap (f a) (rest1 answers)

    run_second : (more n : ℕ) (o : Outcome D) → g b after (more + n) ≡ o → followed act g st (cost + more + n) ≡ o
    run_second more n o e =
        ap (λ (k : ℕ). and_then (act st k) g) (let same : cost + more + n ≡ cost + (more + n) = omega arith in same) ∙ ap (λ (x : Outcome B). and_then x g) (run1 (more + n)) ∙ e

    moved_then : Matches P (f a) (g b) after → Matches P (part >>= f) (followed act g) st
    moved_then (moves pre2 c d last more true2 value2 rest2 run2 p) =
        moves (λ answers. pre (pre2 answers)) c d last (cost + more)
        (λ answers. all_true_append _ _ (true1 (pre2 answers)) (subst (λ (s : Seen Value C). AllTrue s.events) (sym (second (pre2 answers))) (true2 answers)))
        (λ answers. ap (λ (s : Seen Value C). s.value) (second (pre2 answers)) ∙ value2 answers)
        (λ answers. ap (λ (s : Seen Value C). s.rest) (second (pre2 answers)) ∙ rest2 answers)
        (λ n. run_second more n _ (run2 n)) p
    moved_then (fails pre2 kind card fails2 errs2) =
        fails (λ answers. pre (pre2 answers)) kind card
        (λ answers. fails_later kind card _ _ (true1 (pre2 answers)) (subst (λ (s : Seen Value C). FirstFails kind card s.events) (sym (second (pre2 answers))) (fails2 answers)))
        (errs_second errs2)
      where
        errs_second : Errs kind card (g b) after → Errs kind card (followed act g) st
        errs_second (of_callee e) = of_callee e
        errs_second (errs last more h) = errs last (cost + more) (λ n. run_second more n _ (h n))

  pub matches_then : Matches Q part act st → ((a : A) (b : B) (after : Storage) → Q a b after → Matches P (f a) (g b) after) → Matches P (part >>= f) (followed act g) st
  matches_then (moves pre a b after cost true1 value1 rest1 run1 q) next = moved_then pre a b after cost true1 value1 rest1 run1 (next a b after q)
  matches_then (fails pre kind card fails1 errs1) next = fails pre kind card (λ answers. fails_before kind card _ _ (fails1 answers)) (errs_then kind card act g st errs1)

-- ---- single parts

-- a stock with nothing used
none_used : {B : Type 0} (act : Act B) (st : Storage) (o : ℕ → Outcome B) → ((n : ℕ) → act st n ≡ o n) → (n : ℕ) → act st (0 + n) ≡ o n
none_used act st o h n = ap (act st) (let same : 0 + n ≡ n = omega arith in same) ∙ h n

pub matches_see : {A B : Type 0} (Q : A → B → Storage → Type 0) (a : A) (b : B) (st : Storage) → Q a b st → Matches Q (see a) (give b) st
matches_see Q a b st q =
    moves (λ answers. answers) a b st 0 (λ answers. tt) (λ answers. refl) (λ answers. refl) (none_used (give b) st (λ n. Ended b st n) (λ n. refl)) q

-- nothing is answered, and the storage stays
abbrev pub Stays : {A B : Type 0} → Storage → A → B → Storage → Type 0
Stays st a b after = after ≡ st

-- what follows a part that leaves the storage as it is
pub stays_then : {A B C D : Type 0} (R : A → B → Type 0) (P : C → D → Storage → Type 0) (part : See Value A) (act : Act B) (f : A → See Value C) (g : B → Act D) (st : Storage)
    → Matches (Same st R) part act st → ((a : A) (b : B) → R a b → Matches P (f a) (g b) st) → Matches P (part >>= f) (followed act g) st
stays_then R P part act f g st first next =
    matches_then (Same st R) P part act f g st first (λ a b after q. subst (λ (s : Storage). Matches P (f a) (g b) s) (sym q.0) (next a b q.1))

pub matches_check : (kind : Kind) (card : ℕ) (v : Value) (b : Bool) (st : Storage) → holds v ≡ b → Matches (Same st (λ x y. b ≡ true)) (meet (Check kind card v ∷ [])) (check kind card b) st
matches_check kind card v true st h =
    moves (λ answers. answers) tt tt st 0 (λ answers. (h, tt)) (λ answers. refl) (λ answers. refl) (none_used (check kind card true) st (λ n. Ended tt st n) (λ n. refl)) (refl, refl)
matches_check kind card v false st h =
    fails (λ answers. answers) kind card (λ answers. inr (h, refl, refl)) (errs st 0 (none_used (check kind card false) st (λ n. Erred kind card st) (λ n. refl)))

pub matches_fact : {B : Type 0} (v : Value) (b : B) (st : Storage) → holds v ≡ true → Matches (Stays st) (meet (Take v ∷ [])) (give b) st
matches_fact v b st h =
    moves (λ answers. answers) tt b st 0 (λ answers. (h, tt)) (λ answers. refl) (λ answers. refl) (none_used (give b) st (λ n. Ended b st n) (λ n. refl)) refl

-- a step is taken before a part of a run
pub matches_step : {A B : Type 0} (Q : A → B → Storage → Type 0) (part : See Value A) (act : Act B) (st : Storage) → Matches Q part act st → Matches Q part (followed step (λ _. act)) st
matches_step Q part act st (moves pre a b after cost t v r run q) =
    moves pre a b after (suc cost) t v r (λ n. ap (followed step (λ _. act) st) (let same : suc cost + n ≡ suc (cost + n) = omega arith in same) ∙ run n) q
matches_step Q part act st (fails pre kind card f e) = fails pre kind card f (stepped e)
  where
    stepped : Errs kind card act st → Errs kind card (followed step (λ _. act)) st
    stepped (of_callee e) = of_callee e
    stepped (errs after cost h) = errs after (suc cost) (λ n. ap (followed step (λ _. act) st) (let same : suc cost + n ≡ suc (cost + n) = omega arith in same) ∙ h n)

pub matches_cond : {A B : Type 0} (Q : A → B → Storage → Type 0) (t : Bool) (p p' : See Value A) (a a' : Act B) (st : Storage) → Matches Q p a st → Matches Q p' a' st
    → Matches Q (cond t p p') (cond t a a') st
matches_cond Q true p p' a a' st h k = h
matches_cond Q false p p' a a' st h k = k

-- what things that belong together imply
pub matches_as : {A B : Type 0} (Q P : A → B → Storage → Type 0) (part : See Value A) (act : Act B) (st : Storage) → ((a : A) (b : B) (after : Storage) → Q a b after → P a b after)
    → Matches Q part act st → Matches P part act st
matches_as Q P part act st imply (moves pre a b after cost t v r run q) = moves pre a b after cost t v r run (imply a b after q)
matches_as Q P part act st imply (fails pre kind card f e) = fails pre kind card f e

-- a part of a run that looks at the storage
pub matches_held : {A B : Type 0} (Q : A → B → Storage → Type 0) (part : See Value A) (g : Storage → Act B) (st : Storage) → Matches Q part (g st) st → Matches Q part (followed held g) st
matches_held Q part g st (moves pre a b after cost t v r run q) = moves pre a b after cost t v r run q
matches_held Q part g st (fails pre kind card f (of_callee e)) = fails pre kind card f (of_callee e)
matches_held Q part g st (fails pre kind card f (errs after cost h)) = fails pre kind card f (errs after cost h)

-- what a walk makes of an answer, with nothing met
pub matches_made : {A B C : Type 0} (Q : A → B → Storage → Type 0) (P : C → B → Storage → Type 0) (part : See Value A) (act : Act B) (h : A → C) (st : Storage) → Matches Q part act st
    → ((a : A) (b : B) (after : Storage) → Q a b after → P (h a) b after) → Matches P (part >>= (λ a. see (h a))) act st
matches_made Q P part act h st (moves pre a b after cost t v r run q) imply =
    moves pre (h a) b after cost (λ answers. all_true_append _ _ (t answers) tt) (λ answers. ap h (v answers)) r run (imply a b after q)
matches_made Q P part act h st (fails pre kind card f e) imply = fails pre kind card (λ answers. fails_before kind card _ _ (f answers)) e

-- a part of a run that comes to the same
pub matches_same : {A B : Type 0} (Q : A → B → Storage → Type 0) (part : See Value A) (act other : Act B) (st : Storage) → ((n : ℕ) → other st n ≡ act st n) → Matches Q part act st → Matches Q part other st
matches_same Q part act other st e (moves pre a b after cost t v r run q) = moves pre a b after cost t v r (λ n. e (cost + n) ∙ run n) q
matches_same Q part act other st e (fails pre kind card f g) = fails pre kind card f (over g)
  where
    over : Errs kind card act st → Errs kind card other st
    over (of_callee h) = of_callee h
    over (errs after cost h) = errs after cost (λ n. e (cost + n) ∙ h n)

and_then_twice : {A B C : Type 0} (o : Outcome A) (f : A → Act B) (g : B → Act C) → and_then (and_then o f) g ≡ and_then o (λ a. followed (f a) g)
and_then_twice (Ended a st n) f g = refl
and_then_twice (Erred kind card st) f g = refl
and_then_twice (Running st) f g = refl

-- what follows two parts follows the second
pub matches_twice : {A B C D : Type 0} (Q : A → D → Storage → Type 0) (part : See Value A) (act : Act B) (f : B → Act C) (g : C → Act D) (st : Storage)
    → Matches Q part (followed act (λ b. followed (f b) g)) st → Matches Q part (followed (followed act f) g) st
matches_twice Q part act f g st h = matches_same Q part _ _ st (λ n. and_then_twice (act st n) f g) h

-- what a run makes of an answer, with nothing done
pub matches_given : {A B C : Type 0} (Q : A → B → Storage → Type 0) (P : A → C → Storage → Type 0) (part : See Value A) (act : Act B) (h : B → C) (st : Storage) → Matches Q part act st
    → ((a : A) (b : B) (after : Storage) → Q a b after → P a (h b) after) → Matches P part (followed act (λ b. give (h b))) st
matches_given Q P part act h st (moves pre a b after cost t v r run q) imply =
    moves pre a (h b) after cost t v r (λ n. ap (λ o. and_then o (λ x. give (h x))) (run n)) (imply a b after q)
matches_given Q P part act h st (fails pre kind card f e) imply = fails pre kind card f (errs_then kind card act _ st e)
