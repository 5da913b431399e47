-- Statements of walks and of strict runs: how they are put together.
use Rattle.std.proofs.Common.{◌≡◌, ℕ, suc, ◌+◌, true, List, [], ◌∷◌, Option, Some, refl, sym, ap, ◌∙◌, subst, arith}
use Rattle.formula.specs.declared.value.Value.{Value}
use Rattle.formula.specs.Values.{holds}
use Rattle.fort_model.specs.Outcome.{Outcome, Ended, Erred, Running, and_then, Act, give, step}
use Rattle.fort_model.specs.Events.{Take}
use Rattle.fort_model.specs.Seen.{Named, Answers, Seen, See, ◌>>=◌, see, meet}
use Rattle.fort_model.specs.Storage.{Storage}
use Rattle.fort_laws.specs.Matches.{AllTrue, FirstFails, Errs, of_callee, errs, Matches, moves, fails, Same}
use Rattle.fort_laws.specs.StepMatches.{StepMatches, goes, stops}
use Rattle.fort_laws.proofs.Matching.{followed, all_true_append, fails_later, fails_before, errs_then}

-- some choices lead on
pub record HasWay {C : Type 0} (list : C → List ℕ) (leads : List ℕ → Option ℕ) : Type 0 where
  pub choice : C
  pub point : ℕ
  pub to : leads (list choice) ≡ Some point

module _ {C A B : Type 0} (list : C → List ℕ) (leads : List ℕ → Option ℕ) (R : A → B → Storage → Type 0) (Q : Named Value → Storage → Type 0)
    (part : See Value A) (act : Act B) (f : A → C → See Value (Named Value)) (g : B → Act (List ℕ)) (st : Storage) where
  module _ (pre : Answers Value → Answers Value) (a : A) (b : B) (after : Storage) (cost : ℕ)
      (true1 : (answers : Answers Value) → AllTrue (part (pre answers)).events) (value1 : (answers : Answers Value) → (part (pre answers)).value ≡ a)
      (rest1 : (answers : Answers Value) → (part (pre answers)).rest ≡ answers) (run1 : (n : ℕ) → act st (cost + n) ≡ Ended b after n) where
    second : (c : C) (answers : Answers Value) → f (part (pre answers)).value c (part (pre answers)).rest ≡ f a c answers
    second c answers = ap (λ (x : A). f x c (part (pre answers)).rest) (value1 answers) ∙ ap (f a c) (rest1 answers)

    run_second : (more n : ℕ) (o : Outcome (List ℕ)) → g b after (more + n) ≡ o → followed act g st (cost + more + n) ≡ o
    run_second more n o e =
        ap (λ (k : ℕ). and_then (act st k) g) (let same : cost + more + n ≡ cost + (more + n) = omega arith in same) ∙ ap (λ (x : Outcome B). and_then x g) (run1 (more + n)) ∙ e

    stepped_on : StepMatches list leads (f a) (g b) Q after → StepMatches list leads (λ c. part >>= (λ x. f x c)) (followed act g) Q st
    stepped_on (goes c q to pre2 now last more true2 value2 rest2 run2 p) =
        goes c q to (λ answers. pre (pre2 answers)) now last (cost + more)
        (λ answers. all_true_append _ _ (true1 (pre2 answers)) (subst (λ (s : Seen Value (Named Value)). AllTrue s.events) (sym (second c (pre2 answers))) (true2 answers)))
        (λ answers. ap (λ (s : Seen Value (Named Value)). s.value) (second c (pre2 answers)) ∙ value2 answers)
        (λ answers. ap (λ (s : Seen Value (Named Value)). s.rest) (second c (pre2 answers)) ∙ rest2 answers)
        (λ n. run_second more n _ (run2 n)) p
    stepped_on (stops c q to pre2 kind card fails2 errs2) =
        stops c q to (λ answers. pre (pre2 answers)) kind card
        (λ answers. fails_later kind card _ _ (true1 (pre2 answers)) (subst (λ (s : Seen Value (Named Value)). FirstFails kind card s.events) (sym (second c (pre2 answers))) (fails2 answers)))
        (errs_second errs2)
      where
        errs_second : Errs kind card (g b) after → Errs kind card (followed act g) st
        errs_second (of_callee e) = of_callee e
        errs_second (errs last more h) = errs last (cost + more) (λ n. run_second more n _ (h n))

  -- a statement behind a part of it
  pub step_after : Matches R part act st → ((a : A) (b : B) (after : Storage) → R a b after → StepMatches list leads (f a) (g b) Q after) → HasWay list leads
      → StepMatches list leads (λ c. part >>= (λ x. f x c)) (followed act g) Q st
  step_after (moves pre a b after cost true1 value1 rest1 run1 q) next way = stepped_on pre a b after cost true1 value1 rest1 run1 (next a b after q)
  step_after (fails pre kind card fails1 errs1) next way =
      stops way.choice way.point way.to pre kind card (λ answers. fails_before kind card _ _ (fails1 answers)) (errs_then kind card act g st errs1)

-- behind a part that leaves the storage as it is
pub step_stays : {C A B : Type 0} (list : C → List ℕ) (leads : List ℕ → Option ℕ) (R : A → B → Type 0) (Q : Named Value → Storage → Type 0)
    (part : See Value A) (act : Act B) (f : A → C → See Value (Named Value)) (g : B → Act (List ℕ)) (st : Storage)
    → Matches (Same st R) part act st → ((a : A) (b : B) → R a b → StepMatches list leads (f a) (g b) Q st) → HasWay list leads
    → StepMatches list leads (λ c. part >>= (λ x. f x c)) (followed act g) Q st
step_stays list leads R Q part act f g st first next way =
    step_after list leads (Same st R) Q part act f g st first (λ a b after q. subst (λ (s : Storage). StepMatches list leads (f a) (g b) Q s) (sym q.0) (next a b q.1)) way

-- nothing is left to do
pub step_done : {C : Type 0} (list : C → List ℕ) (leads : List ℕ → Option ℕ) (Q : Named Value → Storage → Type 0) (part : C → See Value (Named Value)) (c : C) (q : ℕ) (now : Named Value) (cs : List ℕ) (st : Storage)
    → leads (list c) ≡ Some q → part c ≡ see now → list c ≡ cs → Q now st → StepMatches list leads part (give cs) Q st
step_done list leads Q part c q now cs st to is same h =
    goes c q to (λ answers. answers) now st 0
    (λ answers. subst (λ (p : See Value (Named Value)). AllTrue (p answers).events) (sym is) tt)
    (λ answers. ap (λ (p : See Value (Named Value)). (p answers).value) is) (λ answers. ap (λ (p : See Value (Named Value)). (p answers).rest) is)
    (λ n. ap (λ (k : ℕ). Ended cs st k) (let z : 0 + n ≡ n = omega arith in z) ∙ ap (λ (xs : List ℕ). Ended xs st n) (sym same)) h

-- a step is taken first
pub step_step : {C : Type 0} (list : C → List ℕ) (leads : List ℕ → Option ℕ) (Q : Named Value → Storage → Type 0) (part : C → See Value (Named Value)) (act : Act (List ℕ)) (st : Storage)
    → StepMatches list leads part act Q st → StepMatches list leads part (followed step (λ _. act)) Q st
step_step list leads Q part act st (goes c q to pre now after cost t v r run h) =
    goes c q to pre now after (suc cost) t v r (λ n. ap (followed step (λ _. act) st) (let same : suc cost + n ≡ suc (cost + n) = omega arith in same) ∙ run n) h
step_step list leads Q part act st (stops c q to pre kind card f e) = stops c q to pre kind card f (stepped e)
  where
    stepped : Errs kind card act st → Errs kind card (followed step (λ _. act)) st
    stepped (of_callee h) = of_callee h
    stepped (errs after cost h) = errs after (suc cost) (λ n. ap (followed step (λ _. act) st) (let same : suc cost + n ≡ suc (cost + n) = omega arith in same) ∙ h n)

-- other choices: each of the first ones is one of the second ones
pub step_as : {C D : Type 0} (list : C → List ℕ) (list2 : D → List ℕ) (leads : List ℕ → Option ℕ) (Q : Named Value → Storage → Type 0) (part : C → See Value (Named Value)) (part2 : D → See Value (Named Value))
    (act : Act (List ℕ)) (st : Storage) (h : C → D) → ((c : C) → list2 (h c) ≡ list c) → ((c : C) → part2 (h c) ≡ part c)
    → StepMatches list leads part act Q st → StepMatches list2 leads part2 act Q st
step_as list list2 leads Q part part2 act st h ls ps (goes c q to pre now after cost t v r run k) =
    goes (h c) q (ap leads (ls c) ∙ to) pre now after cost
    (λ answers. subst (λ (p : See Value (Named Value)). AllTrue (p (pre answers)).events) (sym (ps c)) (t answers))
    (λ answers. ap (λ (p : See Value (Named Value)). (p (pre answers)).value) (ps c) ∙ v answers)
    (λ answers. ap (λ (p : See Value (Named Value)). (p (pre answers)).rest) (ps c) ∙ r answers)
    (λ n. run n ∙ ap (λ (xs : List ℕ). Ended xs after n) (sym (ls c))) k
step_as list list2 leads Q part part2 act st h ls ps (stops c q to pre kind card f e) =
    stops (h c) q (ap leads (ls c) ∙ to) pre kind card (λ answers. subst (λ (p : See Value (Named Value)). FirstFails kind card (p (pre answers)).events) (sym (ps c)) (f answers)) e

-- a choice more in front
pub step_chosen : {C : Type 0} (list : C → List ℕ) (leads leads2 : List ℕ → Option ℕ) (Q : Named Value → Storage → Type 0) (part : C → See Value (Named Value)) (act : Act (List ℕ)) (st : Storage) (k : ℕ)
    → ((cs : List ℕ) → leads2 (k ∷ cs) ≡ leads cs) → StepMatches list leads part act Q st
    → StepMatches (λ c. k ∷ list c) leads2 part (followed act (λ cs. give (k ∷ cs))) Q st
step_chosen list leads leads2 Q part act st k same (goes c q to pre now after cost t v r run h) =
    goes c q (same (list c) ∙ to) pre now after cost t v r (λ n. ap (λ (o : Outcome (List ℕ)). and_then o (λ cs. give (k ∷ cs))) (run n)) h
step_chosen list leads leads2 Q part act st k same (stops c q to pre kind card f e) = stops c q (same (list c) ∙ to) pre kind card f (errs_then kind card act _ st e)

-- a part of a run that comes to the same
pub step_same : {C : Type 0} (list : C → List ℕ) (leads : List ℕ → Option ℕ) (Q : Named Value → Storage → Type 0) (part : C → See Value (Named Value)) (act other : Act (List ℕ)) (st : Storage)
    → ((n : ℕ) → other st n ≡ act st n) → StepMatches list leads part act Q st → StepMatches list leads part other Q st
step_same list leads Q part act other st e (goes c q to pre now after cost t v r run h) = goes c q to pre now after cost t v r (λ n. e (cost + n) ∙ run n) h
step_same list leads Q part act other st e (stops c q to pre kind card f g) = stops c q to pre kind card f (over g)
  where
    over : Errs kind card act st → Errs kind card other st
    over (of_callee h) = of_callee h
    over (errs after cost h) = errs after cost (λ n. e (cost + n) ∙ h n)

and_then_thrice : {A B C : Type 0} (o : Outcome A) (f : A → Act B) (g : B → Act C) → and_then o (λ a. followed (f a) g) ≡ and_then (and_then o f) g
and_then_thrice (Ended a st n) f g = refl
and_then_thrice (Erred kind card st) f g = refl
and_then_thrice (Running st) f g = refl

-- two parts taken together before what follows
pub step_joined : {C A B : Type 0} (list : C → List ℕ) (leads : List ℕ → Option ℕ) (Q : Named Value → Storage → Type 0) (part : C → See Value (Named Value)) (act : Act A) (f : A → Act B) (g : B → Act (List ℕ)) (st : Storage)
    → StepMatches list leads part (followed (followed act f) g) Q st → StepMatches list leads part (followed act (λ a. followed (f a) g)) Q st
step_joined list leads Q part act f g st h = step_same list leads Q part _ _ st (λ n. and_then_thrice (act st n) f g) h

-- a single choice
pub step_choice : {C : Type 0} (list : C → List ℕ) (leads : List ℕ → Option ℕ) (Q : Named Value → Storage → Type 0) (part : C → See Value (Named Value)) (act : Act (List ℕ)) (st : Storage) (c : C)
    → StepMatches {C = Unit {0}} (λ u. list c) leads (λ u. part c) act Q st → StepMatches list leads part act Q st
step_choice list leads Q part act st c h = step_as {C = Unit {0}} (λ u. list c) list leads Q (λ u. part c) part act st (λ u. c) (λ u. refl) (λ u. refl) h

-- what follows two parts follows the second
pub step_split : {C A B : Type 0} (list : C → List ℕ) (leads : List ℕ → Option ℕ) (Q : Named Value → Storage → Type 0) (part : C → See Value (Named Value)) (act : Act A) (f : A → Act B) (g : B → Act (List ℕ)) (st : Storage)
    → StepMatches list leads part (followed act (λ a. followed (f a) g)) Q st → StepMatches list leads part (followed (followed act f) g) Q st
step_split list leads Q part act f g st h = step_same list leads Q part _ _ st (λ n. sym (and_then_thrice (act st n) f g)) h

-- a fact is met first
pub step_fact : {C : Type 0} (list : C → List ℕ) (leads : List ℕ → Option ℕ) (Q : Named Value → Storage → Type 0) (part : C → See Value (Named Value)) (act : Act (List ℕ)) (st : Storage) (t : Value) → holds t ≡ true
    → StepMatches list leads part act Q st → StepMatches list leads (λ c. meet (Take t ∷ []) >>= (λ _. part c)) act Q st
step_fact list leads Q part act st t h (goes c q to pre now after cost e v r run k) = goes c q to pre now after cost (λ answers. (h, e answers)) v r run k
step_fact list leads Q part act st t h (stops c q to pre kind card f e) = stops c q to pre kind card (λ answers. (h, f answers)) e

-- a run writes a cell first
pub step_written : {C : Type 0} (list : C → List ℕ) (leads : List ℕ → Option ℕ) (Q : Named Value → Storage → Type 0) (part : C → See Value (Named Value)) (act : Act (List ℕ)) (st after : Storage) (first : Act (Unit {0}))
    → ((n : ℕ) → first st n ≡ Ended tt after n) → StepMatches list leads part act Q after → StepMatches list leads part (followed first (λ _. act)) Q st
step_written list leads Q part act st after first e (goes c q to pre now last cost t v r run k) =
    goes c q to pre now last cost t v r (λ n. ap (λ (o : Outcome (Unit {0})). and_then o (λ _. act)) (e (cost + n)) ∙ run n) k
step_written list leads Q part act st after first e (stops c q to pre kind card f g) = stops c q to pre kind card f (over g)
  where
    over : Errs kind card act after → Errs kind card (followed first (λ _. act)) st
    over (of_callee h) = of_callee h
    over (errs last cost h) = errs last cost (λ n. ap (λ (o : Outcome (Unit {0})). and_then o (λ _. act)) (e (cost + n)) ∙ h n)
