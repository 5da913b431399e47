-- What marks and counts tell.
use Rattle.std.proofs.Common.{◌≡◌, ◌≢◌, inl, inr, ℕ, suc, ◌+◌, ◌≤◌, ◌==◌, Bool, true, false, Option, Some, None, List, [], ◌∷◌, ◌++◌, length, refl, sym, ap, ◌∙◌, subst, true≢false, arith}
use Rattle.std.specs.Prelude.{if◌then◌else◌, nat_le}
use Rattle.std.proofs.lemmas.Bool.Decides.{Decides-eqb}
use Rattle.std.proofs.lemmas.Grind.{common_steps}
use Rattle.formula.specs.declared.definition.Definition.{Definition}
use Rattle.formula.specs.declared.node.Node.{Node}
use Rattle.formula.specs.Worth.{Function}
use Rattle.fort_model.specs.Conditions.{AreValid}
use Rattle.fort_syntax.specs.Conditions.{ConditionTree}
use Rattle.fort_syntax.specs.declared.condition.Condition.{Condition}
use Rattle.prover_box.specs.Answers.{Seen, AreAsked, nothing, next, AreAskedOnce, AreKept, IsKept, IsTold, AreMarked, once_more, one_more, shown, unclosed}
use Rattle.prover_box.specs.Laws.{AreUnclosedValid, raised, FirstRose, EachRose, unclosed_count, DoesTell, AllTell, PassesTold, IsMarkByTests, AreMarksByTests}
use Rattle.prover_box.proofs.Asked.{kept_itself, kept_then, kept_once}

-- ---- those that no prover closed

either_way : (V : Type 0) (mark : ℕ) → (mark ≢ unclosed → V) → (mark ≡ unclosed → V) → V
either_way V mark other same = by_test (mark == unclosed) refl
  where
    by_test : (b : Bool) → (mark == unclosed) ≡ b → V
    by_test true e = same ((Decides-eqb mark unclosed).0 e)
    by_test false e = other (λ is. true≢false (sym ((Decides-eqb mark unclosed).1 is) ∙ e))

pub unclosed_enough : (fs : List Function) (marks : List ℕ) (cs : List ConditionTree) → AreMarked fs marks cs → AreUnclosedValid fs marks cs → AreValid fs cs
unclosed_enough fs [] [] m u = tt
unclosed_enough fs [] (c ∷ cs) m u = absurd m
unclosed_enough fs (mark ∷ marks) [] m u = absurd m
unclosed_enough fs (mark ∷ marks) (c ∷ cs) m u = (either_way _ mark m.0 u.0, unclosed_enough fs marks cs m.1 u.1)

-- there is a mark for each condition
pub marked_length : (fs : List Function) (marks : List ℕ) (cs : List ConditionTree) → AreMarked fs marks cs → length marks ≡ length cs
marked_length fs [] [] m = refl
marked_length fs [] (c ∷ cs) m = absurd m
marked_length fs (mark ∷ marks) [] m = absurd m
marked_length fs (mark ∷ marks) (c ∷ cs) m = ap suc (marked_length fs marks cs m.1)

-- ---- counts

one_longer : {A : Type 0} (xs : List A) (x : A) → length (xs ++ x ∷ []) ≡ suc (length xs)
one_longer [] x = refl
one_longer (y ∷ xs) x = ap suc (one_longer xs x)

unclosed_more : (marks : List ℕ) (mark : ℕ) → unclosed_count (marks ++ mark ∷ []) ≡ unclosed_count marks + (if mark == unclosed then 1 else 0)
unclosed_more [] mark = omega arith
unclosed_more (m ∷ marks) mark =
    let rest = unclosed_more marks mark in
    omega (arith, rest)

raised_then : (j k a b c : ℕ) → raised j a ≤ b → raised k b ≤ c → raised (j + k) a ≤ c
raised_then j k a b c h g = omega (arith, h, g)

each_itself : (ss : List Seen) → EachRose 0 ss ss
each_itself [] = tt
each_itself (s ∷ ss) = (omega arith, each_itself ss)

each_then : (j k : ℕ) (xs ys zs : List Seen) → EachRose j xs ys → EachRose k ys zs → EachRose (j + k) xs zs
each_then j k [] [] [] h g = tt
each_then j k [] [] (z ∷ zs) h g = absurd g
each_then j k [] (y ∷ ys) zs h g = absurd h
each_then j k (x ∷ xs) [] zs h g = absurd h
each_then j k (x ∷ xs) (y ∷ ys) [] h g = absurd g
each_then j k (x ∷ xs) (y ∷ ys) (z ∷ zs) h g = (raised_then j k x.asked y.asked z.asked h.0 g.0, each_then j k xs ys zs h.1 g.1)

shown_is_letter : (letter : ℕ) → shown letter ≢ unclosed
shown_is_letter letter = by_test (nat_le 65 letter) (nat_le letter 90) refl refl
  where
    by_test : (p q : Bool) → nat_le 65 letter ≡ p → nat_le letter 90 ≡ q → shown letter ≢ unclosed
    by_test p q hp hq is = grind (arith, common_steps)

raised_once : (o n : Seen) → n ≡ once_more o → raised 1 o.asked ≤ n.asked
raised_once o n is = let count : n.asked ≡ one_more o.asked = ap (λ (s : Seen). s.asked) is in omega (arith, count)

raised_never : (o n : Seen) → n ≡ once_more o → raised 0 o.asked ≤ n.asked
raised_never o n is = let count : n.asked ≡ one_more o.asked = ap (λ (s : Seen). s.asked) is in omega (arith, count)

module _ (pool : List Node) (ds : List Definition) (c : Condition) where
  none_closed : (os ns : List Seen) (mark : ℕ) → AreAskedOnce pool ds c os ns mark → mark ≡ unclosed → EachRose 1 os ns
  none_closed [] [] mark h is = tt
  none_closed [] (n ∷ ns) mark h is = absurd h
  none_closed (o ∷ os) [] mark h is = absurd h
  none_closed (o ∷ os) (n ∷ ns) mark (e, inl closed) is = absurd (shown_is_letter o.letter (sym closed.2 ∙ is))
  none_closed (o ∷ os) (n ∷ ns) mark (e, inr denied) is = (raised_once o n e, none_closed os ns mark denied.1 is)

  none_fell : (os ns : List Seen) (mark : ℕ) → AreAskedOnce pool ds c os ns mark → EachRose 0 os ns
  none_fell [] [] mark h = tt
  none_fell [] (n ∷ ns) mark h = absurd h
  none_fell (o ∷ os) [] mark h = absurd h
  none_fell (o ∷ os) (n ∷ ns) mark (e, inl closed) = (raised_never o n e, subst (EachRose 0 os) (sym closed.1) (each_itself os))
  none_fell (o ∷ os) (n ∷ ns) mark (e, inr denied) = (raised_never o n e, none_fell os ns mark denied.1)

  each_once : (os ns : List Seen) (mark : ℕ) → AreAskedOnce pool ds c os ns mark → EachRose (if mark == unclosed then 1 else 0) os ns
  each_once os ns mark h = by_test (mark == unclosed) refl
    where
      by_test : (b : Bool) → (mark == unclosed) ≡ b → EachRose (if b then 1 else 0) os ns
      by_test true e = none_closed os ns mark h ((Decides-eqb mark unclosed).0 e)
      by_test false e = none_fell os ns mark h

  first_once : (more : ℕ) (bs os ns : List Seen) (mark : ℕ) → FirstRose more bs os → AreAskedOnce pool ds c os ns mark → FirstRose (suc more) bs ns
  first_once more [] os ns mark r h = tt
  first_once more (b ∷ bs) [] ns mark r h = absurd r
  first_once more (b ∷ bs) (o ∷ os) [] mark r h = absurd h
  first_once more (b ∷ bs) (o ∷ os) (n ∷ ns) mark r h =
      let count : n.asked ≡ one_more o.asked = ap (λ (s : Seen). s.asked) h.0 in
      omega (arith, count, r)

first_itself : (ss : List Seen) → FirstRose 0 ss ss
first_itself [] = tt
first_itself (s ∷ ss) = omega arith

pub rise : (pool : List Node) (ds : List Definition) (before : List Seen) (cs : List Condition) (now : List Seen) (marks : List ℕ) → AreAsked pool ds before cs now marks
    → FirstRose (length cs) before now × EachRose (unclosed_count marks) before now
rise pool ds before _ _ _ nothing = (first_itself before, each_itself before)
rise pool ds before _ _ _ (next {cs = cs} {now = now} {marks = marks} c later mark h one) =
    let so_far = rise pool ds before cs now marks h in (
      subst (λ k. FirstRose k before later) (sym (one_longer cs c)) (first_once pool ds c (length cs) before now later mark so_far.0 one),
      subst (λ k. EachRose k before later) (sym (unclosed_more marks mark))
          (each_then (unclosed_count marks) (if mark == unclosed then 1 else 0) before now later so_far.1 (each_once pool ds c now later mark one)),
    )

-- ---- marks by tests

module _ (pool : List Node) (ds : List Definition) where
  kept_by_one : (c : Condition) (os ns : List Seen) (mark : ℕ) → AreAskedOnce pool ds c os ns mark → AreKept os ns
  kept_by_one c [] [] mark h = tt
  kept_by_one c [] (n ∷ ns) mark h = absurd h
  kept_by_one c (o ∷ os) [] mark h = absurd h
  kept_by_one c (o ∷ os) (n ∷ ns) mark (e, inl closed) = (subst (IsKept o) (sym e) (kept_once o), subst (AreKept os) (sym closed.1) (kept_itself os))
  kept_by_one c (o ∷ os) (n ∷ ns) mark (e, inr denied) = (subst (IsKept o) (sym e) (kept_once o), kept_by_one c os ns mark denied.1)

  pub kept_by_all : (before : List Seen) (cs : List Condition) (now : List Seen) (marks : List ℕ) → AreAsked pool ds before cs now marks → AreKept before now
  kept_by_all before _ _ _ nothing = kept_itself before
  kept_by_all before _ _ _ (next {cs = cs} {now = now} {marks = marks} c later mark h one) =
      kept_then before now later (kept_by_all before cs now marks h) (kept_by_one c now later mark one)

  tell_still : (before now : List Seen) → AreKept before now → AllTell before → AllTell now
  tell_still [] [] k a = tt
  tell_still [] (n ∷ ns) k a = absurd k
  tell_still (b ∷ bs) [] k a = tt
  tell_still (b ∷ bs) (n ∷ ns) k a = (subst DoesTell (sym k.0.test) a.0, tell_still bs ns k.1 a.1)

  passed : (test : Option ℕ) (c : Condition) → DoesTell test → IsTold pool ds c test true → PassesTold pool ds test c
  passed None c tells told = absurd tells
  passed (Some n) c tells told = told.0 refl

  unpassed : (test : Option ℕ) (c : Condition) → DoesTell test → IsTold pool ds c test false → PassesTold pool ds test c → ⊥
  unpassed None c tells told passes = absurd tells
  unpassed (Some n) c tells told passes = true≢false (sym (told.1 passes))

  mark_by_one : (os ns : List Seen) (mark : ℕ) (c : Condition) → AllTell os → AreAskedOnce pool ds c os ns mark → IsMarkByTests pool ds os mark c
  mark_by_one [] [] mark c a h = h
  mark_by_one [] (n ∷ ns) mark c a h = absurd h
  mark_by_one (o ∷ os) [] mark c a h = absurd h
  mark_by_one (o ∷ os) (n ∷ ns) mark c a (e, inl closed) = inl (passed o.test c a.0 closed.0.told, closed.2)
  mark_by_one (o ∷ os) (n ∷ ns) mark c a (e, inr denied) = inr (unpassed o.test c a.0 denied.0.told, mark_by_one os ns mark c a.1 denied.1)

  mark_before : (before now : List Seen) (mark : ℕ) (c : Condition) → AreKept before now → IsMarkByTests pool ds now mark c → IsMarkByTests pool ds before mark c
  mark_before [] [] mark c k m = m
  mark_before [] (n ∷ ns) mark c k m = absurd k
  mark_before (b ∷ bs) [] mark c k m = absurd k
  mark_before (b ∷ bs) (n ∷ ns) mark c k (inl closed) = inl (subst (λ t. PassesTold pool ds t c) k.0.test closed.0, closed.1 ∙ ap shown k.0.letter)
  mark_before (b ∷ bs) (n ∷ ns) mark c k (inr denied) = inr (subst (λ t. PassesTold pool ds t c → ⊥) k.0.test denied.0, mark_before bs ns mark c k.1 denied.1)

  marks_more : (ss : List Seen) (marks : List ℕ) (cs : List Condition) (mark : ℕ) (c : Condition) → AreMarksByTests pool ds ss marks cs → IsMarkByTests pool ds ss mark c
      → AreMarksByTests pool ds ss (marks ++ mark ∷ []) (cs ++ c ∷ [])
  marks_more ss [] [] mark c h m = (m, tt)
  marks_more ss [] (d ∷ cs) mark c h m = absurd h
  marks_more ss (n ∷ marks) [] mark c h m = absurd h
  marks_more ss (n ∷ marks) (d ∷ cs) mark c h m = (h.0, marks_more ss marks cs mark c h.1 m)

pub marked_by_tests : (pool : List Node) (ds : List Definition) (before : List Seen) (cs : List Condition) (now : List Seen) (marks : List ℕ) → AllTell before → AreAsked pool ds before cs now marks
    → AreMarksByTests pool ds before marks cs
marked_by_tests pool ds before _ _ _ tells nothing = tt
marked_by_tests pool ds before _ _ _ tells (next {cs = cs} {now = now} {marks = marks} c later mark h one) =
    let kept = kept_by_all pool ds before cs now marks h in
    marks_more pool ds before marks cs mark c (marked_by_tests pool ds before cs now marks tells h)
    (mark_before pool ds before now mark c kept (mark_by_one pool ds now later mark c (tell_still pool ds before now kept tells) one))
