-- How often each prover was asked, where all tell their tests.
use Rattle.std.proofs.Common.{◌≡◌, inl, inr, ℕ, suc, Bool, Option, Some, None, List, [], ◌∷◌, ◌++◌, length, map, refl, sym, ap, subst, arith, true≢false}
use Rattle.std.proofs.lemmas.List.{map-append}
use Rattle.formula.specs.declared.definition.Definition.{Definition}
use Rattle.formula.specs.declared.node.Node.{Node}
use Rattle.formula.specs.Worth.{Function, functions_of}
use Rattle.fort_syntax.specs.Conditions.{ConditionTree}
use Rattle.fort_syntax.specs.declared.condition.Condition.{Condition}
use Rattle.event_text.specs.Conditions.{condition_tree}
use Rattle.prover_box.specs.Answers.{Seen, AreAsked, nothing, next, AreAskedOnce, AreKept, IsTold, once_more, one_more}
use Rattle.prover_box.specs.Laws.{AllTell, DoesTell, raised}
use Rattle.prover_box.proofs.Enough.{kept_by_all}
use Rattle.vcg_top.specs.Marked.{AreAskedForRest, IsRest, PassesToldBy}

one_longer : {A : Type 0} (xs : List A) (x : A) → length (xs ++ x ∷ []) ≡ suc (length xs)
one_longer [] x = refl
one_longer (y ∷ xs) x = ap suc (one_longer xs x)

once_raised : (o n b : Seen) (cs : List ConditionTree) (c : ConditionTree) → n ≡ once_more o → o.asked ≡ raised (length cs) b.asked → n.asked ≡ raised (length (cs ++ c ∷ [])) b.asked
once_raised o n b cs c is r =
    let count : n.asked ≡ one_more o.asked = ap (λ (s : Seen). s.asked) is in
    let more : n.asked ≡ raised (suc (length cs)) b.asked = omega (arith, count, r) in
    subst (λ (k : ℕ). n.asked ≡ raised k b.asked) (sym (one_longer cs c)) more

module _ (fs : List Function) where
  -- one more condition passes a test
  rest_closed : (test : Option ℕ) (cs left : List ConditionTree) (c : ConditionTree) → IsRest fs test cs left → PassesToldBy fs test c → IsRest fs test (cs ++ c ∷ []) left
  rest_closed test [] left c h p = inl (p, h)
  rest_closed test (d ∷ cs) left c (inl h) p = inl (h.0, rest_closed test cs left c h.1 p)
  rest_closed test (d ∷ cs) left c (inr h) p = inr (h.0, (h.1.0, h.1.1, rest_closed test cs h.1.0 c h.1.2 p))

  -- or does not
  rest_left : (test : Option ℕ) (cs left : List ConditionTree) (c : ConditionTree) → IsRest fs test cs left → (PassesToldBy fs test c → ⊥) → IsRest fs test (cs ++ c ∷ []) (left ++ c ∷ [])
  rest_left test [] left c h p = inr (p, ([], ap (λ (l : List ConditionTree). l ++ c ∷ []) h, refl))
  rest_left test (d ∷ cs) left c (inl h) p = inl (h.0, rest_left test cs left c h.1 p)
  rest_left test (d ∷ cs) left c (inr h) p =
      inr (h.0, (h.1.0 ++ c ∷ [], ap (λ (l : List ConditionTree). l ++ c ∷ []) h.1.1, rest_left test cs h.1.0 c h.1.2 p))

  none_asked : (ss : List Seen) → AreAskedForRest fs ss ss []
  none_asked [] = tt
  none_asked (s ∷ ss) = (omega arith, ([], refl, none_asked ss))

module _ (pool : List Node) (ds : List Definition) (c : Condition) where
  passed : (test : Option ℕ) → DoesTell test → IsTold pool ds c test Bool.true → PassesToldBy (functions_of pool ds) test (condition_tree pool c)
  passed None tells told = absurd tells
  passed (Some n) tells told = told.0 refl

  unpassed : (test : Option ℕ) → DoesTell test → IsTold pool ds c test Bool.false → PassesToldBy (functions_of pool ds) test (condition_tree pool c) → ⊥
  unpassed None tells told passes = absurd tells
  unpassed (Some n) tells told passes = true≢false (sym (told.1 passes))

  rest_asked : (bs os ns : List Seen) (cs : List ConditionTree) (mark : ℕ) → AllTell bs → AreKept bs os → AreAskedForRest (functions_of pool ds) bs os cs → AreAskedOnce pool ds c os ns mark
      → AreAskedForRest (functions_of pool ds) bs ns (cs ++ condition_tree pool c ∷ [])
  rest_asked [] [] [] cs mark a k r h = tt
  rest_asked [] [] (n ∷ ns) cs mark a k r h = absurd h
  rest_asked [] (o ∷ os) ns cs mark a k r h = absurd k
  rest_asked (b ∷ bs) [] ns cs mark a k r h = absurd k
  rest_asked (b ∷ bs) (o ∷ os) [] cs mark a k r h = absurd h
  rest_asked (b ∷ bs) (o ∷ os) (n ∷ ns) cs mark a k r (e, inl closed) =
      let told : IsTold pool ds c b.test Bool.true = subst (λ (t : Option ℕ). IsTold pool ds c t Bool.true) k.0.test closed.0.told in (
        once_raised o n b cs (condition_tree pool c) e r.0,
        (
          r.1.0,
          rest_closed (functions_of pool ds) b.test cs r.1.0 (condition_tree pool c) r.1.1 (passed b.test a.0 told),
          subst (λ (l : List Seen). AreAskedForRest (functions_of pool ds) bs l r.1.0) (sym closed.1) r.1.2,
        ),
      )
  rest_asked (b ∷ bs) (o ∷ os) (n ∷ ns) cs mark a k r (e, inr denied) =
      let told : IsTold pool ds c b.test Bool.false = subst (λ (t : Option ℕ). IsTold pool ds c t Bool.false) k.0.test denied.0.told in (
        once_raised o n b cs (condition_tree pool c) e r.0,
        (
          r.1.0 ++ condition_tree pool c ∷ [],
          rest_left (functions_of pool ds) b.test cs r.1.0 (condition_tree pool c) r.1.1 (unpassed b.test a.0 told),
          rest_asked bs os ns r.1.0 mark a.1 k.1 r.1.2 denied.1,
        ),
      )

pub asked_for_rest : (pool : List Node) (ds : List Definition) (before : List Seen) (cs : List Condition) (now : List Seen) (marks : List ℕ) → AllTell before → AreAsked pool ds before cs now marks
    → AreAskedForRest (functions_of pool ds) before now (map (condition_tree pool) cs)
asked_for_rest pool ds before _ _ _ tells nothing = none_asked (functions_of pool ds) before
asked_for_rest pool ds before _ _ _ tells (next {cs = cs} {now = now} {marks = marks} c later mark h one) =
    subst (λ (l : List ConditionTree). AreAskedForRest (functions_of pool ds) before later l) (sym (map-append (condition_tree pool) cs (c ∷ [])))
    (rest_asked pool ds c before now later (map (condition_tree pool) cs) mark tells (kept_by_all pool ds before cs now marks h) (asked_for_rest pool ds before cs now marks tells h) one)
