-- What the marks of conditions tell.
use Rattle.std.proofs.Common.{◌≡◌, inl, inr, ℕ, Option, Some, None, List, [], ◌∷◌, length, map, refl, sym, ap, ◌∙◌, subst}
use Rattle.std.specs.Prelude.{replicate}
use Rattle.std.proofs.lemmas.List.{length-map}
use Rattle.formula.specs.declared.definition.Definition.{Definition}
use Rattle.formula.specs.declared.node.Node.{Node}
use Rattle.formula.specs.Worth.{Function, functions_of}
use Rattle.fort_syntax.specs.Conditions.{ConditionTree}
use Rattle.fort_syntax.specs.declared.condition.Condition.{Condition}
use Rattle.event_text.specs.Conditions.{condition_tree}
use Rattle.event_text.specs.declared.marks.Marks.{Marks}
use Rattle.prover_box.specs.Answers.{Seen, AreAsked, AreKept, told, unclosed}
use Rattle.prover_box.specs.Laws.{AllTell, AreMarksByTests, FirstRose, IsMarkByTests, PassesTold}
use Rattle.prover_box.proofs.Asked.{asked_marked}
use Rattle.prover_box.proofs.Enough.{kept_by_all, marked_by_tests, rise}
use Rattle.vcg_top.specs.Marked.{AreSmall, AreMarksBy, AreMarksFor, IsMarkBy, PassesToldBy}
use Rattle.vcg_top.proofs.Letters.{may_stand}
use Rattle.vcg_top.proofs.Rests.{asked_for_rest}

-- ---- of a pool, and of trees

module _ (pool : List Node) (ds : List Definition) where
  passes_tree : (test : Option ℕ) (c : Condition) → PassesTold pool ds test c → PassesToldBy (functions_of pool ds) test (condition_tree pool c)
  passes_tree None c h = absurd h
  passes_tree (Some n) c h = h

  tree_passes : (test : Option ℕ) (c : Condition) → PassesToldBy (functions_of pool ds) test (condition_tree pool c) → PassesTold pool ds test c
  tree_passes None c h = absurd h
  tree_passes (Some n) c h = h

  mark_tree : (ss : List Seen) (mark : ℕ) (c : Condition) → IsMarkByTests pool ds ss mark c → IsMarkBy (functions_of pool ds) ss mark (condition_tree pool c)
  mark_tree [] mark c h = h
  mark_tree (s ∷ ss) mark c (inl closed) = inl (passes_tree s.test c closed.0, closed.1)
  mark_tree (s ∷ ss) mark c (inr denied) = inr ((λ passes. denied.0 (tree_passes s.test c passes)), mark_tree ss mark c denied.1)

  marks_trees : (ss : List Seen) (marks : List ℕ) (cs : List Condition) → AreMarksByTests pool ds ss marks cs → AreMarksBy (functions_of pool ds) ss marks (map (condition_tree pool) cs)
  marks_trees ss [] [] h = tt
  marks_trees ss [] (c ∷ cs) h = absurd h
  marks_trees ss (mark ∷ marks) [] h = absurd h
  marks_trees ss (mark ∷ marks) (c ∷ cs) h = (mark_tree ss mark c h.0, marks_trees ss marks cs h.1)

-- ---- no prover

all_unclosed : (fs : List Function) (marks : List ℕ) (cs : List ConditionTree) → AreMarksBy fs [] marks cs → marks ≡ replicate (length cs) unclosed
all_unclosed fs [] [] h = refl
all_unclosed fs [] (c ∷ cs) h = absurd h
all_unclosed fs (mark ∷ marks) [] h = absurd h
all_unclosed fs (mark ∷ marks) (c ∷ cs) h = ap (λ (m : ℕ). m ∷ marks) h.0 ∙ ap (λ (ms : List ℕ). unclosed ∷ ms) (all_unclosed fs marks cs h.1)

none_told : (before now : List Seen) (asked : List (ℕ × ℕ)) → before ≡ [] → AreKept before now → asked ≡ map told now → asked ≡ []
none_told [] [] asked e k is = is
none_told [] (n ∷ now) asked e k is = absurd k
none_told (b ∷ before) now asked e k is = absurd (let no : ⊥ = cc e in no)

unclosed_alone : (fs : List Function) (before : List Seen) (marks : List ℕ) (cs : List ConditionTree) → before ≡ [] → (AllTell before → AreMarksBy fs before marks cs) → marks ≡ replicate (length cs) unclosed
unclosed_alone fs [] marks cs e by = all_unclosed fs marks cs (by tt)
unclosed_alone fs (b ∷ before) marks cs e by = absurd (let no : ⊥ = cc e in no)

-- ---- what provers gave

pub are_marks : (pool : List Node) (ds : List Definition) (cs : List Condition) (before now : List Seen) (m : Marks) → AreAsked pool ds before cs now m.letters → m.asked ≡ map told now → AreSmall m.asked
    → AreMarksFor (functions_of pool ds) (map (condition_tree pool) cs) before now m
are_marks pool ds cs before now m h counts small =
    let rises = rise pool ds before cs now m.letters h in
    let kept = kept_by_all pool ds before cs now m.letters h in
    let tests : AllTell before → AreMarksBy (functions_of pool ds) before m.letters (map (condition_tree pool) cs) =
    λ tells. marks_trees pool ds before m.letters cs (marked_by_tests pool ds before cs now m.letters tells h) in
    record {
      asked = record { pool = pool; definitions = ds; conditions = cs; functions = refl; trees = refl; asked = h };
      valid = asked_marked pool ds before cs now m.letters h;
      may_stand = may_stand pool ds cs before now m h counts small;
      counts = counts;
      kept = kept;
      first = subst (λ (k : ℕ). FirstRose k before now) (sym (length-map cs (condition_tree pool))) rises.0;
      each = rises.1;
      by_tests = tests;
      rest = λ tells. asked_for_rest pool ds before cs now m.letters tells h;
      alone = λ none. (
        unclosed_alone (functions_of pool ds) before m.letters (map (condition_tree pool) cs) none tests,
        none_told before now m.asked none kept counts,
      );
    }
