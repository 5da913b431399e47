-- The terms of conditions.
use Rattle.std.proofs.Common.{◌≡◌, ◌+◌, ◌==◌, ℕ, false, List, [], ◌∷◌, length, map, refl, sym, ap, ◌∙◌, subst, arith, Result, Ok, Err, IfOk}
use Rattle.std.proofs.lemmas.Bool.Decides.{nat_tests}
use Rattle.std.specs.Prelude.{IsTrue, nat_lt}
use Rattle.formula.proofs.Grown.{tree_of-Grows}
use Rattle.formula.specs.Pool.{Grows, IsIn, row_in, tree_of, trees}
use Rattle.formula.specs.Tree.{Tree, Row, apply, none, more, row_count, tree_row}
use Rattle.formula.specs.declared.function.BuiltIn.TheVariants.{And, Implies}
use Rattle.formula.specs.declared.function.Func.TheVariants.{BuiltIn}
use Rattle.formula.specs.declared.node.Node.{Node}
use Rattle.formula.specs.declared.node.TermId.{TermId}
use Rattle.fort_syntax.specs.declared.condition.Condition.{Condition}
use Rattle.event_text.specs.Conditions.{condition_tree}
use Rattle.try_lines.specs.Tries.{condition_term, hyps_term}

-- what follows of an answer
pub ok_weaker : {A E : Type 0} (P Q : A → Type 0) (r : Result A E) → ((a : A) → P a → Q a) → IfOk r P → IfOk r Q
ok_weaker P Q (Ok a) f h = f a h
ok_weaker P Q (Err e) f h = h

positive : (n : ℕ) → IsTrue (nat_lt 0 (n + 1))
positive n = grind (arith, nat_tests)

some_row : (done : List Tree) (ids : List TermId) → (length ids == 0) ≡ false → IsTrue (nat_lt 0 (row_count (row_in done ids)))
some_row done [] h = absurd cc
some_row done (id ∷ ids) h = positive (row_count (row_in done ids))

-- AND takes what is not empty
pub and_takes : (done : List Tree) (ids args : List TermId) → args ≡ ids → (length ids == 0) ≡ false → IsTrue (nat_lt 0 (row_count (row_in done args)))
and_takes done ids args e h = subst (λ (l : List TermId). IsTrue (nat_lt 0 (row_count (row_in done l)))) (sym e) (some_row done ids h)

row_of_trees : (pool : List Node) (ids : List TermId) → row_in (trees pool) ids ≡ tree_row (map (tree_of pool) ids)
row_of_trees pool [] = refl
row_of_trees pool (id ∷ ids) = ap (λ (r : Row). more (tree_of pool id) r) (row_of_trees pool ids)

some_hyps : (pool : List Node) (ids : List TermId) → (length ids == 0) ≡ false → apply (BuiltIn And) (row_in (trees pool) ids) ≡ hyps_term (map (tree_of pool) ids)
some_hyps pool [] h = absurd cc
some_hyps pool (id ∷ ids) h = ap (λ (r : Row). apply (BuiltIn And) (more (tree_of pool id) r)) (row_of_trees pool ids)

-- AND of what is not empty
pub hyps_tree : (pool : List Node) (ids args : List TermId) (t : Tree) → args ≡ ids → (length ids == 0) ≡ false → t ≡ apply (BuiltIn And) (row_in (trees pool) args) → t ≡ hyps_term (map (tree_of pool) ids)
hyps_tree pool ids args t e h is = is ∙ ap (λ (l : List TermId). apply (BuiltIn And) (row_in (trees pool) l)) e ∙ some_hyps pool ids h

-- the hypotheses imply the goal
pub implied : (old new : List Node) (c : Condition) (ids : List TermId) (hyps : TermId) (t : Tree) → Grows old new → IsIn old c.goal → ids ≡ c.hyps → tree_of new hyps ≡ hyps_term (map (tree_of old) ids)
    → t ≡ apply (BuiltIn Implies) (more (tree_of new hyps) (more (tree_of new c.goal) none)) → t ≡ condition_term (condition_tree old c)
implied old new c ids hyps t g inside e h is =
    is ∙ (λ i. apply (BuiltIn Implies) (more (h i) (more (tree_of-Grows old new c.goal g inside i) none)))
    ∙ ap (λ (l : List TermId). apply (BuiltIn Implies) (more (hyps_term (map (tree_of old) l)) (more (tree_of old c.goal) none))) e
