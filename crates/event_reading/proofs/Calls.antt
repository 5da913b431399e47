-- Calls of functions, by nodes.
use Rattle.std.proofs.Common.{◌≡◌, ℕ, true, false, Some, None, List, [], ◌∷◌, map, refl, sym, ap}
use Rattle.formula.specs.declared.function.BuiltIn.{BuiltIn as Builtin}
use Rattle.formula.specs.declared.function.Func.TheVariants.{BuiltIn}
use Rattle.formula.specs.declared.node.Node.{Node}
use Rattle.formula.specs.declared.node.TermId.{TermId}
use Rattle.formula.specs.Atoms.{same_bytes}
use Rattle.formula.specs.Functions.{name_of}
use Rattle.formula.specs.Pool.{row_in, tree_of, trees}
use Rattle.formula.specs.Tree.{Tree, Row, apply}
use Rattle.formula.specs.declared.function.BuiltIn.TheVariants.{AtMost, If, Implies}
use Rattle.formula.specs.Worth.{plain}
use Rattle.std.specs.Prelude.{◌≢◌}
use Rattle.event_reading.specs.Lines.{call_of, counted, counted_of, implication, implied_by, is_test, is_test_of, row_trees}

pub row_trees_in : (pool : List Node) (ids : List TermId) → row_trees (row_in (trees pool) ids) ≡ map (tree_of pool) ids
row_trees_in pool [] = refl
row_trees_in pool (id ∷ ids) = ap (λ l. tree_of pool id ∷ l) (row_trees_in pool ids)

-- a call of the function
pub called : (pool : List Node) (f g : Builtin) (ids : List TermId) → same_bytes (name_of f) (name_of g) ≡ true → call_of f (apply (BuiltIn g) (row_in (trees pool) ids)) ≡ Some (map (tree_of pool) ids)
called pool f g ids h = rw h (ap (λ l. Some l) (row_trees_in pool ids))

-- a call of another
pub other_call : (f g : Builtin) (row : Row) → same_bytes (name_of f) (name_of g) ≡ false → call_of f (apply (BuiltIn g) row) ≡ None
other_call f g row h = rw h refl

-- ---- another number of arguments

pub test_not_two : (k : List ℕ) (pool : List Node) (ids : List TermId) (t : Tree) → ((a b : TermId) → ids ≢ a ∷ b ∷ []) → Some (map (tree_of pool) ids) ≡ call_of AtMost t → false ≡ is_test k t
test_not_two k pool [] t h e = ap (is_test_of k) e
test_not_two k pool (a ∷ []) t h e = ap (is_test_of k) e
test_not_two k pool (a ∷ b ∷ []) t h e = absurd (h a b refl)
test_not_two k pool (a ∷ b ∷ c ∷ ids) t h e = ap (is_test_of k) e

pub implied_not_two : (pool : List Node) (ids : List TermId) (t : Tree) → ((a b : TermId) → ids ≢ a ∷ b ∷ []) → Some (map (tree_of pool) ids) ≡ call_of Implies t → implication t ≡ None
implied_not_two pool [] t h e = sym (ap implied_by e)
implied_not_two pool (a ∷ []) t h e = sym (ap implied_by e)
implied_not_two pool (a ∷ b ∷ []) t h e = absurd (h a b refl)
implied_not_two pool (a ∷ b ∷ c ∷ ids) t h e = sym (ap implied_by e)

pub counted_not_three : (k : List ℕ) (ks : List (List ℕ)) (pool : List Node) (ids : List TermId) (t : Tree) → ((a b c : TermId) → ids ≢ a ∷ b ∷ c ∷ []) → Some (map (tree_of pool) ids) ≡ call_of If t → plain t ≡ counted (k ∷ ks) t
counted_not_three k ks pool [] t h e = ap (counted_of k t) e
counted_not_three k ks pool (a ∷ []) t h e = ap (counted_of k t) e
counted_not_three k ks pool (a ∷ b ∷ []) t h e = ap (counted_of k t) e
counted_not_three k ks pool (a ∷ b ∷ c ∷ []) t h e = absurd (h a b c refl)
counted_not_three k ks pool (a ∷ b ∷ c ∷ d ∷ ids) t h e = ap (counted_of k t) e

pub counted_other : (params : List (List ℕ)) (pool : List Node) (ids : List TermId) (t : Tree) → ((a b c : TermId) → ids ≢ a ∷ b ∷ c ∷ []) → Some (map (tree_of pool) ids) ≡ call_of If t → plain t ≡ counted params t
counted_other [] pool ids t h e = refl
counted_other (k ∷ ks) pool ids t h e = counted_not_three k ks pool ids t h e
