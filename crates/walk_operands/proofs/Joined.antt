-- Operands while the pool grows, and one behind others.
use Rattle.std.proofs.Common.{◌≡◌, List, [], ◌∷◌, ◌++◌, length, map, refl, ap}
use Rattle.formula.specs.Pool.{AllBelow, Grows, tree_of}
use Rattle.formula.specs.Tree.{Tree}
use Rattle.formula.specs.declared.node.Node.{Node}
use Rattle.formula.specs.declared.node.TermId.{TermId}
use Rattle.formula.proofs.Grown.{IsIn-Grows, tree_of-Grows}
use Rattle.fort_model.specs.WalkCalls.{Operand as Taken, Bare, Part, Computed, stands_for}
use Rattle.walk_operands.specs.Laws.{OperandsHaveTerms, OperandsJoin, OperandsStay}
use Rattle.walk_operands.specs.Operands.{AreOperandsIn, IsOperandIn, operand_tree, operand_trees, term_of}
use Rattle.walk_operands.specs.declared.operand.Operand.{Operand}
use Rattle.walk_operands.specs.declared.operand.Operand.TheVariants as is

module _ (old new : List Node) (g : Grows old new) where
  one_within : (x : Operand) → IsOperandIn (length old) x → IsOperandIn (length new) x
  one_within (is.Bare x id) h = IsIn-Grows old new id g h
  one_within (is.Part id) h = IsIn-Grows old new id g h
  one_within (is.Computed id) h = IsIn-Grows old new id g h

  pub one_same : (x : Operand) → IsOperandIn (length old) x → operand_tree new x ≡ operand_tree old x
  one_same (is.Bare x id) h = ap (λ (t : Tree). Bare x t) (tree_of-Grows old new id g h)
  one_same (is.Part id) h = ap (λ (t : Tree). Part t) (tree_of-Grows old new id g h)
  one_same (is.Computed id) h = ap (λ (t : Tree). Computed t) (tree_of-Grows old new id g h)

  within : (xs : List Operand) → AreOperandsIn (length old) xs → AreOperandsIn (length new) xs
  within [] h = tt
  within (x ∷ xs) h = (one_within x h.0, within xs h.1)

  same : (xs : List Operand) → AreOperandsIn (length old) xs → operand_trees new xs ≡ operand_trees old xs
  same [] h = refl
  same (x ∷ xs) h = λ i. one_same x h.0 i ∷ same xs h.1 i

pub operands_stay : OperandsStay
operands_stay old new xs g h = record { within = within old new g xs h; trees = same old new g xs h }

module _ (nodes : List Node) where
  joined_within : (xs : List Operand) (x : Operand) → AreOperandsIn (length nodes) xs → IsOperandIn (length nodes) x → AreOperandsIn (length nodes) (xs ++ x ∷ [])
  joined_within [] x h k = (k, tt)
  joined_within (y ∷ xs) x h k = (h.0, joined_within xs x h.1 k)

  joined_same : (xs : List Operand) (x : Operand) → operand_trees nodes (xs ++ x ∷ []) ≡ operand_trees nodes xs ++ operand_tree nodes x ∷ []
  joined_same [] x = refl
  joined_same (y ∷ xs) x = ap (λ (ys : List (Taken Tree)). operand_tree nodes y ∷ ys) (joined_same xs x)

  terms_within : (xs : List Operand) → AreOperandsIn (length nodes) xs → AllBelow (length nodes) (map term_of xs)
  terms_within [] h = tt
  terms_within (x ∷ xs) h = (h.0, terms_within xs h.1)

  one_stands : (x : Operand) → tree_of nodes (term_of x) ≡ stands_for (operand_tree nodes x)
  one_stands (is.Bare x id) = refl
  one_stands (is.Part id) = refl
  one_stands (is.Computed id) = refl

  stand : (xs : List Operand) → map (tree_of nodes) (map term_of xs) ≡ map stands_for (operand_trees nodes xs)
  stand [] = refl
  stand (x ∷ xs) = λ i. one_stands x i ∷ stand xs i

pub operands_join : OperandsJoin
operands_join nodes xs x h k = record { within = joined_within nodes xs x h k; trees = joined_same nodes xs x }

pub operands_have_terms : OperandsHaveTerms
operands_have_terms nodes xs h = record { within = terms_within nodes xs h; trees = stand nodes xs }
