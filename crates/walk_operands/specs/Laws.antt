-- Laws of operands.
use Rattle.std.specs.Prelude.{◌≡◌, ◌++◌, List, [], ◌∷◌, length, map}
use Rattle.formula.specs.Pool.{AllBelow, Grows, tree_of}
use Rattle.formula.specs.declared.node.Node.{Node}
use Rattle.fort_model.specs.WalkCalls.{stands_for}
use Rattle.walk_operands.specs.Operands.{AreOperandsIn, IsOperandIn, operand_tree, operand_trees, term_of}
use Rattle.walk_operands.specs.declared.operand.Operand.{Operand}

-- operands in a pool that has grown are in it, and stand for the same
pub record AreSameOperands (old new : List Node) (xs : List Operand) : Type 0 where
  pub within : AreOperandsIn (length new) xs
  pub trees : operand_trees new xs ≡ operand_trees old xs

abbrev pub OperandsStay : Type 0
OperandsStay = (old new : List Node) (xs : List Operand) → Grows old new → AreOperandsIn (length old) xs
    → AreSameOperands old new xs

-- operands with one more behind them
pub record AreMoreOperands (nodes : List Node) (xs : List Operand) (x : Operand) : Type 0 where
  pub within : AreOperandsIn (length nodes) (xs ++ x ∷ [])
  pub trees : operand_trees nodes (xs ++ x ∷ []) ≡ operand_trees nodes xs ++ operand_tree nodes x ∷ []

abbrev pub OperandsJoin : Type 0
OperandsJoin =
    (nodes : List Node) (xs : List Operand) (x : Operand) → AreOperandsIn (length nodes) xs
    → IsOperandIn (length nodes) x → AreMoreOperands nodes xs x

-- the terms of operands are of the pool, and their trees are what the operands stand for
pub record HaveTerms (nodes : List Node) (xs : List Operand) : Type 0 where
  pub within : AllBelow (length nodes) (map term_of xs)
  pub trees : map (tree_of nodes) (map term_of xs) ≡ map stands_for (operand_trees nodes xs)

abbrev pub OperandsHaveTerms : Type 0
OperandsHaveTerms = (nodes : List Node) (xs : List Operand) → AreOperandsIn (length nodes) xs → HaveTerms nodes xs
