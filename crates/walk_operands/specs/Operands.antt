-- Operands of a walk as trees.
use Rattle.std.specs.Prelude.{ℕ, ◌<◌, List, [], ◌∷◌, map, Option, Some, None}
use Rattle.formula.specs.Pool.{tree_of}
use Rattle.formula.specs.Tree.{Tree}
use Rattle.formula.specs.declared.node.Node.{Node}
use Rattle.formula.specs.declared.node.TermId.{TermId}
use Rattle.fort_model.specs.WalkCalls.{Operand as Taken, Bare, Part, Computed}
use Rattle.fort_syntax.specs.declared.name.Name.{Name}
use Rattle.walk_operands.specs.declared.operand.Operand.{Operand}
use Rattle.walk_operands.specs.declared.operand.Operand.TheVariants as is

-- the term that an operand stands for
abbrev pub term_of : Operand → TermId
term_of (is.Bare x id) = id
term_of (is.Part id) = id
term_of (is.Computed id) = id

-- the name of an operand that is a bare name
abbrev pub name_of : Operand → Option Name
name_of (is.Bare x id) = Some x
name_of (is.Part id) = None
name_of (is.Computed id) = None

-- an operand of the model, which stands for a tree
abbrev pub operand_tree : List Node → Operand → Taken Tree
operand_tree nodes (is.Bare x id) = Bare x (tree_of nodes id)
operand_tree nodes (is.Part id) = Part (tree_of nodes id)
operand_tree nodes (is.Computed id) = Computed (tree_of nodes id)

abbrev pub operand_trees : List Node → List Operand → List (Taken Tree)
operand_trees nodes xs = map (operand_tree nodes) xs

-- the term of an operand is of a pool with so many nodes
abbrev pub IsOperandIn : ℕ → Operand → Type 0
IsOperandIn n x = (term_of x).place < n

-- the terms of some operands
abbrev pub AreOperandsIn : ℕ → List Operand → Type 0
AreOperandsIn n [] = Unit {0}
AreOperandsIn n (x ∷ xs) = IsOperandIn n x × AreOperandsIn n xs
