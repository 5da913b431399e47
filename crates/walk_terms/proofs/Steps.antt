-- Terms that are made one after another.
use Rattle.std.proofs.Common.{◌≡◌, ◌∙◌, List}
use Rattle.formula.specs.declared.node.Node.{Node}
use Rattle.formula.specs.declared.node.TermId.{TermId}
use Rattle.formula.specs.Pool.{Grows, IsIn, tree_of}
use Rattle.formula.proofs.Grown.{IsIn-Grows, tree_of-Grows}

-- a term after two steps
pub after_two : (first next last : List Node) (id : TermId) → Grows first next → Grows next last → IsIn first id → tree_of last id ≡ tree_of first id
after_two first next last id g h within = tree_of-Grows next last id h (IsIn-Grows first next id g within) ∙ tree_of-Grows first next id g within
