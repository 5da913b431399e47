-- Terms of a pool.
use Rattle.std.specs.Prelude.{◌≡◌, List, length, map}
use Rattle.formula.specs.Pool.{AllBelow, tree_of}
use Rattle.formula.specs.Tree.{Tree}
use Rattle.formula.specs.declared.node.Node.{Node}
use Rattle.formula.specs.declared.node.TermId.{TermId}

-- ids of a pool are those of these trees
pub record AreTermsOf (pool : List Node) (ids : List TermId) (ts : List Tree) : Type 0 where
  pub below : AllBelow (length pool) ids
  pub trees : map (tree_of pool) ids ≡ ts
