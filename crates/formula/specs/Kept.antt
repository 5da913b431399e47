-- What a pool keeps.
use Rattle.std.specs.Prelude.{◌<◌, ◌^◌, ◌≡◌, List, [], length, map}
use Rattle.formula.specs.declared.facts.Facts.{Facts}
use Rattle.formula.specs.declared.node.Node.{Node}
use Rattle.formula.specs.Facts.{facts_of}
use Rattle.formula.specs.Pool.{IsPool, trees}

-- nodes, of which there are fewer than 2^32, so that a place has 32 bits, and the facts of their terms
pub record IsKept (nodes : List Node) (facts : List Facts) : Type 0 where
  pub pool : IsPool [] nodes
  pub small : length nodes < 2 ^ 32
  pub told : facts ≡ map facts_of (trees nodes)
