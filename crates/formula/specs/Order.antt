-- The nodes that a term is made of, in the order of their places.
use Rattle.std.specs.Prelude.{◌<◌, ◌≡◌, ◌↔◌, ◌-◌, List, [], ◌∷◌, length, slice_get, Some, All, Contains}
use Rattle.formula.specs.declared.node.Node.{Node}
use Rattle.formula.specs.declared.node.TermId.{TermId}
use Rattle.formula.specs.Pool.{arguments_at}

-- the ids that are reached from one: itself, and the arguments of each that is reached
pub data IsReached (pool : List Node) (top : TermId) : TermId → Type 0 where
  itself : IsReached pool top top
  argument : (id arg : TermId) → IsReached pool top id → Contains (arguments_at pool id) arg → IsReached pool top arg

-- each place stands before all that follow
abbrev pub IsAscending : List TermId → Type 0
IsAscending [] = Unit {0}
IsAscending (id ∷ rest) = All (λ later. id.place < later.place) rest × IsAscending rest

-- exactly the ids that are reached from one, in the order of their places, so that arguments stand before the
-- function and the id itself stands last
pub record IsOrder (pool : List Node) (top : TermId) (ids : List TermId) : Type 0 where
  pub ascending : IsAscending ids
  pub members : (id : TermId) → Contains ids id ↔ IsReached pool top id
  pub last : slice_get ids (length ids - 1) ≡ Some top
