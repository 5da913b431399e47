-- Lists of ids while the pool grows.
use Rattle.std.proofs.Common.{◌≡◌, List, length}
use Rattle.formula.specs.declared.node.Node.{Node}
use Rattle.formula.specs.declared.node.TermId.{TermId}
use Rattle.formula.specs.Pool.{AllBelow, Grows}
use Rattle.formula.proofs.Grown.{AllBelow-Grows}
use Rattle.note_parts.specs.Answers.{trees_of}
use Rattle.note_parts.proofs.Rounds.{trees_of-Grows}

pub trees_stay : (old new : List Node) (ids : List TermId) → Grows old new → AllBelow (length old) ids → trees_of new ids ≡ trees_of old ids
trees_stay = trees_of-Grows

pub below_stays : (old new : List Node) (ids : List TermId) → Grows old new → AllBelow (length old) ids → AllBelow (length new) ids
below_stays = AllBelow-Grows
