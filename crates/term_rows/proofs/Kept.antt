-- Bodies stay in the pool where it grows, and where a definition is added.
use Rattle.std.specs.Prelude.{◌≡◌, List, [], ◌∷◌, ◌++◌}
use Rattle.formula.specs.declared.definition.Definition.{Definition}
use Rattle.formula.specs.declared.node.Node.{Node}
use Rattle.formula.specs.Adding.{AreBodiesIn, IsBodyIn}
use Rattle.formula.specs.Pool.{Grows}
use Rattle.formula.proofs.Grown.{Grows-trans}
use Rattle.term_worth.proofs.Bodies.{AreBodiesIn-Grows, AreBodiesIn-added}

pub bodies_grown : (old new : List Node) (ds : List Definition) → Grows old new → AreBodiesIn old ds → AreBodiesIn new ds
bodies_grown old new ds g h = AreBodiesIn-Grows old new ds g h

pub bodies_added : (pool : List Node) (old new : List Definition) (d : Definition) → new ≡ old ++ d ∷ [] → AreBodiesIn pool old → IsBodyIn pool d.body → AreBodiesIn pool new
bodies_added pool old new d e h b = AreBodiesIn-added pool old new d e h b

pub grown_twice : (first next last : List Node) → Grows first next → Grows next last → Grows first last
grown_twice first next last p q = Grows-trans first next last p q
