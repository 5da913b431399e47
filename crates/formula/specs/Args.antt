-- The ids of arguments.
use Rattle.std.specs.Prelude.{◌<◌, List, length}
use Rattle.formula.specs.declared.args.Held.{Held}
use Rattle.formula.specs.declared.args.Held.TheVariants.{InPlace, OnHeap}
use Rattle.formula.specs.declared.node.TermId.{TermId}

abbrev pub held_ids : Held → List TermId
held_ids (InPlace few) = few
held_ids (OnHeap items) = items.items

-- what lies on the heap has no room in place
abbrev pub IsHeld : Held → Type 0
IsHeld (InPlace few) = Unit {0}
IsHeld (OnHeap items) = 4 < length items.items
