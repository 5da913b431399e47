use Rattle.std.proofs.Common.{◌≡◌, ◌++◌, take}
use Rattle.fort_model.specs.Storage.{contents}
use Rattle.run_rooms.proofs.piles.Pile.copied.Given as goal

abbrev pub invariant-loop-offset : goal.invariant-loop-offset
invariant-loop-offset l = l.self ≡ record l.fn.self { items = l.fn.self.items ++ contents (take l.base l.fn.self.items) l.first l.offset }
