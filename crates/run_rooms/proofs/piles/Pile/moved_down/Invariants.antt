use Rattle.std.proofs.Common.{◌≡◌}
use Rattle.fort_model.specs.Storage.{contents, write}
use Rattle.run_rooms.proofs.piles.Pile.moved_down.Given as goal

abbrev pub invariant-loop-offset : goal.invariant-loop-offset
invariant-loop-offset l = l.self ≡ record l.fn.self { items = write (contents l.fn.self.items l.from l.offset) l.to l.fn.self.items }
