use Rattle.std.proofs.Common.{◌≡◌, ◌+◌, ◌-◌}
use Rattle.fort_model.specs.Storage.{contents, write}
use Rattle.run_rooms.proofs.piles.Pile.moved_up.Given as goal

abbrev pub invariant-loop-done : goal.invariant-loop-done
invariant-loop-done l = l.self ≡ record l.fn.self { items = write (contents l.fn.self.items (l.from + (l.size - l.done)) l.done) (l.to + (l.size - l.done)) l.fn.self.items }
