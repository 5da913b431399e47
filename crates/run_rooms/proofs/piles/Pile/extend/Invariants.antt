use Rattle.std.proofs.Common.{◌≡◌, ◌++◌, replicate}
use Rattle.formula.specs.declared.value.Cell.TheVariants.{Undefined}
use Rattle.run_rooms.proofs.piles.Pile.extend.Given as goal

abbrev pub invariant-loop : goal.invariant-loop
invariant-loop l = l.self ≡ record l.fn.self { items = l.fn.self.items ++ replicate l.counter Undefined }
