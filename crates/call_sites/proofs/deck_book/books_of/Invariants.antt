use Rattle.std.proofs.Common.{◌≡◌, ◌++◌, drop}
use Rattle.std.specs.Prelude.{map}
use Rattle.call_sites.proofs.deck_book.books_of.Given as goal

abbrev pub invariant-loop-unit : goal.invariant-loop-unit
invariant-loop-unit l = (map (λ book. book.unit.now) l.books.items ++ drop l.unit-index l.units) ≡ l.units
