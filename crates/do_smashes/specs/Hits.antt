-- What statements smash of what is kept at a point.
use Rattle.std.specs.Prelude.{◌≡◌, ℕ, List, Some, slice_get}
use Rattle.fort_syntax.specs.declared.name.Name.{Name}
use Rattle.fort_syntax.specs.declared.unit.Unit.{Unit as Routine}
use Rattle.fort_model.specs.Program.{Program, names_if_any}
use Rattle.smash_laws.specs.Ordered.{with_table}
use Rattle.do_smashes.specs.declared.calls.Called.{Called}
use Rattle.do_smashes.specs.declared.calls.Caller.{Caller}

-- the unit that a caller is
abbrev pub unit_of : Caller → Routine
unit_of c = c.book.now.unit.now

-- a program of the units around a caller, with what they smash
abbrev pub program_of : Caller → Program
program_of c = with_table c.deck.now.units.now c.rows.now

-- the names that the unit of a number smashes, by rows
abbrev pub row_of : List (List Name) → ℕ → List Name
row_of rows number = names_if_any (slice_get rows number)

-- a called unit is that of its number
pub record IsCalled (from : Caller) (called : Called) : Type 0 where
  pub rows : called.rows.now ≡ from.rows.now
  pub unit : slice_get from.deck.now.units.now called.number ≡ Some called.book.now.unit.now
