-- Programs: the units of a deck with what their notes say, as the walks, the conditions and the theorem see them.
use Rattle.std.specs.Prelude.{ℕ, Bool, ◌==◌, cond, List, [], ◌∷◌, Option, Some, None, slice_get}
use Rattle.formula.specs.Atoms.{is_among}
use Rattle.formula.specs.Worth.{Function}
use Rattle.fort_syntax.specs.declared.name.Name.{Name}
use Rattle.fort_syntax.specs.declared.dialect.Dialect.{Dialect}
use Rattle.fort_syntax.specs.declared.unit.Unit.{Unit as Routine}
use Rattle.fort_notes.specs.Assertions.{Assertion, Notes, no_notes}

-- A deck in a dialect: its units; the notes of each; the definitions, numbered from 1; the bound, up to which every
-- processor has all integers; and for each unit the names that it smashes. Units are counted from 0.
pub record Program : Type 0 where
  pub dialect : Dialect
  pub units : List Routine
  pub notes : List Notes
  pub functions : List Function
  pub bound : ℕ
  pub smashes : List (List Name)

abbrev pub notes_in : Option Notes → Notes
notes_in None = no_notes
notes_in (Some n) = n

-- the notes of the unit of a number
abbrev pub notes_of : Program → ℕ → Notes
notes_of p i = notes_in (slice_get p.notes i)

abbrev pub names_if_any : Option (List Name) → List Name
names_if_any None = []
names_if_any (Some xs) = xs

-- the names that the unit of a number smashes, by the table
abbrev pub smashed_names : Program → ℕ → List Name
smashed_names p i = names_if_any (slice_get p.smashes i)

-- by the table, a unit smashes a name
abbrev pub is_smashed : Program → ℕ → Name → Bool
is_smashed p i x = is_among x (smashed_names p i)

-- the ASSERT at a point
abbrev pub assertion_in : List Assertion → ℕ → Option Assertion
assertion_in [] pc = None
assertion_in (a ∷ rest) pc = cond (a.point == pc) (Some a) (assertion_in rest pc)

abbrev pub assertion_at : Notes → ℕ → Option Assertion
assertion_at notes pc = assertion_in notes.asserts pc
