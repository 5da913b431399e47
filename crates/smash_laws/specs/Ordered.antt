-- What units smash, unit after unit in the order of calls: it decides the table of smashed names.
use Rattle.std.specs.Prelude.{◌≡◌, ℕ, Bool, List, [], ◌∷◌, map, length, replicate, set, Option, Some, None, slice_get}
use Rattle.std.specs.List.{filter, list_any}
use Rattle.fort_syntax.specs.WellFormed.{IsWellFormed}
use Rattle.fort_syntax.specs.declared.deck.Deck.{Deck}
use Rattle.fort_syntax.specs.declared.dialect.Dialect.{Dialect}
use Rattle.fort_syntax.specs.declared.dialect.Dialect.TheVariants.{Common}
use Rattle.fort_syntax.specs.declared.name.Name.{Name}
use Rattle.fort_syntax.specs.declared.unit.Unit.{Unit as Routine}
use Rattle.fort_model.specs.CallOrder.{IsCallOrder}
use Rattle.fort_model.specs.CallRules.{stmt_smashes}
use Rattle.fort_model.specs.Program.{Program}
use Rattle.fort_model.specs.SmashTables.{IsSmashTable}

-- units with a table of smashed names, as a program: what is smashed rests on nothing else of one
abbrev pub with_table : List Routine → List (List Name) → Program
with_table units table = record { dialect = Common; units = units; notes = []; functions = []; bound = 0; smashes = table }

-- a statement of a unit smashes a name, where the units that it calls smash what the table of a program says
abbrev pub unit_smashes : Program → Routine → Name → Bool
unit_smashes p u x = list_any (λ line. stmt_smashes p u line.stmt x) u.lines

-- the data names of a unit that it smashes, in order
abbrev pub smashed_row : Program → Routine → List Name
smashed_row p u = filter (unit_smashes p u) (map (λ d. d.name) u.names)

abbrev pub row_if_any : Program → Option Routine → List Name
row_if_any p None = []
row_if_any p (Some u) = smashed_row p u

-- a table with what the unit of number i smashes, where it says already what those smash that the unit calls
abbrev pub with_row : List Routine → List (List Name) → ℕ → List (List Name)
with_row units table i = set table i (row_if_any (with_table units table) (slice_get units i))

-- the same for one unit after the other
abbrev pub with_rows : List Routine → List (List Name) → List ℕ → List (List Name)
with_rows units table [] = table
with_rows units table (i ∷ order) = with_rows units (with_row units table i) order

-- a table of nothing
abbrev pub nothing_smashed : List Routine → List (List Name)
nothing_smashed units = replicate (length units) []

-- the table of smashed names: of one unit of an order after the other, from nothing on
abbrev pub smash_table : List Routine → List ℕ → List (List Name)
smash_table units order = with_rows units (nothing_smashed units) order

-- by an order of calls, this is the table of smashed names of a well-formed deck
abbrev pub TablesByOrder : Type 0
TablesByOrder =
    (dialect : Dialect) (deck : Deck) (order : List ℕ) → IsWellFormed dialect deck → IsCallOrder deck.units order
    → (p : Program) → p.units ≡ deck.units → p.smashes ≡ smash_table deck.units order → IsSmashTable p

-- some units have one table
abbrev pub OneSmashTable : Type 0
OneSmashTable = (p q : Program) → p.units ≡ q.units → IsSmashTable p → IsSmashTable q → p.smashes ≡ q.smashes
