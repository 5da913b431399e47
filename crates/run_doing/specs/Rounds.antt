-- The tests of DOs in slots.
use Rattle.std.specs.Prelude.{◌≡◌, ℕ, zero, suc, List, [], ◌∷◌, ◌++◌, length, replicate, set, Option, Some, None}
use Rattle.fort_syntax.specs.declared.name.Name.{Name}
use Rattle.fort_syntax.specs.declared.stmt.Param.{Param}
use Rattle.fort_syntax.specs.declared.stmt.Param.TheVariants as param
use Rattle.fort_syntax.specs.declared.unit.Unit.{Unit as Routine}
use Rattle.fort_model.specs.Flow.{Loop, loops_at, next_point}
use Rattle.run_shapes.specs.declared.slots.Amount.{Amount}
use Rattle.run_shapes.specs.declared.slots.Amount.TheVariants as amount
use Rattle.run_shapes.specs.declared.tests.Round.{Round}
use Rattle.run_shapes.specs.declared.tests.Test.{Test}
use Rattle.run_shapes.specs.declared.tests.Test.TheVariants as test
use Rattle.run_coding.specs.Pushed.{slot_in}
use Rattle.run_doing.specs.declared.table.TestTable.{TestTable}

-- a parameter of a DO by the slots of names, and its step, where it has one
abbrev pub amount_in : List Name → Param → Amount
amount_in names (param.Fixed n) = amount.Fixed n
amount_in names (param.Named x) = amount.Named (slot_in names x)

abbrev pub step_in : List Name → Option Param → Option Amount
step_in names None = None
step_in names (Some m) = Some (amount_in names m)

-- a DO, and the tests of some
abbrev pub round_in : List Name → Loop → Round
round_in names d = record {
  at = d.at;
  variable = slot_in names d.variable;
  last = amount_in names d.last;
  step = step_in names d.step;
}

abbrev pub tests_in : List Name → List Loop → List Test
tests_in names [] = []
tests_in names (d ∷ ds) = test.Loop (round_in names d) ∷ tests_in names ds

-- a list in which some DOs are told at their points the places behind their own tests, which stand from a place on
abbrev pub overs : ℕ → List Loop → List ℕ → List ℕ
overs place [] over = over
overs place (d ∷ ds) over = overs (suc place) ds (set over d.at (suc place))

-- the tests of the DOs whose last statement stands at a point, and behind them the point where the flow goes on
abbrev pub piece_at : Routine → List Name → ℕ → List Test
piece_at u names pc = tests_in names (loops_at u pc) ++ test.Out (next_point u pc) ∷ []

-- those of all points before one
abbrev pub tests_to : Routine → List Name → ℕ → List Test
tests_to u names zero = []
tests_to u names (suc pc) = tests_to u names pc ++ piece_at u names pc

-- the places of the tests of these points
abbrev pub places_to : Routine → List Name → ℕ → List ℕ
places_to u names zero = []
places_to u names (suc pc) = places_to u names pc ++ length (tests_to u names pc) ∷ []

-- the places behind the own tests of DOs
abbrev pub overs_to : Routine → List Name → ℕ → List ℕ
overs_to u names zero = replicate (length u.lines) 0
overs_to u names (suc pc) = overs (length (tests_to u names pc)) (loops_at u pc) (overs_to u names pc)

-- a table has the tests of all points up to one
pub record HasTestsTo (u : Routine) (names : List Name) (pc : ℕ) (table : TestTable) : Type 0 where
  pub tests : table.tests.items ≡ tests_to u names pc
  pub behind : table.behind.items ≡ places_to u names pc
  pub over : table.over.items ≡ overs_to u names pc

-- a table has the tests of a unit, of its end too
abbrev pub IsTestTable : Routine → List Name → TestTable → Type 0
IsTestTable u names table = HasTestsTo u names (suc (length u.lines)) table
