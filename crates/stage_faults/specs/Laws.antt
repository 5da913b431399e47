-- The first fault of a stage that is judged at heads and statements is the least.
use Rattle.std.specs.Prelude.{ℕ, ◌≡◌, ◌<◌, ◌⊎◌, IsTrue, List, Option, Some, slice_get}
use Rattle.fort_syntax.specs.DeckOrder.{units_ascend_above}
use Rattle.fort_syntax.specs.FirstFaults.{TellsLeast}
use Rattle.fort_syntax.specs.WellFormed.{AreWellFormedUnits}
use Rattle.fort_syntax.specs.declared.dialect.Dialect.{Dialect}
use Rattle.fort_syntax.specs.declared.rule.Rule.{Rule}
use Rattle.fort_syntax.specs.declared.stmt.Stmt.{Stmt}
use Rattle.fort_syntax.specs.declared.unit.Line.{Line}
use Rattle.fort_syntax.specs.declared.unit.Unit.{Unit as Routine}
use Rattle.fort_model.specs.Lists.{IsAmong}
use Rattle.fort_model.specs.Program.{Program}
use Rattle.fort_model.specs.Rules.{Breaks}
use Rattle.fort_model.specs.Stages.{IsBrokenOf}
use Rattle.stage_faults.specs.Scans.{first_in_units, IsUpTo}

-- a rule is told at the head of a unit or at one of its statements, at a card, that has at most the number of another one
abbrev pub IsToldIn : Option Rule → (Stmt → Option Rule) → Routine → Rule → ℕ → Type 0
IsToldIn head at u rule card =
    ((u.head ≡ card) × IsUpTo head rule) ⊎ ((line : Line) × IsAmong line u.lines × (line.card ≡ card)
    × IsUpTo (at line.stmt) rule)

-- Of some rules the first broken one is told of each head and each statement: what is told is broken there, and what is broken
-- is told, or one of a lesser number at its card.
pub record Tells (p : Program) (rules : List Rule) (head : ℕ → Routine → Option Rule)
    (at : Routine → Stmt → Option Rule) : Type 0 where
  pub of_heads : (i : ℕ) (u : Routine) (rule : Rule) → slice_get p.units i ≡ Some u → head i u ≡ Some rule
      → IsAmong rule rules × Breaks p rule i u u.head
  pub of_statements : (i : ℕ) (u : Routine) (line : Line) (rule : Rule) → slice_get p.units i ≡ Some u → IsAmong line u.lines
      → at u line.stmt ≡ Some rule → IsAmong rule rules × Breaks p rule i u line.card
  pub told : (i : ℕ) (u : Routine) (rule : Rule) (card : ℕ) → slice_get p.units i ≡ Some u → IsAmong rule rules
      → Breaks p rule i u card → IsToldIn (head i u) (at u) u rule card

-- a rule is told of the head of a unit before a card
abbrev pub IsToldEarlier : Program → (ℕ → Routine → Option Rule) → ℕ → Type 0
IsToldEarlier p head card = (j : ℕ) × (v : Routine) × (q : Rule) × (slice_get p.units j ≡ Some v)
    × (head j v ≡ Some q) × (v.head < card)

-- the same, where of a rule that is broken at heads only the first one may be told
pub record TellsFirst (p : Program) (rules : List Rule) (head : ℕ → Routine → Option Rule)
    (at : Routine → Stmt → Option Rule) : Type 0 where
  pub of_heads : (i : ℕ) (u : Routine) (rule : Rule) → slice_get p.units i ≡ Some u → head i u ≡ Some rule
      → IsAmong rule rules × Breaks p rule i u u.head
  pub of_statements : (i : ℕ) (u : Routine) (line : Line) (rule : Rule) → slice_get p.units i ≡ Some u → IsAmong line u.lines
      → at u line.stmt ≡ Some rule → IsAmong rule rules × Breaks p rule i u line.card
  pub told : (i : ℕ) (u : Routine) (rule : Rule) (card : ℕ) → slice_get p.units i ≡ Some u → IsAmong rule rules
      → Breaks p rule i u card → IsToldIn (head i u) (at u) u rule card ⊎ IsToldEarlier p head card

-- In units that are well formed and stand in order, what is told first is the least fault of the rules, and where nothing is
-- told they are kept.
abbrev pub StageFaultIsLeast : Type 0
StageFaultIsLeast =
    (p : Program) (rules : List Rule) (head : ℕ → Routine → Option Rule) (at : Routine → Stmt → Option Rule) (dialect : Dialect)
    → AreWellFormedUnits dialect p.units → IsTrue (units_ascend_above 0 p.units) → Tells p rules head at
    → TellsLeast (IsBrokenOf p rules) (first_in_units head at 0 p.units)

abbrev pub StageFaultIsFirst : Type 0
StageFaultIsFirst =
    (p : Program) (rules : List Rule) (head : ℕ → Routine → Option Rule) (at : Routine → Stmt → Option Rule) (dialect : Dialect)
    → AreWellFormedUnits dialect p.units → IsTrue (units_ascend_above 0 p.units) → TellsFirst p rules head at
    → TellsLeast (IsBrokenOf p rules) (first_in_units head at 0 p.units)

-- of two units that stand in order the earlier one has its head on a lesser card
abbrev pub HeadsAscend : Type 0
HeadsAscend =
    (units : List Routine) (dialect : Dialect) (j i : ℕ) (v u : Routine)
    → AreWellFormedUnits dialect units → IsTrue (units_ascend_above 0 units) → slice_get units j ≡ Some v
    → slice_get units i ≡ Some u → j < i
    → v.head < u.head

-- the head of a unit stands on a card above its number, counted from 0
abbrev pub HeadsAreAbove : Type 0
HeadsAreAbove =
    (units : List Routine) (dialect : Dialect) (i : ℕ) (u : Routine)
    → AreWellFormedUnits dialect units → IsTrue (units_ascend_above 0 units) → slice_get units i ≡ Some u → i < u.head
