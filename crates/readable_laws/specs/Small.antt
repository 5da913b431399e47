-- Programs whose text is not too long: on how many cards they stand, how many labels a statement names, and
-- that calls have an INPUT.
use Rattle.std.specs.Prelude.{ℕ, ◌≡◌, ◌<◌, ◌^◌, length, Some, slice_get}
use Rattle.fort_syntax.specs.TreePatterns.{carried}
use Rattle.fort_syntax.specs.declared.stmt.Stmt.{Stmt}
use Rattle.fort_syntax.specs.declared.stmt.Stmt.TheVariants.{Computed, LogicalIf'}
use Rattle.fort_syntax.specs.declared.unit.Line.{Line}
use Rattle.fort_syntax.specs.declared.unit.Unit.{Unit as Routine}
use Rattle.fort_notes.specs.Assertions.{Assertion}
use Rattle.fort_model.specs.Program.{Program, notes_of}

-- a computed GO TO names few labels, also where a logical IF carries it
abbrev pub HasFewLabels : Stmt → Type 0
HasFewLabels (Computed labels x) = length labels < 2 ^ 32
HasFewLabels (LogicalIf' e _ (carried s)) = HasFewLabels s
HasFewLabels _ = Unit {0}

-- a statement stands on a card with a small number, and names few labels
pub record IsSmallLine (line : Line) : Type 0 where
  pub card : line.card < 2 ^ 32
  pub labels : HasFewLabels line.stmt

-- the statements and the ASSERTs of a program stand on cards with small numbers, and no statement names too many labels
pub record IsSmall (p : Program) : Type 0 where
  pub lines : (i pc : ℕ) (u : Routine) (line : Line) → slice_get p.units i ≡ Some u
      → slice_get u.lines pc ≡ Some line → IsSmallLine line
  pub asserts : (i k : ℕ) (u : Routine) (a : Assertion) → slice_get p.units i ≡ Some u
      → slice_get (notes_of p i).asserts k ≡ Some a → a.card < 2 ^ 32

-- the INPUT of each unit has a term at least
abbrev pub HasInputs : Program → Type 0
HasInputs p = (i : ℕ) (u : Routine) → slice_get p.units i ≡ Some u → 0 < length (notes_of p i).input
