-- Runs from one cut point to the next, where no walk on can fail.
use Rattle.std.specs.Prelude.{ℕ, ◌+◌, ◌≡◌, true, false, List, [], Option, Some, slice_get}
use Rattle.fort_syntax.specs.Names.{is_function}
use Rattle.formula.specs.declared.value.Value.{Value}
use Rattle.formula.specs.declared.value.Value.TheVariants.{Int}
use Rattle.formula.specs.Values.{is_defined}
use Rattle.formula.specs.Worth.{Function}
use Rattle.fort_syntax.specs.declared.name.Name.{Name}
use Rattle.fort_syntax.specs.declared.condition.Kind.{Kind}
use Rattle.fort_syntax.specs.declared.unit.Line.{Line}
use Rattle.fort_model.specs.Conditions.{sight}
use Rattle.fort_model.specs.Evaluate.{Scene}
use Rattle.fort_model.specs.Events.{Event}
use Rattle.fort_model.specs.Outcome.{Ended}
use Rattle.fort_model.specs.Paths.{AtEnd, AtAssert, cut_at, IsWay}
use Rattle.fort_model.specs.Processor.{MeetsBound}
use Rattle.fort_notes.specs.Assertions.{Assertion}
use Rattle.fort_model.specs.Program.{Program, notes_of, is_smashed}
use Rattle.fort_model.specs.Run.{run}
use Rattle.fort_model.specs.Seen.{Named, Answers}
use Rattle.fort_model.specs.Senses.{of_values}
use Rattle.fort_model.specs.Storage.{Storage}
use Rattle.fort_model.specs.Symbols.{Symbol, LeastInteger, GreatestInteger}
use Rattle.fort_model.specs.Walk.{arrive, at_entry, walk_from}
use Rattle.fort_model.specs.WalkCalls.{Sight}
use Rattle.fort_model.specs.WalkStmt.{performed}
use Rattle.fort_laws.specs.Called.{IsReferenceTo, IsCallTo}
use Rattle.fort_laws.specs.GoodStatements.{Stood, HasScalarDims, ReferencesMatch, CallStatementsMatch, IsGood}
use Rattle.fort_laws.specs.Matches.{AllTrue, FirstFails}
use Rattle.step_laws.specs.Unfolded.{run_from}
use Rattle.fort_laws.specs.Ways.{EndsByReturn, IsCutUp}

-- the first false event of a walk, if there is one, is no check
abbrev pub NoCheckFails : List (Event Value) → Type 0
NoCheckFails es = (kind : Kind) (card : ℕ) → FirstFails kind card es → ⊥

module _ (fs : List Function) (values : Symbol → Value) (program : Program) (i : ℕ) (s : Scene) where
  abbrev pub seen : Sight Value
  seen = sight (of_values fs values) program i s.unit

  -- from a point, where names stand for `now`, no way to the next cut point fails at a check
  abbrev pub IsSafe : Option (List Value) → ℕ → Named Value → Type 0
  IsSafe clock pc now = (way : List (List ℕ)) (answers : Answers Value) → IsWay program.dialect s.unit
      (notes_of program i) pc way → NoCheckFails (walk_from seen clock pc now answers way)

  -- names that the unit does not smash stand for what they stood for at the entry
  abbrev pub KeepsUnsmashed : Named Value → Type 0
  KeepsUnsmashed now = (x : Name) → is_smashed program i x ≡ false → now x ≡ at_entry seen x

  -- what is wanted of a unit: the walks of its statements leave such names as they were
  abbrev pub StatementsKeep : Type 0
  StatementsKeep =
      (pc : ℕ) (line : Line) (now : Named Value) (answers : Answers Value) (cs : List ℕ) → slice_get s.unit.lines pc ≡ Some line
      → KeepsUnsmashed now → KeepsUnsmashed (performed seen line.card pc now line.stmt cs answers).value

  -- where the end is led to by RETURNs alone, the value of a FUNCTION is defined
  abbrev pub HasValue : Named Value → Type 0
  HasValue now = EndsByReturn program.dialect s.unit → is_function s.unit ≡ true → is_defined (now s.unit.name) ≡ true

  -- A run from a point comes to the end of the unit, or to a point with an ASSERT, from which it goes on as if
  -- it began there. All checks of the arrival are true, and named values stand for cells.
  pub data Arrives (clock : Option (List Value)) (pc : ℕ) (st : Storage) : Type 0 where
    at_end : (now : Named Value) (after : Storage) (cost card : ℕ)
        → ((n : ℕ) → run_from s.processor s.units s.unit s.environment pc st (cost + n) ≡ Ended tt after n)
        → Stood s.processor s.unit s.environment now after → KeepsUnsmashed now
        → AllTrue (arrive seen clock card AtEnd now []) → HasValue now → Arrives clock pc st
    at_assert : (a : Assertion) (q : ℕ) (now : Named Value) (after : Storage) (cost card : ℕ)
        → cut_at s.unit (notes_of program i) q ≡ AtAssert a
        → ((n : ℕ) → run_from s.processor s.units s.unit s.environment pc st (cost + n)
        ≡ run_from s.processor s.units s.unit s.environment q after n)
        → Stood s.processor s.unit s.environment now after → KeepsUnsmashed now
        → AllTrue (arrive seen clock card (AtAssert a) now []) → Arrives clock pc st

-- On a strict processor of the program's dialect that has all integers up to the bound: where the unit has no uncut cycle, its
-- statements are good and calls match, a run from a statement from which no walk fails arrives at a cut point.
abbrev pub SafeRunsArrive : Type 0
SafeRunsArrive =
    (fs : List Function) (values : Symbol → Value) (program : Program) (i : ℕ) (s : Scene)
    → values LeastInteger ≡ Int s.processor.least → values GreatestInteger ≡ Int s.processor.greatest → s.processor.lazy ≡ false
    → MeetsBound s.processor program.bound
    → s.processor.dialect ≡ program.dialect → HasScalarDims s.unit s.environment
    → ReferencesMatch fs values program i s (run s.processor s.units) (IsReferenceTo program i s.unit)
    → CallStatementsMatch fs values program i s (run s.processor s.units) (IsCallTo program i s.unit)
    → ((pc : ℕ) (line : Line) → slice_get s.unit.lines pc ≡ Some line → IsGood s.unit s.environment
    (IsReferenceTo program i s.unit) (IsCallTo program i s.unit) pc line.stmt)
    → IsCutUp program.dialect s.unit (notes_of program i) → StatementsKeep fs values program i s
    → (clock : Option (List Value)) (pc : ℕ) (line : Line) (now : Named Value) (st : Storage)
    → slice_get s.unit.lines pc ≡ Some line → Stood s.processor s.unit s.environment now st
    → KeepsUnsmashed fs values program i s now
    → IsSafe fs values program i s clock pc now → Arrives fs values program i s clock pc st
