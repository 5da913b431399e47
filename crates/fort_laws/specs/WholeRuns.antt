-- Runs from a point to the end of a unit, over its ASSERTs.
use Rattle.std.specs.Prelude.{ℕ, ◌+◌, ◌≡◌, true, false, List, [], map, length, Some, None, slice_get}
use Rattle.fort_syntax.specs.Names.{has_common, commons}
use Rattle.formula.specs.declared.value.Value.{Value}
use Rattle.formula.specs.declared.value.Value.TheVariants.{Int}
use Rattle.formula.specs.Worth.{Function}
use Rattle.fort_syntax.specs.declared.name.Name.{Name}
use Rattle.fort_syntax.specs.declared.unit.Line.{Line}
use Rattle.fort_model.specs.Evaluate.{Scene}
use Rattle.fort_model.specs.Outcome.{Ended}
use Rattle.fort_model.specs.Paths.{AtEnd, AtAssert, cut_at, over_or, IsWay}
use Rattle.fort_model.specs.Processor.{MeetsBound}
use Rattle.fort_notes.specs.Assertions.{Assertion}
use Rattle.fort_model.specs.Program.{Program, notes_of}
use Rattle.fort_model.specs.Run.{run}
use Rattle.fort_model.specs.Seen.{Named, Answers}
use Rattle.fort_model.specs.Senses.{note}
use Rattle.fort_model.specs.Lists.{IsAmong}
use Rattle.fort_model.specs.Smashes.{HoldsSmashed}
use Rattle.fort_syntax.specs.declared.unit.Unit.{Unit as Routine}
use Rattle.fort_model.specs.Storage.{Storage}
use Rattle.fort_model.specs.Symbols.{Symbol, LeastInteger, GreatestInteger}
use Rattle.fort_model.specs.Walk.{arrive, at_entry, walk_from}
use Rattle.fort_laws.specs.Called.{IsReferenceTo, IsCallTo}
use Rattle.fort_laws.specs.GoodStatements.{Stood, HasScalarDims, ReferencesMatch, CallStatementsMatch, IsGood}
use Rattle.fort_laws.specs.Matches.{AllTrue}
use Rattle.fort_laws.specs.Segments.{NoCheckFails, seen, IsSafe, KeepsUnsmashed, HasValue, StatementsKeep}
use Rattle.step_laws.specs.Unfolded.{run_from}
use Rattle.fort_laws.specs.Ways.{IsCutUp}

module _ (fs : List Function) (values : Symbol → Value) (program : Program) (i : ℕ) (s : Scene) where
  -- the parts of the clock of an ASSERT, where names stand for `now`
  abbrev pub clock_of : Assertion → Named Value → List Value
  clock_of a now = map (note (seen fs values program i s).sense (at_entry (seen fs values program i s)) now) a.clock

  -- the terms of an ASSERT are true, and its clock is not negative
  abbrev pub IsTrueAt : Assertion → Named Value → Type 0
  IsTrueAt a now = AllTrue (arrive (seen fs values program i s) None 0 (AtAssert a) now [])

  -- from an ASSERT that is true, no way to the next cut point fails at a check
  abbrev pub AssertsAreSafe : Type 0
  AssertsAreSafe =
      (a : Assertion) (q : ℕ) (now : Named Value) (st : Storage) → cut_at s.unit (notes_of program i) q ≡ AtAssert a
      → Stood s.processor s.unit s.environment now st → KeepsUnsmashed fs values program i s now → IsTrueAt a now
      → IsSafe fs values program i s (Some (clock_of a now)) q now

  -- the clocks of all ASSERTs have so many parts
  abbrev pub ClocksHave : ℕ → Type 0
  ClocksHave parts = (a : Assertion) (q : ℕ) → cut_at s.unit (notes_of program i) q ≡ AtAssert a → length a.clock ≡ parts

  -- no way from a point, which may itself be a cut point, fails at a check
  abbrev pub IsSafeIn : ℕ → Named Value → Type 0
  IsSafeIn pc now =
      (way : List (List ℕ)) (answers : Answers Value) → over_or program.dialect s.unit (notes_of program i)
      (cut_at s.unit (notes_of program i) pc) way (IsWay program.dialect s.unit (notes_of program i) pc way)
      → NoCheckFails (arrive (seen fs values program i s) None 0 (cut_at s.unit (notes_of program i) pc) now
      (walk_from (seen fs values program i s) None pc now answers way))

  -- a run from a point comes to the end of the unit, where all of OUTPUT is true
  pub record ComesToEnd (pc : ℕ) (st : Storage) : Type 0 where
    pub now : Named Value
    pub after : Storage
    pub cost : ℕ
    pub card : ℕ
    pub ends : (n : ℕ) → run_from s.processor s.units s.unit s.environment pc st (cost + n) ≡ Ended tt after n
    pub stood : Stood s.processor s.unit s.environment now after
    pub kept : KeepsUnsmashed fs values program i s now
    pub met : AllTrue (arrive (seen fs values program i s) None card AtEnd now [])
    pub value : (slice_get s.unit.lines pc ≡ None → ⊥) → HasValue fs values program i s now

-- What `SafeRunsArrive` takes is taken; clocks of all ASSERTs have equally many parts, and no way from a true
-- ASSERT fails. Then a run from a point from which no way fails comes to the end of the unit.
abbrev pub SafeRunsEnd : Type 0
SafeRunsEnd =
    (fs : List Function) (values : Symbol → Value) (program : Program) (i : ℕ) (s : Scene)
    → values LeastInteger ≡ Int s.processor.least → values GreatestInteger ≡ Int s.processor.greatest → s.processor.lazy ≡ false
    → MeetsBound s.processor program.bound
    → s.processor.dialect ≡ program.dialect → HasScalarDims s.unit s.environment
    → ReferencesMatch fs values program i s (run s.processor s.units) (IsReferenceTo program i s.unit)
    → CallStatementsMatch fs values program i s (run s.processor s.units) (IsCallTo program i s.unit)
    → ((pc : ℕ) (line : Line) → slice_get s.unit.lines pc ≡ Some line → IsGood s.unit s.environment
    (IsReferenceTo program i s.unit) (IsCallTo program i s.unit) pc line.stmt)
    → IsCutUp program.dialect s.unit (notes_of program i) → StatementsKeep fs values program i s
    → (parts : ℕ) → ClocksHave fs values program i s parts → AssertsAreSafe fs values program i s
    → (pc : ℕ) (now : Named Value) (st : Storage) → Stood s.processor s.unit s.environment now st
    → KeepsUnsmashed fs values program i s now
    → IsSafeIn fs values program i s pc now → ComesToEnd fs values program i s pc st

-- what is wanted of a unit: what stands in its COMMON blocks are COMMON entities
abbrev pub BlocksAreCommon : Routine → Type 0
BlocksAreCommon u = (x : Name) → IsAmong x (commons u) → has_common u x ≡ true

-- by a table that holds just what units smash, walks of statements leave names alone that their unit does not smash
abbrev pub StatementsKeepUnsmashed : Type 0
StatementsKeepUnsmashed =
    (fs : List Function) (values : Symbol → Value) (program : Program) (i : ℕ) (s : Scene) → HoldsSmashed program
    → slice_get program.units i ≡ Some s.unit → BlocksAreCommon s.unit
    → StatementsKeep fs values program i s
