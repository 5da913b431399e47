-- Runs from one cut point to the next, where a walk on may fail: which errors runs come to.
use Rattle.std.specs.Prelude.{ℕ, ◌+◌, ◌≤◌, ◌≡◌, false, List, [], ◌++◌, Option, Some, slice_get}
use Rattle.formula.specs.declared.value.Value.{Value}
use Rattle.formula.specs.declared.value.Value.TheVariants.{Int}
use Rattle.formula.specs.Worth.{Function}
use Rattle.fort_syntax.specs.declared.condition.Kind.{Kind}
use Rattle.fort_syntax.specs.declared.condition.Kind.TheVariants.{DefinedCheck, RangeCheck, DivisorCheck, SubscriptCheck, ChoiceCheck, LoopCheck, ResultCheck, AssertCheck, ClockCheck, FallCheck, OutputCheck}
use Rattle.fort_syntax.specs.declared.stmt.Stmt.{Stmt}
use Rattle.fort_syntax.specs.declared.unit.Line.{Line}
use Rattle.fort_syntax.specs.declared.unit.Unit.{Unit as Routine}
use Rattle.fort_model.specs.Conditions.{sight}
use Rattle.fort_model.specs.Evaluate.{Scene}
use Rattle.fort_model.specs.Events.{Event}
use Rattle.fort_model.specs.Flow.{leads}
use Rattle.fort_model.specs.Outcome.{Ended, Erred}
use Rattle.fort_model.specs.Paths.{Cut, NoCut, AtEnd, AtAssert, cut_at, IsWay}
use Rattle.fort_model.specs.Processor.{Processor, MeetsBound}
use Rattle.fort_model.specs.Program.{Program, notes_of}
use Rattle.fort_model.specs.Seen.{Named, Answers}
use Rattle.fort_model.specs.Senses.{of_values}
use Rattle.fort_model.specs.Smashes.{HoldsSmashed}
use Rattle.fort_model.specs.Storage.{Storage, Environment}
use Rattle.fort_model.specs.Symbols.{Symbol, LeastInteger, GreatestInteger}
use Rattle.fort_model.specs.Walk.{arrive, walk_from}
use Rattle.fort_model.specs.WalkStmt.{performed}
use Rattle.fort_laws.specs.Called.{IsReferenceTo, IsCallTo}
use Rattle.fort_laws.specs.CallLaw.{at_home, LieApart, CallsAreRight}
use Rattle.fort_laws.specs.Frame.{AreSound, SharesBlocks, FunctionsSmashNothing}
use Rattle.fort_laws.specs.GoodStatements.{Stood, IsGood}
use Rattle.fort_laws.specs.Matches.{AllTrue, FirstFails, Errs}
use Rattle.fort_laws.specs.Segments.{seen, KeepsUnsmashed, HasValue}
use Rattle.step_laws.specs.Unfolded.{run_from}
use Rattle.fort_laws.specs.WholeRuns.{BlocksAreCommon}
use Rattle.fort_laws.specs.Ways.{IsCutUp}

-- the kinds of checks of which a run knows: where one of them is false, the run errs
abbrev pub IsRunError : Kind → Type 0
IsRunError DefinedCheck = Unit {0}
IsRunError RangeCheck = Unit {0}
IsRunError DivisorCheck = Unit {0}
IsRunError SubscriptCheck = Unit {0}
IsRunError ChoiceCheck = Unit {0}
IsRunError LoopCheck = Unit {0}
IsRunError ResultCheck = Unit {0}
IsRunError _ = ⊥

-- the kinds of what is checked where a walk arrives at a cut point, of which a run knows nothing
abbrev pub IsOnArrival : Kind → Type 0
IsOnArrival AssertCheck = Unit {0}
IsOnArrival ClockCheck = Unit {0}
IsOnArrival FallCheck = Unit {0}
IsOnArrival OutputCheck = Unit {0}
IsOnArrival _ = ⊥

-- a cut point
abbrev pub IsCut : Cut → Type 0
IsCut NoCut = ⊥
IsCut AtEnd = Unit {0}
IsCut (AtAssert a) = Unit {0}

module _ (fs : List Function) (values : Symbol → Value) (program : Program) (i : ℕ) (s : Scene) where
  -- A run from a point, where names stand for `now`, comes to the cut point that a way leads to, and goes on from there as if it
  -- began there. All that the walk meets before its arrival is true. Named values stand for cells there.
  pub record Comes (clock : Option (List Value)) (pc : ℕ) (now : Named Value) (st : Storage)
      (answers : Answers Value) (way : List (List ℕ)) : Type 0 where
    pub point : ℕ
    pub card : ℕ
    pub next : Named Value
    pub after : Storage
    pub cost : ℕ
    pub used : 1 ≤ cost
    pub before : List (Event Value)
    pub cut : IsCut (cut_at s.unit (notes_of program i) point)
    pub walk_is : walk_from (seen fs values program i s) clock pc now answers way ≡ before ++ arrive
        (seen fs values program i s) clock card (cut_at s.unit (notes_of program i) point) next []
    pub before_true : AllTrue before
    pub runs : (n : ℕ) → run_from s.processor s.units s.unit s.environment pc st (cost + n)
        ≡ run_from s.processor s.units s.unit s.environment point after n
    pub ends : cut_at s.unit (notes_of program i) point ≡ AtEnd → (n : ℕ)
        → run_from s.processor s.units s.unit s.environment pc st (cost + n) ≡ Ended tt after n
    pub stood : Stood s.processor s.unit s.environment next after
    pub kept : KeepsUnsmashed fs values program i s next
    pub value : cut_at s.unit (notes_of program i) point ≡ AtEnd → HasValue fs values program i s next

  -- What a run from a point does as the walk along a way says: it arrives, and all that the walk meets is true;
  -- it comes to the cut point, where one of the checks of the arrival is the first that is false; or the first
  -- that is false is another check, and the run errs with it, at each stock of steps that is enough. `Errs`
  -- says nothing where a called unit's INPUT is false.
  pub data RunsAs (clock : Option (List Value)) (pc : ℕ) (now : Named Value) (st : Storage)
      (answers : Answers Value) (way : List (List ℕ)) : Type 0 where
    arrives : Comes clock pc now st answers way
        → AllTrue (walk_from (seen fs values program i s) clock pc now answers way)
        → RunsAs clock pc now st answers way
    fails_there : Comes clock pc now st answers way → (kind : Kind) (card : ℕ) → IsOnArrival kind
        → FirstFails kind card (walk_from (seen fs values program i s) clock pc now answers way)
        → RunsAs clock pc now st answers way
    errs_on_way : (kind : Kind) (card : ℕ) → FirstFails kind card (walk_from (seen fs values program i s)
        clock pc now answers way)
        → Errs kind card (run_from s.processor s.units s.unit s.environment pc) st → RunsAs clock pc now st answers way

  -- the way that a run goes to the next cut point, and what the calls on it answer
  pub record GoesAWay (clock : Option (List Value)) (pc : ℕ) (now : Named Value) (st : Storage) : Type 0 where
    pub answers : Answers Value
    pub way : List (List ℕ)
    pub is_way : IsWay program.dialect s.unit (notes_of program i) pc way
    pub runs_as : RunsAs clock pc now st answers way

  -- a run from a point errs with a check of some kind at a card, at each stock of steps that is enough
  pub record RunErrs (kind : Kind) (card pc : ℕ) (st : Storage) : Type 0 where
    pub after : Storage
    pub cost : ℕ
    pub errs : (n : ℕ) → run_from s.processor s.units s.unit s.environment pc st (cost + n) ≡ Erred kind card after

-- A unit of a sound program, on a strict processor of the dialect that has all integers up to the bound. Its
-- calls are of units that end well, and no cycle goes uncut in it.
pub record IsInOrder (program : Program) (p : Processor) (i : ℕ) (u : Routine) : Type 0 where
  pub strict : p.lazy ≡ false
  pub bounded : MeetsBound p program.bound
  pub dialects : p.dialect ≡ program.dialect
  pub is : slice_get program.units i ≡ Some u
  pub sound : AreSound program.units
  pub table : HoldsSmashed program
  pub blocks : SharesBlocks program.units
  pub harmless : FunctionsSmashNothing program.units
  pub common : BlocksAreCommon u
  pub right : CallsAreRight p program i
  pub cut : IsCutUp program.dialect u (notes_of program i)

-- all statements of a unit are good
abbrev pub AreGood : Program → ℕ → Routine → Environment → Type 0
AreGood program i u env = (pc : ℕ) (line : Line) → slice_get u.lines pc ≡ Some line
    → IsGood u env (IsReferenceTo program i u) (IsCallTo program i u) pc line.stmt

-- a run of such a unit, all statements of which are good, stands at a statement, and named values stand for cells
pub record IsUnderWay (values : Symbol → Value) (program : Program) (p : Processor) (i : ℕ) (u : Routine)
    (env : Environment) (pc : ℕ) (now : Named Value) (st : Storage) : Type 0 where
  pub order : IsInOrder program p i u
  pub least : values LeastInteger ≡ Int p.least
  pub greatest : values GreatestInteger ≡ Int p.greatest
  pub apart : LieApart program.units i u env
  pub good : AreGood program i u env
  pub line : Line
  pub at : slice_get u.lines pc ≡ Some line
  pub stood : Stood p u env now st
  pub kept : KeepsUnsmashed program.functions values program i (at_home p program u env) now

-- two lists of choices by which a statement leads on, all events of which are true for the same answers of calls, are one
abbrev pub ChoicesAreDecided : Type 0
ChoicesAreDecided =
    (fs : List Function) (values : Symbol → Value) (program : Program) (i : ℕ) (u : Routine) (stmt : Stmt)
    (card pc : ℕ) (now : Named Value) (answers : Answers Value) (cs ks : List ℕ) (q p : ℕ)
    → leads program.dialect u pc stmt cs ≡ Some q → leads program.dialect u pc stmt ks ≡ Some p
    → AllTrue (performed (sight (of_values fs values) program i u) card pc now stmt cs answers).events
    → AllTrue (performed (sight (of_values fs values) program i u) card pc now stmt ks answers).events → cs ≡ ks

-- a run goes a way, for some answers of calls
abbrev pub RunsArriveOrErr : Type 0
RunsArriveOrErr =
    (values : Symbol → Value) (program : Program) (p : Processor) (i : ℕ) (u : Routine) (env : Environment)
    (clock : Option (List Value)) (pc : ℕ) (now : Named Value) (st : Storage)
    → IsUnderWay values program p i u env pc now st
    → GoesAWay program.functions values program i (at_home p program u env) clock pc now st

-- Let a run go a way, for some answers of calls. If along any way, for the same answers, a check of a run error
-- is the first false event, then this is the error of the run. Nothing else is told of these answers:
-- `RunsArriveOrErr` finds some.
abbrev pub ErrorsAreThoseOfWalks : Type 0
ErrorsAreThoseOfWalks =
    (fs : List Function) (values : Symbol → Value) (program : Program) (i : ℕ) (s : Scene)
    (clock : Option (List Value)) (pc : ℕ) (now : Named Value) (st : Storage)
    → (own : GoesAWay fs values program i s clock pc now st) → (way : List (List ℕ))
    → IsWay program.dialect s.unit (notes_of program i) pc way
    → (kind : Kind) (card : ℕ) → IsRunError kind → FirstFails kind card
    (walk_from (seen fs values program i s) clock pc now own.answers way)
    → RunErrs fs values program i s kind card pc st

-- if along a way, whatever calls answer, a check of a run error is the first false event, then it is the error of the run
abbrev pub RunsErrWhateverCallsAnswer : Type 0
RunsErrWhateverCallsAnswer =
    (values : Symbol → Value) (program : Program) (p : Processor) (i : ℕ) (u : Routine) (env : Environment)
    (clock : Option (List Value)) (pc : ℕ) (now : Named Value) (st : Storage)
    → IsUnderWay values program p i u env pc now st
    → (way : List (List ℕ)) → IsWay program.dialect u (notes_of program i) pc way → (kind : Kind) (card : ℕ) → IsRunError kind
    → ((answers : Answers Value) → FirstFails kind card (walk_from (seen program.functions values program i
    (at_home p program u env)) clock pc now answers way))
    → RunErrs program.functions values program i (at_home p program u env) kind card pc st
