-- Which symbols a walk reads, and how conditions that hold give walks that do not fail.
use Rattle.std.specs.Prelude.{ℕ, ◌≡◌, false, List, Option, Some, slice_get}
use Rattle.formula.specs.declared.value.Value.{Value}
use Rattle.formula.specs.Worth.{Function}
use Rattle.fort_syntax.specs.declared.name.Name.{Name}
use Rattle.fort_syntax.specs.declared.unit.Unit.{Unit as Routine}
use Rattle.fort_model.specs.Conditions.{sight}
use Rattle.fort_model.specs.Evaluate.{Scene}
use Rattle.fort_model.specs.Events.{takes}
use Rattle.fort_model.specs.Paths.{Path, IsPath}
use Rattle.fort_model.specs.Processor.{MeetsBound}
use Rattle.fort_model.specs.Program.{Program, notes_of}
use Rattle.fort_model.specs.Seen.{Named, Answers}
use Rattle.fort_model.specs.Senses.{of_values}
use Rattle.fort_model.specs.Symbols.{Symbol, LeastInteger, GreatestInteger, AtEntry}
use Rattle.fort_model.specs.Walk.{at_entry, entry_facts, smashed_in_order, walk_from, walk}
use Rattle.fort_model.specs.WalkPlaces.{sorts}
use Rattle.fort_model.specs.Storage.{Storage}
use Rattle.fort_laws.specs.Called.{IsReferenceTo, IsCallTo}
use Rattle.fort_laws.specs.GoodStatements.{Stood, HasScalarDims, ReferencesMatch, CallStatementsMatch, IsGood}
use Rattle.fort_laws.specs.Matches.{AllTrue}
use Rattle.fort_laws.specs.Segments.{NoCheckFails, seen, KeepsUnsmashed}
use Rattle.fort_laws.specs.WholeRuns.{IsSafeIn, AssertsAreSafe, BlocksAreCommon, ClocksHave, ComesToEnd}
use Rattle.fort_laws.specs.Ways.{IsCutUp}
use Rattle.fort_model.specs.Run.{run}
use Rattle.fort_model.specs.Smashes.{HoldsSmashed}
use Rattle.fort_syntax.specs.declared.unit.Line.{Line}
use Rattle.formula.specs.declared.value.Value.TheVariants.{Int}

-- from a point, with told answers of calls, a walk reads the bounds of the processor and values at the entry, and no other symbol
abbrev pub WalksReadFewSymbols : Type 0
WalksReadFewSymbols =
    (fs : List Function) (values others : Symbol → Value) (program : Program) (i : ℕ) (u : Routine)
    → values LeastInteger ≡ others LeastInteger → values GreatestInteger ≡ others GreatestInteger
    → ((x : Name) → values (AtEntry x) ≡ others (AtEntry x))
    → (clock : Option (List Value)) (pc : ℕ) (now : Named Value) (answers : Answers Value) (way : List (List ℕ))
    → walk_from (sight (of_values fs values) program i u) clock pc now answers way ≡ walk_from
    (sight (of_values fs others) program i u) clock pc now answers way

-- no walk along a path of a unit has a check as its first false event, whatever its symbols stand for
abbrev pub PathsAreSafe : List Function → Program → ℕ → Routine → Type 0
PathsAreSafe fs program i u =
    (values : Symbol → Value) (path : Path) → IsPath program.dialect u (notes_of program i) path
    → NoCheckFails (walk (sight (of_values fs values) program i u) path)

-- then no way from the entry fails at a check either, whatever calls answer, where what is taken at the entry is true
abbrev pub PathsMakeEntriesSafe : Type 0
PathsMakeEntriesSafe =
    (fs : List Function) (values : Symbol → Value) (program : Program) (i : ℕ) (s : Scene) → PathsAreSafe fs program i s.unit
    → AllTrue (takes (entry_facts (seen fs values program i s))) → IsSafeIn fs values program i s 0
    (at_entry (seen fs values program i s))

-- what a walk takes of smashed names at an ASSERT is true where names stand for cells: each has its type
abbrev pub SortsHold : List Function → (Symbol → Value) → Program → ℕ → Scene → Type 0
SortsHold fs values program i s =
    (now : Named Value) (st : Storage) → Stood s.processor s.unit s.environment now st → KeepsUnsmashed fs values program i s now
    → AllTrue (takes (sorts (seen fs values program i s).sense s.unit now (smashed_in_order (seen fs values program i s))))

-- and so is it at an ASSERT that is true, whatever its names stand for
abbrev pub PathsMakeAssertsSafe : Type 0
PathsMakeAssertsSafe =
    (fs : List Function) (values : Symbol → Value) (program : Program) (i : ℕ) (s : Scene) → PathsAreSafe fs program i s.unit
    → AllTrue (takes (entry_facts (seen fs values program i s))) → SortsHold fs values program i s
    → AssertsAreSafe fs values program i s

-- A unit whose paths are safe: a strict run from its first statement comes to the end, where all of OUTPUT is
-- true. Calls are taken to match, statements to be good, and what is taken at the entry to be true.
abbrev pub SafePathsEnd : Type 0
SafePathsEnd =
    (fs : List Function) (values : Symbol → Value) (program : Program) (i : ℕ) (s : Scene)
    → values LeastInteger ≡ Int s.processor.least → values GreatestInteger ≡ Int s.processor.greatest → s.processor.lazy ≡ false
    → MeetsBound s.processor program.bound
    → s.processor.dialect ≡ program.dialect → HasScalarDims s.unit s.environment
    → ReferencesMatch fs values program i s (run s.processor s.units) (IsReferenceTo program i s.unit)
    → CallStatementsMatch fs values program i s (run s.processor s.units) (IsCallTo program i s.unit)
    → ((pc : ℕ) (line : Line) → slice_get s.unit.lines pc ≡ Some line → IsGood s.unit s.environment
    (IsReferenceTo program i s.unit) (IsCallTo program i s.unit) pc line.stmt)
    → IsCutUp program.dialect s.unit (notes_of program i)
    → HoldsSmashed program → slice_get program.units i ≡ Some s.unit → BlocksAreCommon s.unit
    → (parts : ℕ) → ClocksHave fs values program i s parts
    → PathsAreSafe fs program i s.unit → SortsHold fs values program i s
    → (st : Storage) → AllTrue (takes (entry_facts (seen fs values program i s)))
    → Stood s.processor s.unit s.environment (at_entry (seen fs values program i s)) st
    → ComesToEnd fs values program i s 0 st
