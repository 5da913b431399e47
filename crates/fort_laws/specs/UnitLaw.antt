-- Units of a program: that their runs end, where those of the units that they call do.
use Rattle.std.specs.Prelude.{ℕ, ◌≡◌, false, length, Some, None, slice_get}
use Rattle.formula.specs.declared.value.Value.{Value}
use Rattle.formula.specs.declared.value.Value.TheVariants.{Int}
use Rattle.fort_syntax.specs.declared.unit.Line.{Line}
use Rattle.fort_syntax.specs.declared.unit.Unit.{Unit as Routine}
use Rattle.fort_model.specs.Events.{takes}
use Rattle.fort_model.specs.Fitting.{FitsUnit}
use Rattle.fort_model.specs.Paths.{AtAssert, cut_at}
use Rattle.fort_model.specs.Processor.{Processor, MeetsBound}
use Rattle.fort_notes.specs.Assertions.{Assertion}
use Rattle.fort_model.specs.Program.{Program, notes_of}
use Rattle.fort_model.specs.Smashes.{HoldsSmashed}
use Rattle.fort_model.specs.Storage.{Storage, Environment}
use Rattle.fort_model.specs.Symbols.{Symbol, LeastInteger, GreatestInteger}
use Rattle.fort_model.specs.Walk.{at_entry, entry_facts}
use Rattle.fort_laws.specs.Called.{IsReferenceTo, IsCallTo}
use Rattle.fort_laws.specs.CallLaw.{at_home, HasNames, LieApart, IsRight, CallsAreRight}
use Rattle.fort_laws.specs.FewSymbols.{PathsAreSafe, SortsHold}
use Rattle.fort_laws.specs.Frame.{AreSound, SharesBlocks, FunctionsSmashNothing}
use Rattle.fort_laws.specs.GoodStatements.{Stood, IsGood}
use Rattle.fort_laws.specs.Matches.{AllTrue}
use Rattle.fort_laws.specs.Segments.{seen}
use Rattle.fort_laws.specs.WholeRuns.{BlocksAreCommon, ClocksHave, ComesToEnd}
use Rattle.fort_laws.specs.Ways.{EndsByReturn, IsCutUp}

-- where named values stand for cells, smashed names have their types at ASSERTs
abbrev pub SmashedHaveTypes : Type 0
SmashedHaveTypes =
    (values : Symbol → Value) (program : Program) (p : Processor) (i : ℕ) (u : Routine) (env : Environment)
    → values LeastInteger ≡ Int p.least → values GreatestInteger ≡ Int p.greatest → AreSound program.units
    → slice_get program.units i ≡ Some u
    → SortsHold program.functions values program i (at_home p program u env)

-- A unit of a sound program whose paths are safe, which no cycle goes uncut in, all clocks of which have
-- equally many parts, and all calls of which are of units that end well: a strict run from its first statement
-- comes to the end, where all of OUTPUT is true. Statements are taken to be good, and what is taken at the
-- entry to be true.
abbrev pub SafeUnitsEnd : Type 0
SafeUnitsEnd =
    (values : Symbol → Value) (program : Program) (p : Processor) (i : ℕ) (u : Routine) (env : Environment)
    → values LeastInteger ≡ Int p.least → values GreatestInteger ≡ Int p.greatest → p.lazy ≡ false
    → MeetsBound p program.bound → p.dialect ≡ program.dialect
    → slice_get program.units i ≡ Some u → AreSound program.units → HoldsSmashed program
    → SharesBlocks program.units → FunctionsSmashNothing program.units
    → BlocksAreCommon u → CallsAreRight p program i → LieApart program.units i u env
    → ((pc : ℕ) (line : Line) → slice_get u.lines pc ≡ Some line → IsGood u env (IsReferenceTo program i u)
    (IsCallTo program i u) pc line.stmt)
    → IsCutUp program.dialect u (notes_of program i) → (parts : ℕ) → ClocksHave program.functions values program i
    (at_home p program u env) parts → PathsAreSafe program.functions program i u
    → (st : Storage) → AllTrue (takes (entry_facts (seen program.functions values program i (at_home p program u env))))
    → Stood p u env (at_entry (seen program.functions values program i (at_home p program u env))) st
    → ComesToEnd program.functions values program i (at_home p program u env) 0 st

-- A unit of a sound program, with declarations in order and notes that fit it, whose paths are safe, which no
-- cycle goes uncut in, whose end RETURNs alone lead to, all clocks of which have equally many parts, and all
-- calls of which are of units that end well: it ends well itself, on a strict processor of the dialect that
-- meets the bound. Statements are taken to be good.
abbrev pub SafeUnitsAreRight : Type 0
SafeUnitsAreRight =
    (program : Program) (p : Processor) (i : ℕ) (u : Routine)
    → p.lazy ≡ false → MeetsBound p program.bound → p.dialect ≡ program.dialect
    → slice_get program.units i ≡ Some u → AreSound program.units → HoldsSmashed program
    → SharesBlocks program.units → FunctionsSmashNothing program.units
    → HasNames u → BlocksAreCommon u → FitsUnit u (notes_of program i) → EndsByReturn program.dialect u
    → (slice_get u.lines 0 ≡ None → ⊥) → CallsAreRight p program i
    → ((env : Environment) → LieApart program.units i u env → (pc : ℕ) (line : Line)
    → slice_get u.lines pc ≡ Some line → IsGood u env (IsReferenceTo program i u) (IsCallTo program i u)
    pc line.stmt)
    → IsCutUp program.dialect u (notes_of program i) → (parts : ℕ)
    → ((a : Assertion) (q : ℕ) → cut_at u (notes_of program i) q ≡ AtAssert a → length a.clock ≡ parts)
    → PathsAreSafe program.functions program i u
    → IsRight p program i u
