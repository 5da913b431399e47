-- Which code is that of a unit, and of a deck.
use Rattle.std.specs.Prelude.{◌≡◌, ℕ, suc, ◌<◌, ◌≤◌, true, ⊤, List, [], ◌∷◌, ◌++◌, map, length, Option, Some, None, slice_get}
use Rattle.fort_syntax.specs.Names.{own_names, commons, dims_of, is_function}
use Rattle.fort_syntax.specs.declared.dialect.Dialect.{Dialect}
use Rattle.fort_syntax.specs.declared.name.Name.{Name}
use Rattle.fort_syntax.specs.declared.unit.Line.{Line}
use Rattle.fort_syntax.specs.declared.unit.Unit.{Unit as Routine}
use Rattle.fort_model.specs.CallFacts.{sites_of_unit}
use Rattle.fort_model.specs.Calls.{CallSite, callee_of}
use Rattle.fort_model.specs.Sites.{calls_before}
use Rattle.run_code.specs.Code.{stmt_code}
use Rattle.run_shapes.specs.Seen.{piece, dims_at, seen_in}
use Rattle.run_shapes.specs.declared.instr.Instr.{Instr}
use Rattle.run_shapes.specs.declared.instr.Instr.TheVariants.{Place, Load, Array, BeginDo}
use Rattle.run_shapes.specs.declared.slots.Amount.{Amount}
use Rattle.run_shapes.specs.declared.slots.Amount.TheVariants.{Fixed, Named}
use Rattle.run_shapes.specs.declared.slots.Slots.{Slots}
use Rattle.run_shapes.specs.declared.tests.Round.{Round}
use Rattle.run_shapes.specs.declared.tests.Test.{Test}
use Rattle.run_shapes.specs.declared.tests.Test.TheVariants as test
use Rattle.run_shapes.specs.declared.unit_code.CallCode.{CallCode}
use Rattle.run_shapes.specs.declared.unit_code.Code.{Code}
use Rattle.run_shapes.specs.declared.unit_code.LineCode.{LineCode}
use Rattle.run_shapes.specs.declared.unit_code.UnitCode.{UnitCode}

-- the names of a unit by their slots: dummies, names with new cells, COMMON entities
abbrev pub slot_names : Routine → List Name
slot_names u = u.dummies ++ map (λ d. d.name) (own_names u) ++ commons u

-- slots are those of a unit, and each has the dimensions of its name
pub record AreSlotsOf (u : Routine) (slots : Slots) : Type 0 where
  pub named : slots.names ≡ slot_names u
  pub dummies_counted : slots.dummies ≡ length u.dummies
  pub own_counted : slots.own ≡ length (own_names u)
  pub shaped : length slots.shapes ≡ length slots.names
  pub sized : (slot : ℕ) (x : Name) → slice_get slots.names slot ≡ Some x → dims_at slots slot ≡ dims_of u x

-- the code of a statement stands where it is said to stand
pub record IsLineOf (u : Routine) (units : List Routine) (pc : ℕ) (line : Line) (unit : UnitCode) (l : LineCode) : Type 0 where
  pub carded : l.card ≡ line.card
  pub ordered : l.start ≤ l.stop
  pub within : l.stop ≤ length unit.instrs
  pub told : map (seen_in unit) (piece l.start l.stop unit.instrs) ≡ stmt_code u units line.card pc (calls_before u pc) line.stmt

-- ---- slots that are there, of so many

abbrev pub HasSlot : ℕ → Amount → Type 0
HasSlot count (Fixed n) = ⊤
HasSlot count (Named slot) = slot < count

abbrev pub MayHaveSlot : ℕ → Option Amount → Type 0
MayHaveSlot count None = ⊤
MayHaveSlot count (Some amount) = HasSlot count amount

abbrev pub TestHasSlots : ℕ → Test → Type 0
TestHasSlots count (test.Loop round) = (round.variable < count) × HasSlot count round.last × MayHaveSlot count round.step
TestHasSlots count (test.Out point) = ⊤

abbrev pub InstrHasSlots : ℕ → Instr → Type 0
InstrHasSlots count (Place slot) = slot < count
InstrHasSlots count (Load slot) = slot < count
InstrHasSlots count (Array slot n) = slot < count
InstrHasSlots count (BeginDo slot point) = slot < count
InstrHasSlots count _ = ⊤

-- no slot is out of range
pub record HasItsSlots (unit : UnitCode) : Type 0 where
  pub in_instrs : (i : ℕ) (c : Instr) → slice_get unit.instrs i ≡ Some c → InstrHasSlots (length unit.slots.names) c
  pub in_tests : (i : ℕ) (t : Test) → slice_get unit.tests i ≡ Some t → TestHasSlots (length unit.slots.names) t
  pub in_sizes : (i : ℕ) (a : Amount) → slice_get unit.slots.sizes i ≡ Some a → HasSlot (length unit.slots.names) a

-- ---- calls, numbered in the order of the text

abbrev pub calls_coded : List Routine → ℕ → List CallSite → List CallCode
calls_coded units k [] = []
calls_coded units k (s ∷ ss) = record { number = k; callee = callee_of units s; actuals = length s.actuals }
    ∷ calls_coded units (suc k) ss

-- the code of a unit, whose COMMON entities stand among those of the deck
pub record IsUnitCodeOf (units : List Routine) (shared : List Name) (u : Routine) (unit : UnitCode) : Type 0 where
  pub called : unit.name ≡ u.name
  pub kind : unit.is_function ≡ is_function u
  pub result : is_function u ≡ true → slice_get unit.slots.names unit.value ≡ Some u.name
  pub slotted : AreSlotsOf u unit.slots
  pub commons_shared : map (slice_get shared) unit.shared ≡ map Some (commons u)
  pub fitting : HasItsSlots unit
  pub pointed : (i : ℕ) (round : Round) → slice_get unit.tests i ≡ Some (test.Loop round) → round.at < length unit.lines
  pub calls_told : unit.calls ≡ calls_coded units 1 (sites_of_unit u)
  pub long : length unit.lines ≡ length u.lines
  pub lined : (pc : ℕ) (line : Line) (l : LineCode) → slice_get u.lines pc ≡ Some line
      → slice_get unit.lines pc ≡ Some l → IsLineOf u units pc line unit l

-- the code of the units of a deck
pub record IsCodeOf (dialect : Dialect) (units : List Routine) (code : Code) : Type 0 where
  pub spoken : code.dialect ≡ dialect
  pub long : length code.units ≡ length units
  pub each : (i : ℕ) (u : Routine) (unit : UnitCode) → slice_get units i ≡ Some u → slice_get code.units i
      ≡ Some unit → IsUnitCodeOf units code.commons u unit
