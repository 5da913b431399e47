-- What instructions of expressions do to a state.
use Rattle.std.specs.Prelude.{◌≡◌, ◌<◌, ◌^◌, length, ℕ, Bool, true, false, cond, not, ◌&&◌, ◌||◌, ℤ, pos, neg_ℤ, List, [], ◌∷◌, Result, Ok, Err}
use Rattle.formula.specs.Values.{greater, smaller}
use Rattle.formula.specs.declared.value.Cell.{Cell}
use Rattle.formula.specs.declared.value.Cell.TheVariants.{Int, Logical, Undefined}
use Rattle.fort_syntax.specs.declared.condition.Kind.{Kind}
use Rattle.fort_syntax.specs.declared.condition.Kind.TheVariants.{DefinedCheck}
use Rattle.fort_model.specs.Cells.{num, holds, is_defined, compares}
use Rattle.fort_model.specs.Evaluate.{folded}
use Rattle.fort_model.specs.Storage.{Storage, load, store}
use Rattle.run_held.specs.Sums.{constant_to, ranged_to, operated_to, power_to}
use Rattle.run_intrinsics.specs.Intrinsics.{intrinsic_to}
use Rattle.run_shapes.specs.Seen.{intrinsic_of}
use Rattle.run_shapes.specs.declared.instr.Instr.{Instr}
use Rattle.run_shapes.specs.declared.instr.Instr.TheVariants as instr
use Rattle.run_rooms.specs.Roomy.{behind}
use Rattle.run_state.specs.Deeds.{value_in, values_in, first_in, newest_in, under_in, extent_at, with_values, with_cells, skipped, failed, lost}
use Rattle.run_state.specs.declared.machine.Item.{Item}
use Rattle.run_state.specs.declared.machine.Item.TheVariants.{Cells, Fresh}
use Rattle.run_state.specs.declared.machine.Setting.{Setting}
use Rattle.run_state.specs.declared.machine.Stage.TheVariants as stage
use Rattle.run_state.specs.declared.machine.State.{State}
use Rattle.run_state.specs.Shows.{unit_code}
use Rattle.run_state.specs.Obeyed.{Obeys, IsPlain}
use Rattle.run_shapes.specs.Coded.{InstrHasSlots}
use Rattle.run_shapes.specs.declared.unit_code.Code.{Code}

-- ---- values, or the kinds of errors

-- what a cell holds, which must be defined
abbrev pub read_to : Storage → ℕ → Result Cell Kind
read_to st i = cond (is_defined (load st i)) (Ok (load st i)) (Err DefinedCheck)

-- what was taken is read for its value
abbrev pub value_to : Storage → Item → Result Cell Kind
value_to st (Cells e) = read_to st e.first
value_to st (Fresh c) = Ok c

-- the smaller or the greater of two numbers
abbrev pub better : Bool → ℤ → ℤ → ℤ
better true = smaller
better false = greater

-- a function of two numbers on several, from the left
abbrev pub folded_all : (ℤ → ℤ → ℤ) → List Cell → ℤ
folded_all f [] = pos 0
folded_all f (c ∷ cs) = folded f (num c) cs

-- the smallest or the greatest of several numbers; nothing where there are none
abbrev pub extreme_to : Bool → List Cell → Cell
extreme_to least [] = Undefined
extreme_to least (c ∷ cs) = Int (folded (better least) (num c) cs)

-- the value so many below the newest
abbrev pub value_below : ℕ → State → Cell
value_below depth m = value_in (first_in (under_in depth m.values.items))

-- the value that an instruction puts in the place of values
abbrev pub answer_to : Setting → Instr → State → Result Cell Kind
answer_to s (instr.Number n) m = constant_to s.bounds n
answer_to s instr.One m = Ok (Int (pos 1))
answer_to s (instr.Truth b) m = Ok (Logical b)
answer_to s (instr.Load slot) m = read_to m.cells.items (extent_at m slot).first
answer_to s instr.Value m = value_to m.cells.items (first_in m.values.items)
answer_to s instr.Negate m = ranged_to s.bounds (neg_ℤ (num (value_below 0 m)))
answer_to s (instr.Raise n) m = power_to s.bounds (num (value_below 0 m)) n
answer_to s (instr.Operation o) m = operated_to s.bounds o (value_below 1 m) (value_below 0 m)
answer_to s (instr.Comparison o) m = Ok (Logical (compares o (value_below 1 m) (value_below 0 m)))
answer_to s instr.Negation m = Ok (Logical (not (holds (value_below 0 m))))
answer_to s instr.Both m = Ok (Logical (holds (value_below 1 m) && holds (value_below 0 m)))
answer_to s instr.Either m = Ok (Logical (holds (value_below 1 m) || holds (value_below 0 m)))
answer_to s (instr.BuiltIn f n) m = intrinsic_to s.bounds (intrinsic_of f) (values_in (newest_in n m.values.items []))
answer_to s _ m = Ok Undefined

-- ---- changes of a state

-- a value in the place of the newest so many, or an error
abbrev pub answered : ℕ → Result Cell Kind → State → State
answered depth (Ok c) m = with_values (Fresh c ∷ under_in depth m.values.items) m
answered depth (Err kind) m = failed kind m

-- the cells of the name of a slot are taken
abbrev pub did_place : ℕ → State → State
did_place slot m = with_values (Cells (extent_at m slot) ∷ m.values.items) m

-- a value is let go
abbrev pub did_forget : State → State
did_forget m = with_values (behind m.values.items) m

-- the newest value gives way to a truth value, and so many instructions are left out
abbrev pub decided : Bool → ℕ → State → State
decided b k m = skipped k (with_values (Fresh (Logical b) ∷ behind m.values.items) m)

-- a lazy processor leaves out the right operand where the left one decides
abbrev pub did_skip_false : Setting → ℕ → State → State
did_skip_false s k m = cond (s.lazy && not (holds (value_below 0 m))) (decided false k m) m

abbrev pub did_skip_true : Setting → ℕ → State → State
did_skip_true s k m = cond (s.lazy && holds (value_below 0 m)) (decided true k m) m

-- a value is assigned to what was taken behind it
abbrev pub assigned_to : Item → State → State
assigned_to (Cells e) m = with_values (behind (behind m.values.items))
    (with_cells (store m.cells.items e.first (value_below 1 m)) m)
assigned_to (Fresh c) m = lost m

abbrev pub did_assign : State → State
did_assign m = assigned_to (first_in m.values.items) m

-- ---- each instruction

-- in the place of how many values an instruction puts one
abbrev pub depth_of : Instr → ℕ
depth_of instr.Value = 1
depth_of instr.Negate = 1
depth_of (instr.Raise n) = 1
depth_of (instr.Operation o) = 2
depth_of (instr.Comparison o) = 2
depth_of instr.Negation = 1
depth_of instr.Both = 2
depth_of instr.Either = 2
depth_of (instr.BuiltIn f n) = n
depth_of _ = 0

-- what an instruction does
abbrev pub did : Setting → Instr → State → State
did s (instr.Place slot) m = did_place slot m
did s (instr.SkipFalse k) m = did_skip_false s k m
did s (instr.SkipTrue k) m = did_skip_true s k m
did s instr.Forget m = did_forget m
did s instr.Assigned m = did_assign m
did s i m = answered (depth_of i) (answer_to s i m) m

-- the instructions of which that is so
abbrev pub is_element : Instr → Bool
is_element (instr.Number n) = true
is_element instr.One = true
is_element (instr.Truth b) = true
is_element (instr.Place slot) = true
is_element (instr.Load slot) = true
is_element instr.Value = true
is_element instr.Negate = true
is_element (instr.Raise n) = true
is_element (instr.Operation o) = true
is_element (instr.Comparison o) = true
is_element instr.Negation = true
is_element (instr.SkipFalse k) = true
is_element instr.Both = true
is_element (instr.SkipTrue k) = true
is_element instr.Either = true
is_element (instr.BuiltIn f n) = true
is_element instr.Forget = true
is_element instr.Assigned = true
is_element _ = false

-- a state in which an instruction stands next, whose slot is there
pub record IsReady (code : Code) (i : Instr) (m : State) : Type 0 where
  pub inside : m.stage ≡ stage.Inside
  pub cells_near : length m.cells.items < 2 ^ 64
  pub stop_near : m.frame.stop < 2 ^ 64
  pub place_near : m.frame.place < 2 ^ 64
  pub has_slots : InstrHasSlots (length (unit_code code m.frame.unit).slots.names) i

-- the instructions do what the model says, and need room for one item at most
abbrev pub ElementsAreObeyed : Type 0
ElementsAreObeyed = (code : Code) (setting : Setting) (i : Instr) (m : State) → is_element i ≡ true → IsReady code i m
    → Obeys code setting i m (did setting i m) × IsPlain m (did setting i m)
