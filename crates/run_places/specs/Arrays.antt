-- Where the element of an array is, in numbers that a machine has, and what the instruction does to a state that takes it.
use Rattle.std.specs.Prelude.{ℕ, pred, ◌+◌, ◌*◌, cond, ℤ, pos, List, [], ◌∷◌, map, take, drop, Option, Some, None}
use Rattle.formula.specs.Values.{count, is_between}
use Rattle.fort_syntax.specs.declared.condition.Kind.TheVariants.{SubscriptCheck}
use Rattle.fort_model.specs.Cells.{num}
use Rattle.fort_model.specs.Evaluate.{numbers}
use Rattle.fort_model.specs.Storage.{load}
use Rattle.run_shapes.specs.Seen.{shape_at}
use Rattle.run_shapes.specs.declared.instr.Instr.TheVariants.{Array}
use Rattle.run_shapes.specs.declared.slots.Amount.{Amount}
use Rattle.run_shapes.specs.declared.slots.Amount.TheVariants.{Fixed, Named}
use Rattle.run_shapes.specs.declared.slots.Shape.{Shape}
use Rattle.run_shapes.specs.declared.slots.Slots.{Slots}
use Rattle.run_shapes.specs.declared.unit_code.Code.{Code}
use Rattle.run_shapes.specs.declared.unit_code.UnitCode.{UnitCode}
use Rattle.run_state.specs.Near.{far}
use Rattle.run_state.specs.Deeds.{values_in, newest_in, under_in, extent_at, with_values, failed}
use Rattle.run_state.specs.Obeyed.{Obeys, IsPlain}
use Rattle.run_state.specs.Shows.{unit_code}
use Rattle.run_state.specs.declared.machine.Extent.{Extent}
use Rattle.run_state.specs.declared.machine.Item.TheVariants.{Cells}
use Rattle.run_state.specs.declared.machine.Setting.{Setting}
use Rattle.run_state.specs.declared.machine.State.{State}
use Rattle.run_elements.specs.Elements.{IsReady}
use Rattle.run_places.specs.declared.places.Place.{Place}

-- before any subscript
abbrev pub first_place : Place
first_place = record { offset = 0; stretch = 1 }

-- behind one more subscript, by its dimension; there is no place for one that is not from 1 to the dimension
abbrev pub next_to : Place → ℤ → ℕ → Option Place
next_to p s d = cond (is_between (pos 1) (pos d) s)
    (Some (record { offset = far (p.offset + p.stretch * pred (count s)); stretch = far (p.stretch * d) })) None

-- on from a place, where there is one
abbrev pub on_from : Option Place → (Place → Option Place) → Option Place
on_from None next = None
on_from (Some p) next = next p

-- behind all subscripts
abbrev pub place_to : List ℤ → List ℕ → Place → Option Place
place_to [] ds p = Some p
place_to (s ∷ ss) [] p = Some p
place_to (s ∷ ss) (d ∷ ds) p = on_from (next_to p s d) (place_to ss ds)

-- a dimension; one that is no count has no subscripts, just as 0
abbrev pub dim_in : State → Amount → ℕ
dim_in m (Fixed n) = n
dim_in m (Named slot) = count (num (load m.cells.items (extent_at m slot).first))

-- so many of them, from a place of the table on
abbrev pub dims_in : State → Slots → ℕ → ℕ → List ℕ
dims_in m slots first rank = map (dim_in m) (take rank (drop first slots.sizes))

-- the newest so many values, the first subscript first
abbrev pub subscripts_of : State → ℕ → List ℤ
subscripts_of m n = numbers (values_in (newest_in n m.values.items []))

-- the element is taken in the place of its subscripts, where there is one
abbrev pub took : ℕ → Extent → Option Place → State → State
took n e None m = failed SubscriptCheck m
took n e (Some p) m = with_values (Cells (record { first = far (e.first + p.offset); size = 1 }) ∷ under_in n m.values.items) m

abbrev pub place_by : State → Slots → Shape → ℕ → Option Place
place_by m slots shape n = place_to (subscripts_of m n) (dims_in m slots shape.first shape.rank) first_place

-- an element of the array of a slot, by so many subscripts
abbrev pub did_array : UnitCode → ℕ → ℕ → State → State
did_array unit slot n m = took n (extent_at m slot) (place_by m unit.slots (shape_at unit.slots slot) n) m

-- the instruction does what the model says, and needs room for one item at most
abbrev pub ArraysAreObeyed : Type 0
ArraysAreObeyed = (code : Code) (setting : Setting) (slot n : ℕ) (m : State) → IsReady code (Array slot n) m
    → Obeys code setting (Array slot n) m (did_array (unit_code code m.frame.unit) slot n m)
    × IsPlain m (did_array (unit_code code m.frame.unit) slot n m)
