-- What parts of a run do to a state.
use Rattle.std.specs.Prelude.{ℕ, zero, suc, ◌+◌, List, [], ◌∷◌, slice_index_or}
use Rattle.formula.specs.declared.value.Cell.{Cell}
use Rattle.formula.specs.declared.value.Cell.TheVariants.{Undefined}
use Rattle.fort_syntax.specs.declared.condition.Kind.{Kind}
use Rattle.run_rooms.specs.Roomy.{first_or, behind, oldest}
use Rattle.run_state.specs.Near.{far}
use Rattle.run_state.specs.declared.machine.Extent.{Extent}
use Rattle.run_state.specs.declared.machine.Item.{Item}
use Rattle.run_state.specs.declared.machine.Item.TheVariants.{Cells, Fresh}
use Rattle.run_state.specs.declared.machine.Stage.{Stage}
use Rattle.run_state.specs.declared.machine.Stage.TheVariants as stage
use Rattle.run_state.specs.declared.machine.State.{State}

-- ---- what stands in a state

-- no cells
abbrev pub no_cells : Extent
no_cells = record { first = 0; size = 0 }

-- an undefined value
abbrev pub no_item : Item
no_item = Fresh Undefined

-- the value of an item that was read
abbrev pub value_in : Item → Cell
value_in (Fresh c) = c
value_in (Cells e) = Undefined

-- how many cells an item has, as a new one has for a value
abbrev pub size_in : Item → ℕ
size_in (Fresh c) = 1
size_in (Cells e) = e.size

-- the values of several
abbrev pub values_in : List Item → List Cell
values_in [] = []
values_in (x ∷ xs) = value_in x ∷ values_in xs

-- the newest item, and the ones below it
abbrev pub first_in : List Item → Item
first_in items = first_or no_item items

abbrev pub second_in : List Item → Item
second_in items = first_or no_item (behind items)

abbrev pub third_in : List Item → Item
third_in items = first_or no_item (behind (behind items))

-- the newest so many, the oldest of them first, before others; and what is below them
abbrev pub newest_in : ℕ → List Item → List Item → List Item
newest_in zero items acc = acc
newest_in (suc n) items acc = newest_in n (behind items) (first_in items ∷ acc)

abbrev pub under_in : ℕ → List Item → List Item
under_in zero items = items
under_in (suc n) items = under_in n (behind items)

-- the cells of the name of a slot of the unit that is being run
abbrev pub extent_at : State → ℕ → Extent
extent_at m slot = slice_index_or m.extents.items (m.frame.extents + slot) no_cells

-- ---- changes

abbrev pub with_stage : Stage → State → State
with_stage s m = record m { stage = s }

abbrev pub with_values : List Item → State → State
with_values vs m = record m { values = record m.values { items = vs } }

abbrev pub with_cells : List Cell → State → State
with_cells cs m = record m { cells = record m.cells { items = cs } }

abbrev pub with_extents : List Extent → State → State
with_extents es m = record m { extents = record m.extents { items = es } }

-- the next instruction is taken
abbrev pub advanced : State → State
advanced m = record m { frame = record m.frame { place = m.frame.place + 1 } }

-- so many instructions are left out
abbrev pub skipped : ℕ → State → State
skipped k m = record m { frame = record m.frame { place = far (m.frame.place + k) } }

-- on to a point
abbrev pub gone_to : ℕ → State → State
gone_to q m = record m {
  stage = stage.Between;
  frame = record m.frame { line = q };
  values = record
      m.values { items = oldest m.frame.floor m.values.items };
}

-- before tests of DOs at a card
abbrev pub put_to_test : ℕ → ℕ → State → State
put_to_test card place m = record m { stage = stage.Testing; frame = record m.frame { card = card; place = place } }

abbrev pub failed : Kind → State → State
failed kind m = record m { stage = stage.Erred kind }

abbrev pub lost : State → State
lost m = record m { stage = stage.Nowhere }
