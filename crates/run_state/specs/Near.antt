-- Extents in numbers that a machine has. A place beyond them is one that no storage has either.
use Rattle.std.specs.Prelude.{ℕ, ◌-◌, ◌^◌, min, List, map}
use Rattle.fort_syntax.specs.declared.name.Name.{Name}
use Rattle.fort_model.specs.Storage as storage
use Rattle.fort_model.specs.Storage.{Environment}
use Rattle.fort_model.specs.Passing as passing
use Rattle.fort_model.specs.Passing.{Taken}
use Rattle.run_state.specs.declared.machine.Extent.{Extent}
use Rattle.run_state.specs.declared.machine.Item.{Item}
use Rattle.run_state.specs.declared.machine.Item.TheVariants.{Cells, Fresh}

-- a place, or the greatest number
abbrev pub far : ℕ → ℕ
far a = min a (2 ^ 64 - 1)

-- the cells of an extent, as the machine names them
abbrev pub shortened : storage.Extent → Extent
shortened e = record { first = far e.first; size = e.size }

-- what was taken, as the machine keeps it
abbrev pub item_of : Taken → Item
item_of (passing.Cells e) = Cells (shortened e)
item_of (passing.Fresh c) = Fresh c

-- the cells of names
abbrev pub segment : Environment → List Name → List Extent
segment env names = map (λ x. shortened (env x)) names
