-- The values and cells that a state of a unit shows.
use Rattle.std.proofs.Common.{◌≡◌, ℕ, ◌<◌, ◌^◌, List, length, map, ap, ◌∙◌, subst}
use Rattle.formula.specs.declared.value.Cell.{Cell}
use Rattle.fort_model.specs.Processor.{Processor}
use Rattle.fort_model.specs.Storage.{Storage, load, store}
use Rattle.fort_model.specs.Passing.{Taken}
use Rattle.run_code.specs.Code.{below, first_of, second_of, third_of}
use Rattle.run_frames.specs.Frames as frames
use Rattle.run_frames.specs.Frames.{Waiting}
use Rattle.run_held.specs.Sums.{Manner, processor_of}
use Rattle.run_rooms.specs.Roomy.{behind}
use Rattle.run_shapes.specs.Seen.{name_at}
use Rattle.run_shapes.specs.declared.unit_code.Code.{Code}
use Rattle.run_state.specs.Near.{item_of, shortened}
use Rattle.run_state.specs.Settings.{copies_by}
use Rattle.run_state.specs.Deeds.{value_in, first_in, under_in, extent_at}
use Rattle.run_state.specs.Shows.{unit_code, World, IsWorldOf, ShowsUnit}
use Rattle.run_state.specs.declared.machine.Extent.{Extent}
use Rattle.run_state.specs.declared.machine.Setting.{Setting}
use Rattle.run_state.specs.declared.machine.State.{State}
use Rattle.run_state.proofs.Items.{below_kept, first_kept, second_kept, third_kept, under_kept}
use Rattle.run_state.proofs.Nearly.{load_far, store_far}
use Rattle.run_state.proofs.Slots.{slot_shown}
use Rattle.run_elements.specs.Elements.{read_to, value_below}
use Rattle.run_elements.proofs.Obeying.{reads_far}

-- how the processor of a setting runs a deck
abbrev pub manner_of : Code → Setting → Manner
manner_of code setting = record { dialect = code.dialect; lazy = setting.lazy; copies = copies_by setting.passing }

module _ (w : World) (code : Code) (setting : Setting) (world : IsWorldOf code setting w) where
  pub by_processor : {A : Type 0} (part : Processor → A) → part w.processor ≡ part (processor_of setting.bounds (manner_of code setting))
  by_processor part = ap part world.run_by

  pub dialect_so : w.processor.dialect ≡ code.dialect
  dialect_so = by_processor (λ p. p.dialect)

  module _ (m : State) (cells_near : length m.cells.items < 2 ^ 64) (f : frames.Frame) (ws : List Waiting) (xs : List Taken) (st : Storage) (u : ShowsUnit w code m f ws xs st) where
    small : length st < 2 ^ 64
    small = subst (λ (cs : Storage). length cs < 2 ^ 64) u.rest.cells_are cells_near

    pub first_so : value_below 0 m ≡ first_of xs
    first_so = ap (λ vs. value_in (first_in vs)) u.rest.values_are ∙ first_kept xs

    pub second_so : value_below 1 m ≡ second_of xs
    second_so = ap (λ vs. value_in (first_in (behind vs))) u.rest.values_are ∙ second_kept xs

    pub third_so : value_below 2 m ≡ third_of xs
    third_so = ap (λ vs. value_in (first_in (behind (behind vs)))) u.rest.values_are ∙ third_kept xs

    -- without the newest
    pub one_less : under_in 1 m.values.items ≡ map item_of (below xs)
    one_less = ap (under_in 1) u.rest.values_are ∙ below_kept xs

    pub three_less : under_in 3 m.values.items ≡ map item_of (below (below (below xs)))
    three_less = ap (under_in 3) u.rest.values_are ∙ under_kept 3 xs

    -- the first cell of the name of a slot
    module _ (slot : ℕ) (there : slot < length (unit_code code m.frame.unit).slots.names) where
      place_so : extent_at m slot ≡ shortened (f.environment (name_at (unit_code code m.frame.unit).slots slot))
      place_so = slot_shown w code setting world m f ws xs st u slot there

      pub read_so : read_to m.cells.items (extent_at m slot).first ≡ read_to st (f.environment (name_at (unit_code code m.frame.unit).slots slot)).first
      read_so =
          ap (λ (cs : Storage). read_to cs (extent_at m slot).first) u.rest.cells_are ∙ ap (λ (e : Extent). read_to st e.first) place_so
          ∙ reads_far st (f.environment (name_at (unit_code code m.frame.unit).slots slot)).first small

      pub load_so : load m.cells.items (extent_at m slot).first ≡ load st (f.environment (name_at (unit_code code m.frame.unit).slots slot)).first
      load_so =
          ap (λ (cs : Storage). load cs (extent_at m slot).first) u.rest.cells_are ∙ ap (λ (e : Extent). load st e.first) place_so
          ∙ load_far st (f.environment (name_at (unit_code code m.frame.unit).slots slot)).first small

      pub store_so : (c : Cell) → store m.cells.items (extent_at m slot).first c ≡ store st (f.environment (name_at (unit_code code m.frame.unit).slots slot)).first c
      store_so c =
          ap (λ (cs : Storage). store cs (extent_at m slot).first c) u.rest.cells_are ∙ ap (λ (e : Extent). store st e.first c) place_so
          ∙ store_far st (f.environment (name_at (unit_code code m.frame.unit).slots slot)).first c small
