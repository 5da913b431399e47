-- The code of units that are there, and the cells of slots.
use Rattle.std.proofs.Common.{◌≡◌, ℕ, zero, suc, ◌+◌, ◌<◌, List, [], ◌∷◌, ◌++◌, length, map, Option, Some, None, slice_get, slice_index_or, get_or-append-add, refl, sym, ap, ◌∙◌, subst, arith}
use Rattle.std.specs.Prelude.{get_or}
use Rattle.std.proofs.lemmas.Option.{slice_get_within}
use Rattle.fort_syntax.specs.declared.name.Name.{Name}
use Rattle.fort_syntax.specs.declared.dialect.Dialect.{Dialect}
use Rattle.fort_syntax.specs.declared.unit.Unit.{Unit as Routine}
use Rattle.fort_model.specs.Storage.{Storage}
use Rattle.fort_model.specs.Passing.{Taken}
use Rattle.run_frames.specs.Frames as frames
use Rattle.run_frames.specs.Frames.{Waiting}
use Rattle.run_shapes.specs.Seen.{name_at}
use Rattle.run_shapes.specs.Coded.{slot_names, IsCodeOf, IsUnitCodeOf}
use Rattle.run_shapes.specs.declared.unit_code.Code.{Code}
use Rattle.run_shapes.specs.declared.unit_code.UnitCode.{UnitCode}
use Rattle.run_state.specs.Near.{shortened, segment}
use Rattle.run_state.specs.Deeds.{no_cells, extent_at}
use Rattle.run_state.specs.Shows.{no_unit, unit_code, World, IsWorldOf, segments, ShowsUnit}
use Rattle.run_state.specs.declared.machine.Extent.{Extent}
use Rattle.run_state.specs.declared.machine.Setting.{Setting}
use Rattle.run_state.specs.declared.machine.State.{State}

there : {X : Type 0} (xs : List X) (i : ℕ) (d : X) → i < length xs → slice_get xs i ≡ Some (get_or xs i d)
there [] i d h = absurd (omega arith)
there (x ∷ xs) zero d h = refl
there (x ∷ xs) (suc i) d h = there xs i d (omega arith)

mapped : {X Y : Type 0} (f : X → Y) (xs : List X) (i : ℕ) (d : X) (e : Y) → i < length xs → get_or (map f xs) i e ≡ f (get_or xs i d)
mapped f [] i d e h = absurd (omega arith)
mapped f (x ∷ xs) zero d e h = refl
mapped f (x ∷ xs) (suc i) d e h = mapped f xs i d e (omega arith)

module _ (dialect : Dialect) (units : List Routine) (code : Code) (coded : IsCodeOf dialect units code) (i : ℕ) (u : Routine) (at : slice_get units i ≡ Some u) where
  -- a unit has code
  pub unit_there : slice_get code.units i ≡ Some (unit_code code i)
  unit_there =
      let within : i < length units = slice_get_within units i u at in
      let long : length code.units ≡ length units = coded.long in
      there code.units i no_unit (omega arith)

  pub unit_coded : IsUnitCodeOf units code.commons u (unit_code code i)
  unit_coded = coded.each i u (unit_code code i) at unit_there

module _ (w : World) (code : Code) (setting : Setting) (world : IsWorldOf code setting w) (m : State) (f : frames.Frame) (ws : List Waiting) (xs : List Taken) (st : Storage)
    (shown : ShowsUnit w code m f ws xs st) where
  -- the code of the unit that is shown
  pub coded_shown : IsUnitCodeOf w.units code.commons f.unit (unit_code code m.frame.unit)
  coded_shown = unit_coded code.dialect w.units code world.coded m.frame.unit f.unit shown.frame_is.unit_is

  -- the name of a slot has the cells that it has in the model
  pub slot_shown : (slot : ℕ) → slot < length (unit_code code m.frame.unit).slots.names
      → extent_at m slot ≡ shortened (f.environment (name_at (unit_code code m.frame.unit).slots slot))
  slot_shown slot h =
      let names = slot_names f.unit in
      let before = segments w code ws in
      let own = segment f.environment names in
      let named : (unit_code code m.frame.unit).slots.names ≡ names = coded_shown.slotted.named in
      let within : slot < length names = subst (λ (ns : List Name). slot < length ns) named h in
      ap (λ (es : List Extent). slice_index_or es (m.frame.extents + slot) no_cells) shown.names_are
      ∙ ap (λ k. slice_index_or (before ++ own) (k + slot) no_cells) shown.frame_is.extents_are
      ∙ get_or-append-add before own slot no_cells
      ∙ mapped (λ x. shortened (f.environment x)) names slot [] no_cells within
      ∙ ap (λ (ns : List Name). shortened (f.environment (get_or ns slot []))) (sym named)
