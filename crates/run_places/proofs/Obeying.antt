-- Elements of arrays are taken as the model says.
use Rattle.std.proofs.Common.{◌≡◌, ℕ, zero, suc, ◌+◌, ◌<◌, ◌^◌, List, [], ◌∷◌, length, map, take, drop, Option, Some, None, slice_get, refl, sym, ap, ◌∙◌, subst}
use Rattle.formula.specs.Values.{count}
use Rattle.fort_syntax.specs.declared.condition.Kind.TheVariants.{SubscriptCheck}
use Rattle.fort_model.specs.Cells.{num}
use Rattle.fort_model.specs.Evaluate.{numbers, element}
use Rattle.fort_model.specs.Outcome.{Outcome}
use Rattle.fort_model.specs.Passing.{Taken, Cells}
use Rattle.fort_model.specs.Places.{dim_value, dim_values}
use Rattle.fort_model.specs.Storage.{Storage, Extent, load}
use Rattle.run_code.specs.Code as code_of
use Rattle.run_code.specs.Code.{cells_of, newest, under}
use Rattle.run_moves.specs.Moves.{on, settled}
use Rattle.run_frames.specs.Frames as frames
use Rattle.run_frames.specs.Frames.{Waiting}
use Rattle.run_shapes.specs.Coded.{HasSlot}
use Rattle.run_shapes.specs.Seen.{name_at, dim_of, dims_at, shape_at}
use Rattle.run_shapes.specs.declared.instr.Instr.TheVariants.{Array}
use Rattle.run_shapes.specs.declared.slots.Amount.{Amount}
use Rattle.run_shapes.specs.declared.slots.Amount.TheVariants.{Fixed, Named}
use Rattle.run_shapes.specs.declared.slots.Shape.{Shape}
use Rattle.run_shapes.specs.declared.unit_code.Code.{Code}
use Rattle.run_shapes.specs.declared.unit_code.UnitCode.{UnitCode}
use Rattle.run_state.specs.Near.{far, shortened as machine_extent}
use Rattle.run_state.specs.Deeds.{values_in, newest_in, under_in, extent_at}
use Rattle.run_state.specs.Shows.{unit_code, World, IsWorldOf, ShowsStatement}
use Rattle.run_state.specs.Obeyed.{ShowsMove, Obeys}
use Rattle.run_state.specs.declared.machine.Extent.{Extent as Shortened}
use Rattle.run_state.specs.declared.machine.Item.TheVariants as item
use Rattle.run_state.specs.declared.machine.Setting.{Setting}
use Rattle.run_state.specs.declared.machine.Stage.TheVariants as stage
use Rattle.run_state.specs.declared.machine.State.{State}
use Rattle.run_state.proofs.Arms.{shows_on, shows_error}
use Rattle.run_state.proofs.Items.{newest_kept, under_kept, values_kept}
use Rattle.run_state.proofs.Nearly.{load_far}
use Rattle.run_state.proofs.Slots.{coded_shown, slot_shown}
use Rattle.run_elements.specs.Elements.{IsReady}
use Rattle.run_places.specs.Arrays.{dim_in, dims_in, did_array, first_place, place_by, place_to, subscripts_of, took}
use Rattle.run_places.specs.declared.places.Place.{Place}
use Rattle.run_places.proofs.Exact.{elements, exactly, far_both, kept_short, short, taken_to}

module _ (w : World) (code : Code) (setting : Setting) (world : IsWorldOf code setting w) (m : State) (inside : m.stage ≡ stage.Inside)
    (cells_near : length m.cells.items < 2 ^ 64) (f : frames.Frame) (card : ℕ) (is : List code_of.Instr) (ws : List Waiting) (xs : List Taken) (st : Storage) (s : ShowsStatement w code m f card is ws xs st) where
  abbrev unit : UnitCode
  unit = unit_code code m.frame.unit

  small : length st < 2 ^ 64
  small = subst (λ (cs : Storage). length cs < 2 ^ 64) s.unit_shown.rest.cells_are cells_near

  -- ---- the same numbers

  subscripts_so : (n : ℕ) → subscripts_of m n ≡ numbers (cells_of (newest n xs []))
  subscripts_so n =
      ap (λ vs. numbers (values_in (newest_in n vs []))) s.unit_shown.rest.values_are ∙ ap (λ vs. numbers (values_in vs)) (newest_kept n xs []) ∙ ap numbers (values_kept (newest n xs []))

  dim_so : (a : Amount) → HasSlot (length unit.slots.names) a → count (dim_value f.environment st (dim_of unit.slots a)) ≡ dim_in m a
  dim_so (Fixed n) h = refl
  dim_so (Named slot) h =
      let x = f.environment (name_at unit.slots slot) in
      ap (λ c. count (num c)) (sym
      (ap (λ (cs : Storage). load cs (extent_at m slot).first) s.unit_shown.rest.cells_are
      ∙ ap (λ (e : Shortened). load st e.first) (slot_shown w code setting world m f ws xs st s.unit_shown slot h)
      ∙ load_far st x.first small))

  dims_so : (first rank : ℕ) (bs : List Amount) → ((i : ℕ) (a : Amount) → slice_get bs i ≡ Some a → HasSlot (length unit.slots.names) a)
      → map count (dim_values f.environment st (map (dim_of unit.slots) (take rank (drop first bs)))) ≡ map (dim_in m) (take rank (drop first bs))
  dims_so zero zero bs h = refl
  dims_so zero (suc rank) [] h = refl
  dims_so zero (suc rank) (a ∷ bs) h =
      ap (λ d. d ∷ map count (dim_values f.environment st (map (dim_of unit.slots) (take rank bs)))) (dim_so a (h 0 a refl)) ∙ ap (λ ds. dim_in m a ∷ ds) (dims_so zero rank bs (λ i b e. h (suc i) b e))
  dims_so (suc first) zero [] h = refl
  dims_so (suc first) (suc rank) [] h = refl
  dims_so (suc first) rank (a ∷ bs) h = dims_so first rank bs (λ i b e. h (suc i) b e)

  place_so : (n : ℕ) (shape : Shape)
      → place_by m unit.slots shape n
      ≡ short (exactly (numbers (cells_of (newest n xs []))) (map count (dim_values f.environment st (map (dim_of unit.slots) (take shape.rank (drop shape.first unit.slots.sizes))))) first_place)
  place_so n shape =
      let ds = map count (dim_values f.environment st (map (dim_of unit.slots) (take shape.rank (drop shape.first unit.slots.sizes)))) in
      ap (λ ss. place_to ss (dims_in m unit.slots shape.first shape.rank) first_place) (subscripts_so n)
      ∙ ap (λ ds. place_to (numbers (cells_of (newest n xs []))) ds first_place)
      (sym (dims_so shape.first shape.rank unit.slots.sizes (coded_shown w code setting world m f ws xs st s.unit_shown).fitting.in_sizes))
      ∙ kept_short (numbers (cells_of (newest n xs []))) ds first_place

  -- ---- what is taken

  takes : (n : ℕ) (array : Extent) (o : Option Place)
      → ShowsMove w code (took n (machine_extent array) (short o) m) f card ws (settled (taken_to o array card st) (λ x st. on is (x ∷ under n xs) st))
  takes n array None = shows_error w code m f ws xs st xs st card is inside s SubscriptCheck m.values.items m.cells.items s.unit_shown.rest.cells_are
  takes n array (Some p) =
      shows_on w code m f ws xs st (Cells (record { first = array.first + p.offset; size = 1 }) ∷ under n xs) st card is inside s
      (item.Cells (record { first = far (far array.first + far p.offset); size = 1 }) ∷ under_in n m.values.items)
      m.cells.items
      (ap (λ k. item.Cells (record { first = k; size = 1 }) ∷ under_in n m.values.items) (far_both array.first p.offset)
      ∙ ap (λ vs. item.Cells (record { first = far (array.first + p.offset); size = 1 }) ∷ vs) (ap (under_in n) s.unit_shown.rest.values_are ∙ under_kept n xs))
      s.unit_shown.rest.cells_are

  shows : (slot n : ℕ) → slot < length unit.slots.names
      → ShowsMove w code (did_array unit slot n m) f card ws
      (settled (element f.environment card (f.environment (name_at unit.slots slot)) (dims_at unit.slots slot) (cells_of (newest n xs [])) st 0) (λ x st. on is (x ∷ under n xs) st))
  shows slot n h =
      let array = f.environment (name_at unit.slots slot) in
      let shape = shape_at unit.slots slot in
      let ss = numbers (cells_of (newest n xs [])) in
      let ds = dim_values f.environment st (dims_at unit.slots slot) in
      let move : Outcome Taken → Type 0 = λ o. ShowsMove w code (did_array unit slot n m) f card ws (settled o (λ x st. on is (x ∷ under n xs) st)) in
      subst move (sym (elements ss ds array card st))
      (subst (λ (e : Shortened). ShowsMove w code (took n e (place_by m unit.slots shape n) m) f card ws (settled (taken_to (exactly ss (map count ds) first_place) array card st) (λ x st. on is (x ∷ under n xs) st)))
      (sym (slot_shown w code setting world m f ws xs st s.unit_shown slot h))
      (subst (λ (o : Option Place). ShowsMove w code (took n (machine_extent array) o m) f card ws (settled (taken_to (exactly ss (map count ds) first_place) array card st) (λ x st. on is (x ∷ under n xs) st)))
      (sym (place_so n shape))
      (takes n array (exactly ss (map count ds) first_place))))

pub obeyed : (code : Code) (setting : Setting) (slot n : ℕ) (m : State) → IsReady code (Array slot n) m → Obeys code setting (Array slot n) m (did_array (unit_code code m.frame.unit) slot n m)
obeyed code setting slot n m ready w world f card is ws xs st inside s = shows w code setting world m inside ready.cells_near f card is ws xs st s slot n ready.has_slots
