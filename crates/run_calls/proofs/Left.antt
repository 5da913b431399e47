-- A unit that is left shows where its caller goes on.
use Rattle.std.proofs.Common.{◌≡◌, ℕ, zero, suc, ◌<◌, ◌≤◌, ◌^◌, Bool, true, false, cond, List, [], ◌∷◌, length, map, take, Option, Some, None, slice_get, slice_index_or, refl, sym, ap, ◌∙◌, subst, arith}
use Rattle.std.proofs.lemmas.List.{take-append-le, take_all}
use Rattle.std.proofs.lemmas.Option.{slice_get_within, get_or_from_slice_get}
use Rattle.formula.specs.declared.value.Cell.TheVariants.{Undefined}
use Rattle.fort_syntax.specs.Names.{is_function}
use Rattle.fort_syntax.specs.declared.name.Name.{Name}
use Rattle.fort_syntax.specs.declared.unit.Line.{Line}
use Rattle.fort_model.specs.Storage.{Storage, load}
use Rattle.fort_model.specs.Passing.{Taken, written_back}
use Rattle.fort_model.specs.Processor.{Processor}
use Rattle.fort_model.specs.Run.{own_value}
use Rattle.run_code.specs.Code.{newest}
use Rattle.run_moves.specs.Moves.{passed_on}
use Rattle.run_frames.specs.Frames as frames
use Rattle.run_frames.specs.Frames.{Waiting, lowest, scene_at}
use Rattle.run_frames.specs.Configs.{Config, between, ended, inside, left_at}
use Rattle.run_frames.specs.Configs as configs
use Rattle.run_rooms.specs.Roomy.{oldest}
use Rattle.run_shapes.specs.Coded.{slot_names, IsUnitCodeOf}
use Rattle.run_shapes.specs.Seen.{name_at}
use Rattle.run_shapes.specs.declared.unit_code.Code.{Code}
use Rattle.run_shapes.specs.declared.unit_code.UnitCode.{UnitCode}
use Rattle.run_state.specs.Near.{far, item_of, segment}
use Rattle.run_state.specs.Settings.{copies_by}
use Rattle.run_state.specs.Deeds.{extent_at, newest_in, under_in}
use Rattle.run_state.specs.Shows.{unit_code, World, IsWorldOf, Shows, ShowsCallers, ShowsUnit, segments}
use Rattle.run_state.specs.Rests.{GoesSame, Same}
use Rattle.run_state.specs.declared.machine.Frame.{Frame}
use Rattle.run_state.specs.declared.machine.Item.TheVariants as item
use Rattle.run_state.specs.declared.machine.Setting.{Setting}
use Rattle.run_state.specs.declared.machine.Stage.TheVariants as stage
use Rattle.run_state.specs.declared.machine.State.{State}
use Rattle.run_state.proofs.Nearly.{far_near, load_far}
use Rattle.run_state.proofs.Items.{lowest_kept, newest_kept, under_kept}
use Rattle.run_state.proofs.Slots.{unit_there, unit_coded, coded_shown, slot_shown}
use Rattle.run_state.proofs.Glue.{works_so}
use Rattle.run_state.proofs.Stages.{when_between}
use Rattle.run_calls.specs.Calls.{value_at, cleared, popped, back_in, copies_in, returned, left_by, left}
use Rattle.run_calls.specs.Laws.{IsNear}
use Rattle.run_calls.proofs.Closed.{backs_in, back_closed}
use Rattle.run_calls.proofs.Passes.{backs_kept}

take_less : (n : ℕ) (st : Storage) → length (take n st) ≤ length st
take_less zero st = omega arith
take_less (suc n) [] = omega arith
take_less (suc n) (c ∷ st) = let h : length (take n st) ≤ length st = take_less n st in omega arith

get_of : (xs : List Name) (i : ℕ) (x : Name) → slice_get xs i ≡ Some x → (i < length xs) × (slice_index_or xs i [] ≡ x)
get_of xs i x e = (slice_get_within xs i x e, get_or_from_slice_get xs i x [] e)

module _ (w : World) (code : Code) (setting : Setting) (world : IsWorldOf code setting w) (m : State) (f : frames.Frame) (ws : List Waiting) (xs : List Taken) (st : Storage)
    (u : ShowsUnit w code m f ws xs st) (small : length m.cells.items < 2 ^ 64) where
  by_kind : (b : Bool) → is_function f.unit ≡ b
      → cond b (load m.cells.items (extent_at m (unit_code code m.frame.unit).value).first) Undefined ≡ cond b (load st (f.environment f.unit.name).first) Undefined
  by_kind false e = refl
  by_kind true e =
      let unit = unit_code code m.frame.unit in
      let at = get_of unit.slots.names unit.value f.unit.name ((coded_shown w code setting world m f ws xs st u).result e) in
      ap (λ e. load m.cells.items e.first) (slot_shown w code setting world m f ws xs st u unit.value at.0)
      ∙ load_far m.cells.items (f.environment (name_at unit.slots unit.value)).first small ∙ ap (λ x. load m.cells.items (f.environment x).first) at.1
      ∙ ap (λ cs. load cs (f.environment f.unit.name).first) u.rest.cells_are

  -- the value of the unit
  pub value_shown : value_at (unit_code code m.frame.unit) m ≡ own_value f.unit f.environment st
  value_shown =
      ap (λ b. cond b (load m.cells.items (extent_at m (unit_code code m.frame.unit).value).first) Undefined) (coded_shown w code setting world m f ws xs st u).kind
      ∙ by_kind (is_function f.unit) refl

  cells_kept : take m.frame.before m.cells.items ≡ take f.before st
  cells_kept = ap (λ k. take k m.cells.items) u.frame_is.before_is ∙ ap (take f.before) u.rest.cells_are

  values_kept : oldest m.frame.floor m.values.items ≡ map item_of (lowest f.floor xs)
  values_kept = ap (λ k. oldest k m.values.items) u.frame_is.floor_is ∙ ap (oldest f.floor) u.rest.values_are ∙ lowest_kept f.floor xs

  extents_kept : take m.frame.extents m.extents.items ≡ segments w code ws
  extents_kept =
      let before = segments w code ws in
      let own = segment f.environment (slot_names f.unit) in
      ap (λ k. take k m.extents.items) u.frame_is.extents_are ∙ ap (take (length before)) u.names_are ∙ take-append-le (length before) before own (omega arith) ∙ take_all (length before) before (omega arith)

  module _ (n : Frame) (ns : List Frame) (x : Waiting) (rest : List Waiting) (waits : ws ≡ x ∷ rest) (shown : ShowsCallers w code (n ∷ ns) (x ∷ rest)) (near : n.base < 2 ^ 64) where
    caller : UnitCode
    caller = unit_code code n.unit

    coded : IsUnitCodeOf w.units code.commons x.frame.unit (unit_code code n.unit)
    coded = unit_coded code.dialect w.units code world.coded n.unit x.frame.unit shown.0.frame_is.unit_is

    copies_are : copies_in setting (unit_code code n.unit) n.number ≡ w.processor.copies x.frame.unit.name x.number
    unfolding coded
    copies_are =
        ap (copies_in setting (unit_code code n.unit)) shown.0.number_is ∙ ap (λ (y : Name). copies_by setting.passing y x.number) coded.called
        ∙ sym (ap (λ (p : Processor). p.copies x.frame.unit.name x.number) world.run_by)

    items_are : newest_in n.actuals (oldest m.frame.floor m.values.items) [] ≡ map item_of (newest x.actuals (lowest f.floor xs) [])
    unfolding values_kept
    items_are =
        ap (λ k. newest_in k (oldest m.frame.floor m.values.items) []) shown.0.actuals_are
        ∙ ap (λ vs. newest_in x.actuals vs []) values_kept ∙ newest_kept x.actuals (lowest f.floor xs) []

    back_are : backs_in (copies_in setting (unit_code code n.unit) n.number) 1 n.base (newest_in n.actuals (oldest m.frame.floor m.values.items) []) (take m.frame.before m.cells.items)
        ≡ written_back (passed_on (scene_at w.processor w.units x.frame) x.number x.actuals (lowest f.floor xs)) x.base (take f.before st)
    unfolding cells_kept
    back_are =
        let items = map item_of (newest x.actuals (lowest f.floor xs) []) in
        let copies = w.processor.copies x.frame.unit.name x.number in
        let less : length (take f.before st) ≤ length st = take_less f.before st in
        let same : length m.cells.items ≡ length st = ap length u.rest.cells_are in
        ap (λ c. backs_in c 1 n.base (newest_in n.actuals (oldest m.frame.floor m.values.items) []) (take m.frame.before m.cells.items)) copies_are
        ∙ ap (λ vs. backs_in copies 1 n.base vs (take m.frame.before m.cells.items)) items_are ∙ ap (backs_in copies 1 n.base items) cells_kept
        ∙ ap (λ k. backs_in copies 1 k items (take f.before st)) (sym (far_near n.base near) ∙ ap far shown.0.base_is)
        ∙ backs_kept copies 1 (newest x.actuals (lowest f.floor xs) []) x.base (take f.before st) (omega arith)

    back_shown : Shows w code (back_in n (value_at (unit_code code m.frame.unit) m) (record (popped ns (cleared m)) {
      cells = record m.cells { items = backs_in (copies_in setting (unit_code code n.unit) n.number) 1 n.base (newest_in n.actuals (oldest m.frame.floor m.values.items) []) (take m.frame.before m.cells.items) };
    }))
        (configs.left w.processor w.units f (x ∷ rest) xs st).0 (configs.left w.processor w.units f (x ∷ rest) xs st).1
    unfolding back_are values_kept extents_kept value_shown
    back_shown = (
      refl,
      record {
        card_is = shown.0.card_is;
        code_is = shown.0.code_is;
        unit_shown = record {
          frame_is = record {
            unit_is = shown.0.frame_is.unit_is;
            before_is = shown.0.frame_is.before_is;
            floor_is = shown.0.frame_is.floor_is;
            extents_are = shown.0.frame_is.extents_are;
            commons_are = shown.0.frame_is.commons_are;
          };
          names_are = extents_kept ∙ ap (segments w code) waits;
          rest = record {
            callers_are = shown.1;
            values_are =
                ap (λ v. item.Fresh v ∷ under_in n.actuals (oldest m.frame.floor m.values.items)) value_shown
                ∙ ap (λ vs. item.Fresh (own_value f.unit f.environment st) ∷ vs)
                (ap (λ k. under_in k (oldest m.frame.floor m.values.items)) shown.0.actuals_are ∙ ap (under_in x.actuals) values_kept ∙ under_kept x.actuals (lowest f.floor xs));
            cells_are = ap (λ k. take k (backs_in (copies_in setting (unit_code code n.unit) n.number) 1 n.base (newest_in n.actuals (oldest m.frame.floor m.values.items) []) (take m.frame.before m.cells.items))) shown.0.base_is ∙ ap (take x.base) back_are;
          };
        };
      },
    )

    pub returned_shown : Shows w code (returned setting (slice_get code.units n.unit) n (value_at (unit_code code m.frame.unit) m) (popped ns (cleared m)))
        (configs.left w.processor w.units f (x ∷ rest) xs st).0 (configs.left w.processor w.units f (x ∷ rest) xs st).1
    unfolding back_shown
    returned_shown =
        subst (λ o. Shows w code (returned setting o n (value_at (unit_code code m.frame.unit) m) (popped ns (cleared m))) (configs.left w.processor w.units f (x ∷ rest) xs st).0 (configs.left w.processor w.units f (x ∷ rest) xs st).1)
        (sym (unit_there code.dialect w.units code world.coded n.unit x.frame.unit shown.0.frame_is.unit_is))
        (subst (λ s. Shows w code (back_in n (value_at (unit_code code m.frame.unit) m) s) (configs.left w.processor w.units f (x ∷ rest) xs st).0 (configs.left w.processor w.units f (x ∷ rest) xs st).1)
        (sym (back_closed (copies_in setting (unit_code code n.unit) n.number) 1 n.base (newest_in n.actuals (oldest m.frame.floor m.values.items) []) (popped ns (cleared m)))) back_shown)

past : {X : Type 0} (xs : List X) (i : ℕ) → slice_get xs i ≡ None → length xs ≤ i
past [] i e = omega arith
past (x ∷ xs) zero e = absurd (cc)
past (x ∷ xs) (suc i) e = let h : length xs ≤ i = past xs i e in omega arith

gone : {X : Type 0} (xs : List X) (i : ℕ) → length xs ≤ i → slice_get xs i ≡ None
gone [] i h = refl
gone (x ∷ xs) zero h = absurd (omega arith)
gone (x ∷ xs) (suc i) h = gone xs i (omega arith)

module _ (code : Code) (setting : Setting) (m : State) (small : length m.cells.items < 2 ^ 64) (near : IsNear m.callers.items) where
  by_callers : (w : World) (world : IsWorldOf code setting w) (f : frames.Frame) (ws : List Waiting) (xs : List Taken) (st : Storage) (u : ShowsUnit w code m f ws xs st) (fs : List Frame) (rest : List Waiting)
      → ws ≡ rest → ShowsCallers w code fs rest → IsNear fs
      → Shows w code (left_by code setting fs (value_at (unit_code code m.frame.unit) m) (cleared m)) (configs.left w.processor w.units f rest xs st).0 (configs.left w.processor w.units f rest xs st).1
  unfolding value_shown cells_kept
  by_callers w world f ws xs st u [] [] e shown base =
      (ap stage.Ended (value_shown w code setting world m f ws xs st u small), cells_kept w code setting world m f ws xs st u small)
  by_callers w world f ws xs st u [] (x ∷ rest) e shown base = absurd shown
  by_callers w world f ws xs st u (n ∷ ns) [] e shown base = absurd shown
  by_callers w world f ws xs st u (n ∷ ns) (x ∷ rest) e shown base = returned_shown w code setting world m f ws xs st u small n ns x rest e shown base

  -- a unit is left at its end
  pub leaves : m.stage ≡ stage.Between → slice_get (unit_code code m.frame.unit).lines m.frame.line ≡ None → Same code setting m (left code setting (unit_code code m.frame.unit) m)
  leaves e none w world = when_between code w m (λ c st. GoesSame w code c st (left code setting (unit_code code m.frame.unit) m)) e at_end
    where
      at_end : (f : frames.Frame) (q : ℕ) (ws : List Waiting) (xs : List Taken) (st : Storage) → m.frame.line ≡ q → ShowsUnit w code m f ws xs st
          → GoesSame w code (between f q ws xs) st (left code setting (unit_code code m.frame.unit) m)
      at_end f q ws xs st at u =
          let long : length (unit_code code m.frame.unit).lines ≡ length f.unit.lines = (coded_shown w code setting world m f ws xs st u).long in
          let beyond : length (unit_code code m.frame.unit).lines ≤ m.frame.line = past (unit_code code m.frame.unit).lines m.frame.line none in
          let no_line : slice_get f.unit.lines q ≡ None = gone f.unit.lines q (omega arith) in
          works_so w code (between f q ws xs) st (left code setting (unit_code code m.frame.unit) m)
          (subst (λ (o : Option Line). Shows w code (left code setting (unit_code code m.frame.unit) m) (left_at w.processor w.units o f q ws xs st).0 (left_at w.processor w.units o f q ws xs st).1) (sym no_line)
          (by_callers w world f ws xs st u m.callers.items ws refl u.rest.callers_are near))
