-- A call shows where it leads.
use Rattle.std.proofs.Common.{◌≡◌, ℕ, zero, suc, ◌+◌, ◌<◌, ◌≤◌, ◌^◌, Bool, true, List, [], ◌∷◌, ◌++◌, length, map, take, Option, Some, None, slice_get, refl, sym, ap, ◌∙◌, subst, arith}
use Rattle.std.specs.Prelude.{get_or}
use Rattle.std.proofs.lemmas.Option.{get_or_from_slice_get}
use Rattle.std.proofs.lemmas.List.{take_all}
use Rattle.fort_syntax.specs.Names.{unit_at, has_common}
use Rattle.fort_syntax.specs.declared.name.Name.{Name}
use Rattle.fort_syntax.specs.declared.unit.Unit.{Unit as Routine}
use Rattle.fort_model.specs.Storage.{Storage, Environment, with_extents}
use Rattle.fort_model.specs.Passing.{Taken, Passed, passed, seats, new_cells}
use Rattle.fort_model.specs.Processor.{Processor}
use Rattle.run_code.specs.Code.{Instr, top, below, newest}
use Rattle.run_moves.specs.Moves.{passed_on, to_call, calling, moved}
use Rattle.run_frames.specs.Frames as frames
use Rattle.run_frames.specs.Frames.{Waiting, scene_at}
use Rattle.run_shapes.specs.Seen.{call_at, refer_by}
use Rattle.run_shapes.specs.Coded.{slot_names}
use Rattle.run_shapes.specs.declared.instr.Instr.TheVariants.{Refer}
use Rattle.run_shapes.specs.declared.unit_code.CallCode.{CallCode}
use Rattle.run_shapes.specs.declared.unit_code.Code.{Code}
use Rattle.run_shapes.specs.declared.unit_code.UnitCode.{UnitCode}
use Rattle.run_state.specs.Near.{shortened, item_of, segment}
use Rattle.run_state.specs.Settings.{copies_by}
use Rattle.run_state.specs.Deeds.{newest_in, lost}
use Rattle.run_state.specs.Shows.{unit_code, World, IsWorldOf, IsFitCall, ShowsStatement, ShowsUnit, segments}
use Rattle.run_state.specs.Obeyed.{ShowsMove, Obeys}
use Rattle.run_state.specs.declared.machine.Setting.{Setting}
use Rattle.run_state.specs.declared.machine.State.{State}
use Rattle.run_state.proofs.Items.{newest_kept}
use Rattle.run_state.proofs.Slots.{unit_there, coded_shown}
use Rattle.run_calls.specs.Calls.{put_off, called, called_at, called_of, referred}
use Rattle.run_calls.proofs.Closed.{laid, seats_in, news_in, handed_closed}
use Rattle.run_calls.proofs.Given.{each_given, not_given, map_twice}
use Rattle.run_calls.proofs.Passes.{seats_kept, seats_long, news_kept}

newest_long : (n : ℕ) (xs acc : List Taken) → length (newest n xs acc) ≡ n + length acc
newest_long zero xs acc = let same : length acc ≡ 0 + length acc = omega arith in same
newest_long (suc n) xs acc = newest_long n (below xs) (top xs ∷ acc) ∙ (let same : n + suc (length acc) ≡ suc n + length acc = omega arith in same)

none_is : {X : Type 0} (xs : List X) (i : ℕ) (d : X) → slice_get xs i ≡ None → get_or xs i d ≡ d
none_is [] i d e = refl
none_is (x ∷ xs) zero d e = absurd (cc)
none_is (x ∷ xs) (suc i) d e = none_is xs i d e

past : {X : Type 0} (xs : List X) (i : ℕ) → slice_get xs i ≡ None → length xs ≤ i
past [] i e = omega arith
past (x ∷ xs) zero e = absurd (cc)
past (x ∷ xs) (suc i) e = let h : length xs ≤ i = past xs i e in omega arith

gone : {X : Type 0} (xs : List X) (i : ℕ) → length xs ≤ i → slice_get xs i ≡ None
gone [] i h = refl
gone (x ∷ xs) zero h = absurd (omega arith)
gone (x ∷ xs) (suc i) h = gone xs i (omega arith)

module _ (w : World) (code : Code) (setting : Setting) (world : IsWorldOf code setting w) (m : State) (f : frames.Frame) (card : ℕ) (is : List Instr) (ws : List Waiting) (xs : List Taken)
    (st : Storage) (s : ShowsStatement w code m f card is ws xs st) (small : length m.cells.items < 2 ^ 64) where
  u : ShowsUnit w code m f ws xs st
  u = s.unit_shown

  -- which actuals are copied
  pub copies_shown : (k : ℕ) → w.processor.copies f.unit.name k ≡ copies_by setting.passing (unit_code code m.frame.unit).name k
  unfolding u
  copies_shown k =
      ap (λ (p : Processor). p.copies f.unit.name k) world.run_by ∙ ap (λ (x : Name). copies_by setting.passing x k) (sym (coded_shown w code setting world m f ws xs st u).called)

  module _ (k n v : ℕ) (g : Routine) (at : slice_get w.units v ≡ Some g) (counted : n ≡ length g.dummies) (handed_on : (x : Name) → has_common g x ≡ true → has_common f.unit x ≡ true) where
    copies : ℕ → Bool
    copies = copies_by setting.passing (unit_code code m.frame.unit).name k

    given : List Passed
    given = passed_on (scene_at w.processor w.units f) k n xs

    given_is : given ≡ passed copies 1 (newest n xs [])
    unfolding given copies
    given_is = ap (λ c. passed c 1 (newest n xs [])) (copies_shown k)

    items_are : newest_in n m.values.items [] ≡ map item_of (newest n xs [])
    items_are = ap (λ vs. newest_in n vs []) s.unit_shown.rest.values_are ∙ newest_kept n xs []

    cells_length : length m.cells.items ≡ length st
    cells_length = ap length s.unit_shown.rest.cells_are

    seats_are : seats_in copies 1 (newest_in n m.values.items []) (length m.cells.items) ≡ map shortened (seats given (length st))
    seats_are =
        ap (λ items. seats_in copies 1 items (length m.cells.items)) items_are ∙ ap (seats_in copies 1 (map item_of (newest n xs []))) cells_length
        ∙ seats_kept copies 1 (newest n xs []) (length st) ∙ ap (λ ps. map shortened (seats ps (length st))) (sym given_is)

    news_are : news_in copies 1 (newest_in n m.values.items []) (take (length m.cells.items) m.cells.items) ≡ new_cells st given
    news_are =
        let tiny : length st < 2 ^ 64 = subst (λ k. k < 2 ^ 64) cells_length small in
        ap (λ items. news_in copies 1 items (take (length m.cells.items) m.cells.items)) items_are
        ∙ ap (news_in copies 1 (map item_of (newest n xs []))) (take_all (length m.cells.items) m.cells.items (omega arith) ∙ s.unit_shown.rest.cells_are)
        ∙ news_kept copies 1 (newest n xs []) st tiny ∙ ap (new_cells st) (sym given_is)

    env : Environment
    env = with_extents g.dummies (seats given (length st)) f.environment

    dummies_are : segment env g.dummies ≡ map shortened (seats given (length st))
    unfolding env
    dummies_are =
        let long : length (seats given (length st)) ≡ length g.dummies
        = ap (λ ps. length (seats ps (length st))) given_is ∙ seats_long copies 1 (newest n xs []) (length st) ∙ newest_long n xs []
        ∙ (let same : n + 0 ≡ length g.dummies = omega arith in same) in
        map_twice shortened env g.dummies ∙ ap (map shortened) (each_given g.dummies (seats given (length st)) f.environment (world.apart v g at).dummies_once long)

    handed_over : State
    handed_over = laid (m.extents.items ++ seats_in copies 1 (newest_in n m.values.items []) (length m.cells.items))
        (m.cells.items ++ news_in copies 1 (newest_in n m.values.items []) (take (length m.cells.items) m.cells.items))
        m

    put_shown : ShowsMove w code (put_off k n v m handed_over) f card ws (to_call k g n is xs st)
    unfolding handed_over env given
    put_shown = (
      refl,
      record {
        unit_is = at;
        extents_are = ap length s.unit_shown.names_are;
        names_are =
            ap (λ es. es ++ seats_in copies 1 (newest_in n m.values.items []) (length m.cells.items)) s.unit_shown.names_are
            ∙ ap (λ es. (segments w code ws ++ segment f.environment (slot_names f.unit)) ++ es) (seats_are ∙ sym dummies_are);
        commons_are = λ x h. not_given g.dummies (seats given (length st)) f.environment x ((world.apart v g at).commons_apart x h).0 ∙ s.unit_shown.frame_is.commons_are x (handed_on x h);
        rest = record {
          callers_are = (
            record {
              frame_is = record {
                unit_is = s.unit_shown.frame_is.unit_is;
                before_is = s.unit_shown.frame_is.before_is;
                floor_is = s.unit_shown.frame_is.floor_is;
                extents_are = s.unit_shown.frame_is.extents_are;
                commons_are = s.unit_shown.frame_is.commons_are;
              };
              card_is = s.card_is;
              code_is = s.code_is;
              number_is = refl;
              actuals_are = refl;
              base_is = cells_length;
            },
            s.unit_shown.rest.callers_are,
          );
          values_are = s.unit_shown.rest.values_are;
          cells_are = ap (λ cs. cs ++ news_in copies 1 (newest_in n m.values.items []) (take (length m.cells.items) m.cells.items)) s.unit_shown.rest.cells_are ∙ ap (λ cs. st ++ cs) news_are;
        };
      },
    )

    pub call_shown : ShowsMove w code (called (copies_by setting.passing (unit_code code m.frame.unit).name k) k n v m) f card ws (to_call k g n is xs st)
    unfolding handed_over copies
    call_shown =
        subst (λ h. ShowsMove w code (put_off k n v m h) f card ws (to_call k g n is xs st))
        (sym (handed_closed (copies_by setting.passing (unit_code code m.frame.unit).name k) 1 (length m.cells.items) (newest_in n m.values.items []) m (omega arith))) put_shown

  unit : UnitCode
  unit = unit_code code m.frame.unit

  by_unit : (place v : ℕ) (call : CallCode) → slice_get (unit_code code m.frame.unit).calls place ≡ Some call → call.callee ≡ Some v → (o : Option Routine) → slice_get w.units v ≡ o
      → ShowsMove w code (called_at setting (unit_code code m.frame.unit) call v (slice_get code.units v) m) f card ws (calling call.number o call.actuals is xs st)
  by_unit place v call e c None at =
      let long : length code.units ≡ length w.units = world.coded.long in
      let beyond : length w.units ≤ v = past w.units v at in
      subst (λ o. ShowsMove w code (called_at setting (unit_code code m.frame.unit) call v o m) f card ws (calling call.number None call.actuals is xs st)) (sym (gone code.units v (omega arith)))
      (refl, s.unit_shown.rest.cells_are)
  by_unit place v call e c (Some g) at =
      let fit : IsFitCall f.unit g call
      = world.fit_calls m.frame.unit v place f.unit g call s.unit_shown.frame_is.unit_is at
      (ap (λ calls. slice_get calls place) (sym (coded_shown w code setting world m f ws xs st s.unit_shown).calls_told) ∙ e) c in
      subst (λ o. ShowsMove w code (called_at setting (unit_code code m.frame.unit) call v o m) f card ws (calling call.number (Some g) call.actuals is xs st))
      (sym (unit_there code.dialect w.units code world.coded v g at)) (call_shown call.number call.actuals v g at fit.counted fit.handed_on)

  by_callee : (place : ℕ) (call : CallCode) → slice_get (unit_code code m.frame.unit).calls place ≡ Some call → (c : Option ℕ) → call.callee ≡ c
      → ShowsMove w code (called_of code setting (unit_code code m.frame.unit) call c m) f card ws (calling call.number (unit_at w.units c) call.actuals is xs st)
  by_callee place call e None c = (refl, s.unit_shown.rest.cells_are)
  by_callee place call e (Some v) c = by_unit place v call e c (slice_get w.units v) refl

  by_entry : (place : ℕ) (o : Option CallCode) → slice_get (unit_code code m.frame.unit).calls place ≡ o
      → ShowsMove w code (referred code setting (unit_code code m.frame.unit) o m) f card ws
      (moved (scene_at w.processor w.units f) card (refer_by (call_at (unit_code code m.frame.unit).calls place)) is xs st)
  by_entry place None e =
      subst (λ c. ShowsMove w code (lost m) f card ws (moved (scene_at w.processor w.units f) card (refer_by c) is xs st))
      (sym (none_is (unit_code code m.frame.unit).calls place (record { number = 0; callee = None; actuals = 0 }) e)) (refl, s.unit_shown.rest.cells_are)
  by_entry place (Some call) e =
      subst
      (λ c. ShowsMove w code (called_of code setting (unit_code code m.frame.unit) call call.callee m) f card ws (moved (scene_at w.processor w.units f) card (refer_by c) is xs st))
      (sym (get_or_from_slice_get (unit_code code m.frame.unit).calls place call (record { number = 0; callee = None; actuals = 0 }) e)) (by_callee place call e call.callee refl)

-- the instruction of a call is obeyed
pub obeys_refer : (code : Code) (setting : Setting) (place : ℕ) (m : State) → length m.cells.items < 2 ^ 64
    → Obeys code setting (Refer place) m (referred code setting (unit_code code m.frame.unit) (slice_get (unit_code code m.frame.unit).calls place) m)
obeys_refer code setting place m small w world f card is ws xs st e s =
    by_entry w code setting world m f card is ws xs st s small place (slice_get (unit_code code m.frame.unit).calls place) refl
