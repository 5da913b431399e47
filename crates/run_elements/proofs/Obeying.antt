-- Instructions of expressions do what the model says.
use Rattle.std.proofs.Common.{◌≡◌, ℕ, ◌<◌, ◌^◌, Bool, true, false, cond, not, ◌&&◌, ◌||◌, List, [], ◌∷◌, length, drop, map, refl, sym, ap, ◌∙◌, subst}
use Rattle.std.specs.Prelude.{pos, neg_ℤ, Result, Ok, Err}
use Rattle.formula.specs.declared.value.Cell.{Cell}
use Rattle.formula.specs.declared.value.Cell.TheVariants.{Int, Logical}
use Rattle.fort_syntax.specs.declared.condition.Kind.{Kind}
use Rattle.fort_syntax.specs.declared.condition.Kind.TheVariants.{DefinedCheck}
use Rattle.fort_model.specs.Cells.{num, holds, is_defined, compares}
use Rattle.fort_model.specs.Evaluate as model
use Rattle.fort_model.specs.Perform.{assign}
use Rattle.fort_model.specs.Outcome.{Outcome, ◌>>◌, check, give}
use Rattle.fort_model.specs.Processor.{Processor}
use Rattle.fort_model.specs.Storage.{Storage, load, store}
use Rattle.fort_model.specs.Passing.{Taken, Cells, Fresh}
use Rattle.run_code.specs.Code as code_of
use Rattle.run_code.specs.Code.{top, below, cells_of, first_of, second_of, newest, under}
use Rattle.run_moves.specs.Moves.{on, settled, moved}
use Rattle.run_frames.specs.Frames as frames
use Rattle.run_frames.specs.Frames.{Waiting, scene_at}
use Rattle.run_held.specs.Sums.{Manner, processor_of, came_to, constant_to, ranged_to, operated_to, power_to}
use Rattle.run_held.proofs.Exact.{sums_are_exact}
use Rattle.run_intrinsics.specs.Intrinsics.{intrinsic_to}
use Rattle.run_intrinsics.proofs.Reckoned as intrinsics
use Rattle.run_rooms.specs.Roomy.{behind}
use Rattle.run_shapes.specs.Seen.{intrinsic_of, name_at, seen_in}
use Rattle.run_shapes.specs.declared.instr.Instr.{Instr}
use Rattle.run_shapes.specs.declared.instr.Instr.TheVariants as instr
use Rattle.run_shapes.specs.Coded.{InstrHasSlots}
use Rattle.run_shapes.specs.declared.unit_code.Code.{Code}
use Rattle.run_state.specs.Near.{far, shortened, item_of}
use Rattle.run_state.specs.Settings.{copies_by}
use Rattle.run_state.specs.Deeds.{value_in, values_in, first_in, newest_in, under_in, extent_at}
use Rattle.run_state.specs.Shows.{unit_code, World, IsWorldOf, ShowsStatement}
use Rattle.run_state.specs.Obeyed.{ShowsMove, Obeys}
use Rattle.run_state.specs.declared.machine.Extent.{Extent}
use Rattle.run_state.specs.declared.machine.Item.{Item}
use Rattle.run_state.specs.declared.machine.Item.TheVariants as item
use Rattle.run_state.specs.declared.machine.Setting.{Setting}
use Rattle.run_state.specs.declared.machine.Stage.TheVariants as stage
use Rattle.run_state.specs.declared.machine.State.{State}
use Rattle.run_state.proofs.Arms.{shows_on, shows_skip, shows_error, shows_nothing}
use Rattle.run_state.proofs.Items.{top_kept, below_kept, first_kept, second_kept, newest_kept, under_kept, values_kept}
use Rattle.run_state.proofs.Nearly.{load_far, store_far}
use Rattle.run_state.proofs.Slots.{slot_shown}
use Rattle.run_elements.specs.Elements.{read_to, value_to, value_below, answered, decided, assigned_to, did, is_element, IsReady}

-- a check before a value
pub checked : (kind : Kind) (card : ℕ) (t : Bool) (c : Cell) (st : Storage) → (check kind card t >> give c) st 0 ≡ came_to (cond t (Ok c) (Err kind)) card st
checked kind card true c st = refl
checked kind card false c st = refl

pub reads : (card i : ℕ) (st : Storage) → model.read card i st 0 ≡ came_to (read_to st i) card st
reads card i st = checked DefinedCheck card (is_defined (load st i)) (load st i) st

-- a place that is near or far
pub reads_far : (st : Storage) (a : ℕ) → length st < 2 ^ 64 → read_to st (far a) ≡ read_to st a
reads_far st a small = ap (λ c. cond (is_defined c) (Ok c) (Err DefinedCheck)) (load_far st a small)

values : (card : ℕ) (x : Taken) (st : Storage) → length st < 2 ^ 64 → model.value_of card x st 0 ≡ came_to (value_to st (item_of x)) card st
values card (Cells e) st small = reads card e.first st ∙ ap (λ r. came_to r card st) (sym (reads_far st e.first small))
values card (Fresh c) st small = refl

module _ (w : World) (code : Code) (setting : Setting) (world : IsWorldOf code setting w) (m : State) (inside : m.stage ≡ stage.Inside)
    (cells_near : length m.cells.items < 2 ^ 64) (stop_near : m.frame.stop < 2 ^ 64) (f : frames.Frame) (card : ℕ) (is : List code_of.Instr) (ws : List Waiting) (xs : List Taken) (st : Storage) (s : ShowsStatement w code m f card is ws xs st) where
  held_so : m.cells.items ≡ st
  held_so = s.unit_shown.rest.cells_are

  small : length st < 2 ^ 64
  small = subst (λ (cs : Storage). length cs < 2 ^ 64) held_so cells_near

  items_so : m.values.items ≡ map item_of xs
  items_so = s.unit_shown.rest.values_are

  first_so : value_below 0 m ≡ first_of xs
  first_so = ap (λ vs. value_in (first_in vs)) items_so ∙ first_kept xs

  second_so : value_below 1 m ≡ second_of xs
  second_so = ap (λ vs. value_in (first_in (behind vs))) items_so ∙ second_kept xs

  abbrev manner : Manner
  manner = record { dialect = code.dialect; lazy = setting.lazy; copies = copies_by setting.passing }

  by_processor : {A : Type 0} (part : Processor → A) → part w.processor ≡ part (processor_of setting.bounds manner)
  by_processor part = ap part world.run_by

  -- a value in the place of others, or an error
  shows_answer : (d : ℕ) (r : Result Cell Kind) → ShowsMove w code (answered d r m) f card ws (settled (came_to r card st) (λ v st. on is (Fresh v ∷ under d xs) st))
  shows_answer d (Ok c) =
      shows_on w code m f ws xs st (Fresh c ∷ under d xs) st card is inside s (item.Fresh c ∷ under_in d m.values.items) m.cells.items
      (ap (λ vs. item.Fresh c ∷ vs) (ap (under_in d) items_so ∙ under_kept d xs))
      held_so
  shows_answer d (Err kind) = shows_error w code m f ws xs st xs st card is inside s kind m.values.items m.cells.items held_so

  by_outcome : (d : ℕ) (r : Result Cell Kind) (o : Outcome Cell) → o ≡ came_to r card st → ShowsMove w code (answered d r m) f card ws (settled o (λ v st. on is (Fresh v ∷ under d xs) st))
  by_outcome d r o e = subst (λ o. ShowsMove w code (answered d r m) f card ws (settled o (λ v st. on is (Fresh v ∷ under d xs) st))) (sym e) (shows_answer d r)

  answers : (d : ℕ) (r r' : Result Cell Kind) (o : Outcome Cell) → o ≡ came_to r' card st → r ≡ r'
      → ShowsMove w code (answered d r m) f card ws (settled o (λ v st. on is (Fresh v ∷ under d xs) st))
  answers d r r' o e same = by_outcome d r o (e ∙ ap (λ r. came_to r card st) (sym same))

  decides : (b t t' : Bool) (k : ℕ) → t ≡ t' → ShowsMove w code (cond t (decided b k m) m) f card ws (cond t' (on (drop k is) (Fresh (Logical b) ∷ below xs) st) (on is xs st))
  decides b t t' k e = subst (λ t'. ShowsMove w code (cond t (decided b k m) m) f card ws (cond t' (on (drop k is) (Fresh (Logical b) ∷ below xs) st) (on is xs st))) e (by_truth t)
    where
      by_truth : (t : Bool) → ShowsMove w code (cond t (decided b k m) m) f card ws (cond t (on (drop k is) (Fresh (Logical b) ∷ below xs) st) (on is xs st))
      by_truth true =
          shows_skip w code m f ws xs st (Fresh (Logical b) ∷ below xs) st card is inside s k (item.Fresh (Logical b) ∷ behind m.values.items) m.cells.items stop_near
          (ap (λ vs. item.Fresh (Logical b) ∷ vs) (ap behind items_so ∙ below_kept xs))
          held_so
      by_truth false = shows_on w code m f ws xs st xs st card is inside s m.values.items m.cells.items items_so held_so

  assigns : (x : Taken) (y : Item) → y ≡ item_of x → ShowsMove w code (assigned_to y m) f card ws (settled (assign x (second_of xs) st 0) (λ _ st. on is (below (below xs)) st))
  assigns x y e = subst (λ y. ShowsMove w code (assigned_to y m) f card ws (settled (assign x (second_of xs) st 0) (λ _ st. on is (below (below xs)) st))) (sym e) (by_kind x)
    where
      by_kind : (x : Taken) → ShowsMove w code (assigned_to (item_of x) m) f card ws (settled (assign x (second_of xs) st 0) (λ _ st. on is (below (below xs)) st))
      by_kind (Cells e) =
          shows_on w code m f ws xs st (below (below xs)) (store st e.first (second_of xs)) card is inside s (behind (behind m.values.items)) (store m.cells.items (far e.first) (value_below 1 m))
          (ap (λ vs. behind (behind vs)) items_so ∙ ap behind (below_kept xs) ∙ below_kept (below xs))
          (ap (λ (cs : Storage). store cs (far e.first) (value_below 1 m)) held_so ∙ store_far st e.first (value_below 1 m) small ∙ ap (store st e.first) second_so)
      by_kind (Fresh c) = shows_nothing w code m f ws xs st xs st card is inside s m.values.items m.cells.items held_so

  -- the processor's part comes to what is said, where the machine has the same values
  module _ (d : ℕ) where
    by_part : (part : Processor → Outcome Cell) (r r' : Result Cell Kind) → part (processor_of setting.bounds manner) ≡ came_to r' card st → r ≡ r'
        → ShowsMove w code (answered d r m) f card ws (settled (part w.processor) (λ v st. on is (Fresh v ∷ under d xs) st))
    by_part part r r' law same = answers d r r' (part w.processor) (by_processor part ∙ law) same

  by_form : (i : Instr) → is_element i ≡ true → InstrHasSlots (length (unit_code code m.frame.unit).slots.names) i
      → ShowsMove w code (did setting i m) f card ws (moved (scene_at w.processor w.units f) card (seen_in (unit_code code m.frame.unit) i) is xs st)
  by_form (instr.Number n) e h = by_part 0 (λ p. model.constant p card n st 0) _ (constant_to setting.bounds n) (sums_are_exact.constant setting.bounds manner card n st) refl
  by_form instr.One e h = shows_answer 0 (Ok (Int (pos 1)))
  by_form (instr.Truth b) e h = shows_answer 0 (Ok (Logical b))
  by_form (instr.Place slot) e h =
      shows_on w code m f ws xs st (Cells (f.environment (name_at (unit_code code m.frame.unit).slots slot)) ∷ xs) st card is inside s (item.Cells (extent_at m slot) ∷ m.values.items) m.cells.items
      (ap (λ e. item.Cells e ∷ m.values.items) (slot_shown w code setting world m f ws xs st s.unit_shown slot h)
      ∙ ap (λ vs. item.Cells (shortened (f.environment (name_at (unit_code code m.frame.unit).slots slot))) ∷ vs) items_so)
      held_so
  by_form (instr.Load slot) e h =
      let x = f.environment (name_at (unit_code code m.frame.unit).slots slot) in
      answers 0 (read_to m.cells.items (extent_at m slot).first) (read_to st x.first) (model.read card x.first st 0) (reads card x.first st)
      (ap (λ (cs : Storage). read_to cs (extent_at m slot).first) held_so
      ∙ ap (λ (y : Extent). read_to st y.first) (slot_shown w code setting world m f ws xs st s.unit_shown slot h)
      ∙ reads_far st x.first small)
  by_form instr.Value e h =
      answers 1 (value_to m.cells.items (first_in m.values.items)) (value_to st (item_of (top xs))) (model.value_of card (top xs) st 0) (values card (top xs) st small)
      (ap (λ (cs : Storage). value_to cs (first_in m.values.items)) held_so ∙ ap (λ vs. value_to st (first_in vs)) items_so ∙ ap (value_to st) (top_kept xs))
  by_form instr.Negate e h =
      by_part 1 (λ p. model.ranged p card (neg_ℤ (num (first_of xs))) st 0) (ranged_to setting.bounds (neg_ℤ (num (value_below 0 m)))) (ranged_to setting.bounds (neg_ℤ (num (first_of xs))))
      (sums_are_exact.ranged setting.bounds manner card (neg_ℤ (num (first_of xs))) st)
      (ap (λ c. ranged_to setting.bounds (neg_ℤ (num c))) first_so)
  by_form (instr.Raise n) e h =
      by_part 1 (λ p. model.power p card (num (first_of xs)) n st 0) (power_to setting.bounds (num (value_below 0 m)) n) (power_to setting.bounds (num (first_of xs)) n)
      (sums_are_exact.power setting.bounds manner card (num (first_of xs)) n st)
      (ap (λ c. power_to setting.bounds (num c) n) first_so)
  by_form (instr.Operation o) e h =
      by_part 2 (λ p. model.operate p card o (second_of xs) (first_of xs) st 0) (operated_to setting.bounds o (value_below 1 m) (value_below 0 m)) (operated_to setting.bounds o (second_of xs) (first_of xs))
      (sums_are_exact.operate setting.bounds manner card o (second_of xs) (first_of xs) st)
      (ap (λ c. operated_to setting.bounds o c (value_below 0 m)) second_so ∙ ap (operated_to setting.bounds o (second_of xs)) first_so)
  by_form (instr.Comparison o) e h =
      answers 2 (Ok (Logical (compares o (value_below 1 m) (value_below 0 m)))) (Ok (Logical (compares o (second_of xs) (first_of xs)))) _ refl
      (ap (λ c. Ok (Logical (compares o c (value_below 0 m)))) second_so ∙ ap (λ c. Ok (Logical (compares o (second_of xs) c))) first_so)
  by_form instr.Negation e h =
      answers 1 (Ok (Logical (not (holds (value_below 0 m))))) (Ok (Logical (not (holds (first_of xs))))) _ refl (ap (λ c. Ok (Logical (not (holds c)))) first_so)
  by_form (instr.SkipFalse k) e h =
      decides false (setting.lazy && not (holds (value_below 0 m))) (w.processor.lazy && not (holds (first_of xs))) k
      (ap (λ c. setting.lazy && not (holds c)) first_so ∙ sym (by_processor (λ p. p.lazy && not (holds (first_of xs)))))
  by_form instr.Both e h =
      answers 2 (Ok (Logical (holds (value_below 1 m) && holds (value_below 0 m)))) (Ok (Logical (holds (second_of xs) && holds (first_of xs)))) _ refl
      (ap (λ c. Ok (Logical (holds c && holds (value_below 0 m)))) second_so ∙ ap (λ c. Ok (Logical (holds (second_of xs) && holds c))) first_so)
  by_form (instr.SkipTrue k) e h =
      decides true (setting.lazy && holds (value_below 0 m)) (w.processor.lazy && holds (first_of xs)) k
      (ap (λ c. setting.lazy && holds c) first_so ∙ sym (by_processor (λ p. p.lazy && holds (first_of xs))))
  by_form instr.Either e h =
      answers 2 (Ok (Logical (holds (value_below 1 m) || holds (value_below 0 m)))) (Ok (Logical (holds (second_of xs) || holds (first_of xs)))) _ refl
      (ap (λ c. Ok (Logical (holds c || holds (value_below 0 m)))) second_so ∙ ap (λ c. Ok (Logical (holds (second_of xs) || holds c))) first_so)
  by_form (instr.BuiltIn g n) e h =
      by_part n (λ p. model.intrinsic_value p card (intrinsic_of g) (cells_of (newest n xs [])) st 0)
      (intrinsic_to setting.bounds (intrinsic_of g) (values_in (newest_in n m.values.items [])))
      (intrinsic_to setting.bounds (intrinsic_of g) (cells_of (newest n xs [])))
      (intrinsics.exact setting.bounds manner card (intrinsic_of g) (cells_of (newest n xs [])) st)
      (ap (λ vs. intrinsic_to setting.bounds (intrinsic_of g) (values_in (newest_in n vs []))) items_so
      ∙ ap (λ vs. intrinsic_to setting.bounds (intrinsic_of g) (values_in vs)) (newest_kept n xs [])
      ∙ ap (intrinsic_to setting.bounds (intrinsic_of g)) (values_kept (newest n xs [])))
  by_form instr.Forget e h =
      shows_on w code m f ws xs st (below xs) st card is inside s (behind m.values.items) m.cells.items (ap behind items_so ∙ below_kept xs) held_so
  by_form instr.Assigned e h = assigns (top xs) (first_in m.values.items) (ap first_in items_so ∙ top_kept xs)
  by_form (instr.Array slot n) e h = absurd (cc)
  by_form (instr.Refer place) e h = absurd (cc)
  by_form (instr.Go c point) e h = absurd (cc)
  by_form (instr.Tests c place) e h = absurd (cc)
  by_form (instr.Jump point) e h = absurd (cc)
  by_form instr.Turn e h = absurd (cc)
  by_form (instr.Signs place) e h = absurd (cc)
  by_form (instr.Ways q r) e h = absurd (cc)
  by_form (instr.Choose place count) e h = absurd (cc)
  by_form (instr.BeginDo slot point) e h = absurd (cc)
  by_form instr.ResultOf e h = absurd (cc)
  by_form instr.Stop e h = absurd (cc)

pub obeyed : (code : Code) (setting : Setting) (i : Instr) (m : State) → is_element i ≡ true → IsReady code i m → Obeys code setting i m (did setting i m)
obeyed code setting i m element ready w world f card is ws xs st inside s = by_form w code setting world m inside ready.cells_near ready.stop_near f card is ws xs st s i element ready.has_slots
