-- A test of a DO takes a step as the model says.
use Rattle.std.proofs.Common.{◌≡◌, ℕ, suc, ◌+◌, ◌<◌, ◌^◌, Bool, true, false, cond, List, ◌∷◌, length, drop, Option, Some, None, slice_get, refl, sym, ap, ◌∙◌, subst}
use Rattle.std.specs.Prelude.{ℤ, ◌+ℤ◌, int_le, Result, Ok, Err}
use Rattle.std.proofs.lemmas.List.{drop_more}
use Rattle.std.proofs.lemmas.Option.{slice_get_within, get_or_from_slice_get}
use Rattle.formula.specs.declared.value.Cell.{Cell}
use Rattle.fort_syntax.specs.declared.condition.Kind.{Kind}
use Rattle.fort_syntax.specs.declared.dialect.Dialect.{Dialect}
use Rattle.fort_model.specs.Cells.{num}
use Rattle.fort_model.specs.Evaluate.{Scene, ranged, constant}
use Rattle.fort_model.specs.Flow.{Loop}
use Rattle.fort_model.specs.Outcome.{Outcome}
use Rattle.fort_model.specs.Passing.{Taken}
use Rattle.fort_model.specs.Perform.{variable, step_value, parameter, left_with}
use Rattle.fort_model.specs.Storage.{Storage, store}
use Rattle.run_moves.specs.Moves.{Move, to_point, to_tests, settled, tested}
use Rattle.run_frames.specs.Frames as frames
use Rattle.run_frames.specs.Frames.{Waiting, scene_at}
use Rattle.run_frames.specs.Configs.{testing}
use Rattle.run_held.specs.Sums.{came_to, ranged_to}
use Rattle.run_held.proofs.Exact.{sums_are_exact}
use Rattle.run_shapes.specs.Coded.{HasSlot, MayHaveSlot, TestHasSlots}
use Rattle.run_shapes.specs.Seen.{name_at, param_of, step_of, loop_of, loops_of, out_of}
use Rattle.run_shapes.specs.declared.slots.Amount.{Amount}
use Rattle.run_shapes.specs.declared.slots.Amount.TheVariants as amount
use Rattle.run_shapes.specs.declared.tests.Round.{Round}
use Rattle.run_shapes.specs.declared.tests.Test.TheVariants as test
use Rattle.run_shapes.specs.declared.unit_code.Code.{Code}
use Rattle.run_shapes.specs.declared.unit_code.UnitCode.{UnitCode}
use Rattle.run_state.specs.Deeds.{extent_at}
use Rattle.run_state.specs.Obeyed.{ShowsMove, IsPlain}
use Rattle.run_state.specs.Rests.{GoesOn, Stepped}
use Rattle.run_state.specs.Shows.{unit_code, World, IsWorldOf, ShowsUnit, ShowsTests}
use Rattle.run_state.specs.declared.machine.Setting.{Setting}
use Rattle.run_state.specs.declared.machine.Stage.TheVariants as stage
use Rattle.run_state.specs.declared.machine.State.{State}
use Rattle.run_state.proofs.Arms.{at_point, unit_kept}
use Rattle.run_state.proofs.Glue.{steps_so}
use Rattle.run_state.proofs.Stages.{when_testing}
use Rattle.run_elements.specs.Elements.{read_to}
use Rattle.run_elements.proofs.Obeying.{reads}
use Rattle.run_elements.proofs.Plain.{stored_long, failed_plain}
use Rattle.run_jumps.specs.Rounds.{amount_to, step_to, went_round, then_so, did_test, IsReadyToTest}
use Rattle.run_jumps.proofs.Cells.{manner_of, by_processor, dialect_so, read_so, store_so}
use Rattle.run_jumps.proofs.Plain.{gone_plain, tests_plain}

-- an entry of a table, and those behind it
stands : {X : Type 0} (xs : List X) (i : ℕ) (x : X) → slice_get xs i ≡ Some x → drop i xs ≡ x ∷ drop (i + 1) xs
stands xs i x e = drop_more xs i x (slice_get_within xs i x e) ∙ ap (λ y. y ∷ drop (i + 1) xs) (get_or_from_slice_get xs i x x e)

module _ (w : World) (code : Code) (setting : Setting) (world : IsWorldOf code setting w) (m : State) (cells_near : length m.cells.items < 2 ^ 64)
    (f : frames.Frame) (card : ℕ) (ws : List Waiting) (xs : List Taken) (st : Storage) (here : m.frame.card ≡ card) (u : ShowsUnit w code m f ws xs st) where
  abbrev unit : UnitCode
  unit = unit_code code m.frame.unit

  abbrev scene : Scene
  scene = scene_at w.processor w.units f

  -- on with a value, or an error
  follows : (r : Result Cell Kind) (o : Outcome Cell) (next : Cell → State → State) (then : Cell → Storage → Move) → o ≡ came_to r card st
      → ((c : Cell) → ShowsMove w code (next c m) f card ws (then c st)) → ShowsMove w code (then_so r next m) f card ws (settled o then)
  follows r o next then e shows = subst (λ o. ShowsMove w code (then_so r next m) f card ws (settled o then)) (sym e) (by_result r)
    where
      by_result : (r : Result Cell Kind) → ShowsMove w code (then_so r next m) f card ws (settled (came_to r card st) then)
      by_result (Ok c) = shows c
      by_result (Err kind) = (refl, here, u.rest.cells_are)

  variables : (slot : ℕ) → slot < length unit.slots.names → variable scene card (name_at unit.slots slot) st 0 ≡ came_to (read_to m.cells.items (extent_at m slot).first) card st
  variables slot h =
      reads card (f.environment (name_at unit.slots slot)).first st ∙ ap (λ r. came_to r card st) (sym (read_so w code setting world m cells_near f ws xs st u slot h))

  amounts : (a : Amount) → HasSlot (length unit.slots.names) a → parameter scene card (param_of unit.slots a) st 0 ≡ came_to (amount_to setting m a) card st
  amounts (amount.Fixed c) h = by_processor w code setting world (λ p. constant p card c st 0) ∙ sums_are_exact.constant setting.bounds (manner_of code setting) card c st
  amounts (amount.Named slot) h = variables slot h

  steps : (o : Option Amount) → MayHaveSlot (length unit.slots.names) o → step_value scene card (step_of unit.slots o) st 0 ≡ came_to (step_to setting m o) card st
  steps None h = refl
  steps (Some a) h = amounts a h

  sums : (z : ℤ) → ranged w.processor card z st 0 ≡ came_to (ranged_to setting.bounds z) card st
  sums z = by_processor w code setting world (λ p. ranged p card z st 0) ∙ sums_are_exact.ranged setting.bounds (manner_of code setting) card z st

  module _ (round : Round) (has : TestHasSlots (length unit.slots.names) (test.Loop round)) where
    abbrev cell : ℕ
    cell = (f.environment (name_at unit.slots round.variable)).first

    abbrev others : List Loop
    others = loops_of unit.slots (drop (m.frame.place + 1) unit.tests)

    abbrev point : ℕ
    point = out_of (drop (m.frame.place + 1) unit.tests)

    stored : (c : Cell) → store m.cells.items (extent_at m round.variable).first c ≡ store st cell c
    stored c = store_so w code setting world m cells_near f ws xs st u round.variable has.0 c

    goes_round : (t : Bool) (d : Dialect) (sum : Cell) → ShowsMove w code (went_round d round t sum m) f card ws
        (cond t (to_point (suc round.at) xs (store st cell sum)) (to_tests card point others xs (store st cell (left_with d sum))))
    goes_round true d sum = at_point w code m f ws xs st xs (store st cell sum) (suc round.at) m.values.items (store m.cells.items (extent_at m round.variable).first sum) u u.rest.values_are (stored sum)
    goes_round false d sum = (
      refl,
      record {
        card_is = here;
        loops_are = refl;
        point_is = refl;
        unit_shown = unit_kept w code m f ws xs st xs (store st cell (left_with d sum)) stage.Testing m.frame.line (m.frame.place + 1) m.frame.card m.values.items
            (store m.cells.items (extent_at m round.variable).first (left_with d sum)) u u.rest.values_are (stored (left_with d sum));
      },
    )

    goes : (d : Dialect) → w.processor.dialect ≡ d → (sum last : Cell) → ShowsMove w code (went_round d round (int_le (num sum) (num last)) sum m) f card ws
        (cond (int_le (num sum) (num last)) (to_point (suc round.at) xs (store st cell sum)) (to_tests card point others xs (store st cell (left_with w.processor.dialect sum))))
    goes d e sum last =
        subst (λ k. ShowsMove w code (went_round d round (int_le (num sum) (num last)) sum m) f card ws
        (cond (int_le (num sum) (num last)) (to_point (suc round.at) xs (store st cell sum)) (to_tests card point others xs (store st cell (left_with k sum)))))
        (sym e)
        (goes_round (int_le (num sum) (num last)) d sum)

    shows : ShowsMove w code (did_test code.dialect setting round m) f card ws (tested scene card (loop_of unit.slots round) point others xs st)
    shows =
        follows _ _ _ _ (variables round.variable has.0)
        (λ i.
        follows _ _ _ _ (steps round.step has.2)
        (λ by.
        follows _ _ _ _ (sums (num i +ℤ num by))
        (λ sum.
        follows _ _ _ _ (amounts round.last has.1)
        (λ last. goes code.dialect (dialect_so w code setting world) sum last))))

pub taken : (code : Code) (setting : Setting) (round : Round) (m : State) → IsReadyToTest code round m → Stepped code setting m (did_test code.dialect setting round m)
taken code setting round m ready w world = when_testing code w m (λ c st. GoesOn w code c st (did_test code.dialect setting round m)) ready.testing by_tests
  where
    by_tests : (f : frames.Frame) (card q : ℕ) (ds : List Loop) (ws : List Waiting) (xs : List Taken) (st : Storage) → ShowsTests w code m f card q ds ws xs st
        → GoesOn w code (testing f card q ds ws xs) st (did_test code.dialect setting round m)
    by_tests f card q ds ws xs st t =
        let unit = unit_code code m.frame.unit in
        let rest = drop (m.frame.place + 1) unit.tests in
        let next : drop m.frame.place unit.tests ≡ test.Loop round ∷ rest = stands unit.tests m.frame.place (test.Loop round) ready.stands in
        let loops : loop_of unit.slots round ∷ loops_of unit.slots rest ≡ ds = sym (ap (loops_of unit.slots) next) ∙ t.loops_are in
        let point : out_of rest ≡ q = sym (ap out_of next) ∙ t.point_is in
        subst (λ ds. GoesOn w code (testing f card q ds ws xs) st (did_test code.dialect setting round m)) loops
        (subst (λ q. GoesOn w code (testing f card q (loop_of unit.slots round ∷ loops_of unit.slots rest) ws xs) st (did_test code.dialect setting round m)) point
        (steps_so w code (testing f card (out_of rest) (loop_of unit.slots round ∷ loops_of unit.slots rest) ws xs) st (did_test code.dialect setting round m) refl
        (shows w code setting world m ready.cells_near f card ws xs st t.card_is t.unit_shown round ready.has_slots)))

-- ---- room

module _ (m : State) where
  then_plain : (r : Result Cell Kind) (next : Cell → State → State) → ((c : Cell) → IsPlain m (next c m)) → IsPlain m (then_so r next m)
  then_plain (Ok c) next h = h c
  then_plain (Err kind) next h = failed_plain m kind

  round_plain : (d : Dialect) (round : Round) (t : Bool) (sum : Cell) → IsPlain m (went_round d round t sum m)
  round_plain d round true sum =
      gone_plain m (suc round.at) m.values.items (store m.cells.items (extent_at m round.variable).first sum) (stored_long m.cells.items (extent_at m round.variable).first sum) (λ most h. h)
  round_plain d round false sum =
      tests_plain m m.frame.card (m.frame.place + 1) (store m.cells.items (extent_at m round.variable).first (left_with d sum))
      (stored_long m.cells.items (extent_at m round.variable).first (left_with d sum))

  pub plain : (d : Dialect) (setting : Setting) (round : Round) → IsPlain m (did_test d setting round m)
  plain d setting round =
      then_plain (read_to m.cells.items (extent_at m round.variable).first) _
      (λ i.
      then_plain (step_to setting m round.step) _
      (λ by.
      then_plain (ranged_to setting.bounds (num i +ℤ num by)) _
      (λ sum. then_plain (amount_to setting m round.last) _ (λ last. round_plain d round (int_le (num sum) (num last)) sum))))
