-- Instructions that lead elsewhere need no room.
use Rattle.std.proofs.Common.{◌≡◌, ℕ, zero, suc, ◌-◌, ◌<◌, ◌≤◌, ◌^◌, Bool, true, false, cond, List, [], ◌∷◌, length, drop, Option, Some, None, refl, arith}
use Rattle.std.specs.Prelude.{ℤ, Result, Ok, Err}
use Rattle.std.proofs.lemmas.List.{length-drop}
use Rattle.formula.specs.declared.value.Cell.TheVariants.{Int}
use Rattle.fort_syntax.specs.declared.condition.Kind.{Kind}
use Rattle.fort_syntax.specs.declared.condition.Kind.TheVariants.{ChoiceCheck, ResultCheck}
use Rattle.fort_syntax.specs.declared.dialect.Dialect.{Dialect}
use Rattle.fort_syntax.specs.declared.dialect.Dialect.TheVariants.{Common, SeventySeven}
use Rattle.fort_model.specs.Cells.{num, holds, is_defined}
use Rattle.fort_model.specs.Storage.{Storage, load, store}
use Rattle.run_intrinsics.specs.Loops.{begun_to}
use Rattle.run_rooms.specs.Roomy.{oldest}
use Rattle.run_shapes.specs.declared.instr.Instr.{Instr}
use Rattle.run_shapes.specs.declared.instr.Instr.TheVariants as instr
use Rattle.run_shapes.specs.declared.unit_code.Code.{Code}
use Rattle.run_shapes.specs.declared.unit_code.UnitCode.{UnitCode}
use Rattle.run_state.specs.Deeds.{under_in, extent_at, with_values, with_cells, gone_to, put_to_test, failed}
use Rattle.run_state.specs.Obeyed.{AreWithin, IsPlain}
use Rattle.run_state.specs.Shows.{unit_code}
use Rattle.run_state.specs.declared.machine.Item.{Item}
use Rattle.run_state.specs.declared.machine.Setting.{Setting}
use Rattle.run_state.specs.declared.machine.Stage.TheVariants as stage
use Rattle.run_state.specs.declared.machine.State.{State}
use Rattle.run_elements.specs.Elements.{IsReady, value_below}
use Rattle.run_elements.proofs.Plain.{under_within, under_short, stored_long, far_later, failed_plain, lost_plain, on_plain}
use Rattle.run_jumps.specs.Jumps.{left_for, turned, chose, point_at, begun, led, led_by}

drop_within : (most k : ℕ) (items : List Item) → AreWithin most items → AreWithin most (drop k items)
drop_within most zero items h = h
drop_within most (suc k) [] h = h
drop_within most (suc k) (x ∷ items) h = drop_within most k items h.1

oldest_short : (n : ℕ) (items : List Item) → length (oldest n items) ≤ n
oldest_short n items =
    let long : length (oldest n items) ≡ length items - (length items - n) = length-drop (length items - n) items in
    omega arith

module _ (m : State) where
  -- at a point
  pub gone_plain : (q : ℕ) (vs : List Item) (cs : Storage) → length cs ≡ length m.cells.items
      → ((most : ℕ) → AreWithin most m.values.items → AreWithin most vs)
      → IsPlain m (gone_to q (with_values vs (with_cells cs m)))
  gone_plain q vs cs same within = record {
    callers = refl;
    extents = refl;
    cells_room = refl;
    cells = same;
    values_room = refl;
    frame = record { unit = refl; stop = refl; extents = refl; before = refl; floor = refl };
    values = oldest_short m.frame.floor vs;
    within = λ most one es h. drop_within most (length vs - m.frame.floor) vs (within most h);
  }

  -- before tests
  pub tests_plain : (card place : ℕ) (cs : Storage) → length cs ≡ length m.cells.items → IsPlain m (put_to_test card place (with_cells cs m))
  tests_plain card place cs same = record {
    callers = refl;
    extents = refl;
    cells_room = refl;
    cells = same;
    values_room = refl;
    frame = record { unit = refl; stop = refl; extents = refl; before = refl; floor = refl };
    values = omega arith;
    within = λ most one es h. h;
  }

  pub left_plain : (depth q : ℕ) → IsPlain m (left_for depth q m)
  left_plain depth q = gone_plain q (under_in depth m.values.items) m.cells.items refl (λ most h. under_within most depth m.values.items h)

  module _ (inside : m.stage ≡ stage.Inside) where
    less_plain : (depth : ℕ) (cs : Storage) → length cs ≡ length m.cells.items → IsPlain m (with_values (under_in depth m.values.items) (with_cells cs m))
    less_plain depth cs same =
        let short : length (under_in depth m.values.items) ≤ length m.values.items = under_short depth m.values.items in
        on_plain m inside m.frame.place (under_in depth m.values.items) cs (omega arith) (omega arith) same (λ most one es h. under_within most depth m.values.items h)

    turned_plain : (t : Bool) → m.frame.place < 2 ^ 64 → IsPlain m (turned t m)
    turned_plain true near =
        let short : length (under_in 1 m.values.items) ≤ length m.values.items = under_short 1 m.values.items in
        record {
          callers = refl;
          extents = refl;
          cells_room = refl;
          cells = refl;
          values_room = refl;
          frame = record { unit = refl; stop = refl; extents = refl; before = refl; floor = refl };
          values = (far_later m.frame.place 1 near, omega arith);
          within = λ most one es h. under_within most 1 m.values.items h;
        }
    turned_plain false near = less_plain 1 m.cells.items refl

    chosen_plain : (d : Dialect) (o : Option ℕ) → IsPlain m (chose d o m)
    chosen_plain Common None = failed_plain m ChoiceCheck
    chosen_plain SeventySeven None = less_plain 1 m.cells.items refl
    chosen_plain Common (Some q) = left_plain 1 q
    chosen_plain SeventySeven (Some q) = left_plain 1 q

    begun_plain : (r : Result Bool Kind) (slot q : ℕ) (i : ℤ) → IsPlain m (begun r slot q i m)
    begun_plain (Ok true) slot q i =
        gone_plain q (under_in 3 m.values.items) (store m.cells.items (extent_at m slot).first (Int i)) (stored_long m.cells.items (extent_at m slot).first (Int i))
        (λ most h. under_within most 3 m.values.items h)
    begun_plain (Ok false) slot q i = less_plain 3 (store m.cells.items (extent_at m slot).first (Int i)) (stored_long m.cells.items (extent_at m slot).first (Int i))
    begun_plain (Err kind) slot q i = failed_plain m kind

    defined_plain : (a b : Bool) → IsPlain m (cond a (cond b m (failed ResultCheck m)) m)
    defined_plain true true = less_plain 0 m.cells.items refl
    defined_plain true false = failed_plain m ResultCheck
    defined_plain false b = less_plain 0 m.cells.items refl

    by_form : (d : Dialect) (unit : UnitCode) (setting : Setting) (i : Instr) → m.frame.place < 2 ^ 64 → IsPlain m (led d unit setting i m)
    by_form d unit setting (instr.Go card q) near = left_plain 0 q
    by_form d unit setting (instr.Tests card place) near = tests_plain card place m.cells.items refl
    by_form d unit setting (instr.Jump q) near = left_plain 0 q
    by_form d unit setting instr.Turn near = turned_plain (holds (value_below 0 m)) near
    by_form d unit setting (instr.Signs place) near = left_plain 1 _
    by_form d unit setting (instr.Ways q r) near = left_plain 1 _
    by_form d unit setting (instr.Choose place n) near = chosen_plain d (point_at unit.targets place n (num (value_below 0 m)))
    by_form d unit setting (instr.BeginDo slot q) near =
        begun_plain (begun_to d setting.bounds (num (value_below 2 m)) (num (value_below 1 m)) (num (value_below 0 m))) slot q (num (value_below 2 m))
    by_form d unit setting instr.ResultOf near = defined_plain unit.is_function (is_defined (load m.cells.items (extent_at m unit.value).first))
    by_form d unit setting _ near = lost_plain m

pub plain : (code : Code) (setting : Setting) (i : Instr) (m : State) → IsReady code i m → IsPlain m (led_by code setting i m)
plain code setting i m ready = by_form m ready.inside code.dialect (unit_code code m.frame.unit) setting i ready.place_near
