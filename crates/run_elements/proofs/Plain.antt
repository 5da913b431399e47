-- Instructions of expressions need room for one item at most.
use Rattle.std.proofs.Common.{◌≡◌, ℕ, zero, suc, ◌+◌, ◌<◌, ◌≤◌, ◌^◌, Bool, true, false, cond, List, [], ◌∷◌, length, slice_index_or, refl, sym, ap, subst, arith}
use Rattle.std.specs.Prelude.{Result, Ok, Err}
use Rattle.formula.specs.declared.value.Cell.{Cell}
use Rattle.formula.specs.declared.value.Cell.TheVariants.{Logical}
use Rattle.fort_syntax.specs.declared.condition.Kind.{Kind}
use Rattle.fort_model.specs.Storage.{Storage, store}
use Rattle.run_rooms.specs.Roomy.{behind}
use Rattle.run_shapes.specs.declared.instr.Instr.{Instr}
use Rattle.run_shapes.specs.declared.instr.Instr.TheVariants as instr
use Rattle.run_shapes.specs.declared.unit_code.Code.{Code}
use Rattle.run_state.specs.Near.{far}
use Rattle.run_state.specs.Deeds.{no_cells, first_in, under_in, extent_at, failed, lost}
use Rattle.run_state.specs.Obeyed.{AreWithin, ExtentsWithin, IsNoHigher, IsPlain}
use Rattle.run_state.specs.declared.machine.Extent.{Extent}
use Rattle.run_state.specs.declared.machine.Item.{Item}
use Rattle.run_state.specs.declared.machine.Item.TheVariants.{Cells, Fresh}
use Rattle.run_state.specs.declared.machine.Setting.{Setting}
use Rattle.run_state.specs.declared.machine.Stage.TheVariants as stage
use Rattle.run_state.specs.declared.machine.State.{State}
use Rattle.run_elements.specs.Elements.{answered, answer_to, depth_of, decided, assigned_to, did, value_below, IsReady}

pub behind_within : (most : ℕ) (items : List Item) → AreWithin most items → AreWithin most (behind items)
behind_within most [] h = h
behind_within most (x ∷ items) h = h.1

pub under_within : (most n : ℕ) (items : List Item) → AreWithin most items → AreWithin most (under_in n items)
under_within most zero items h = h
under_within most (suc n) items h = under_within most n (behind items) (behind_within most items h)

pub behind_short : (items : List Item) → length (behind items) ≤ length items
behind_short [] = omega arith
behind_short (x ∷ items) = omega arith

pub under_short : (n : ℕ) (items : List Item) → length (under_in n items) ≤ length items
under_short zero items = omega arith
under_short (suc n) items =
    let one : length (behind items) ≤ length items = behind_short items in
    let more : length (under_in n (behind items)) ≤ length (behind items) = under_short n (behind items) in
    omega arith

extent_within : (most : ℕ) (es : List Extent) (i : ℕ) → ExtentsWithin most es → (slice_index_or es i no_cells).size ≤ most
extent_within most [] i h = omega arith
extent_within most (e ∷ es) zero h = h.0
extent_within most (e ∷ es) (suc i) h = extent_within most es i h.1

pub stored_long : (st : Storage) (i : ℕ) (c : Cell) → length (store st i c) ≡ length st
stored_long [] i c = refl
stored_long (x ∷ st) zero c = refl
stored_long (x ∷ st) (suc i) c = ap suc (stored_long st i c)

pub far_later : (a k : ℕ) → a < 2 ^ 64 → a ≤ far (a + k)
far_later a k h = grind arith

module _ (m : State) where
  pub failed_plain : (kind : Kind) → IsPlain m (failed kind m)
  failed_plain kind = record {
    callers = refl;
    extents = refl;
    cells_room = refl;
    cells = refl;
    values_room = refl;
    frame = record { unit = refl; stop = refl; extents = refl; before = refl; floor = refl };
    values = tt;
    within = λ most one es vs. vs;
  }

  pub lost_plain : IsPlain m (lost m)
  lost_plain = record {
    callers = refl;
    extents = refl;
    cells_room = refl;
    cells = refl;
    values_room = refl;
    frame = record { unit = refl; stop = refl; extents = refl; before = refl; floor = refl };
    values = tt;
    within = λ most one es vs. vs;
  }

module _ (m : State) (inside : m.stage ≡ stage.Inside) where
  -- another place, stack and storage in the same statement
  pub on_plain : (place : ℕ) (vs : List Item) (cs : Storage) → m.frame.place ≤ place → length vs ≤ suc (length m.values.items) → length cs ≡ length m.cells.items
      → ((most : ℕ) → 1 ≤ most → ExtentsWithin most m.extents.items → AreWithin most m.values.items → AreWithin most vs)
      → IsPlain m (record m { frame = record m.frame { place = place }; values = record m.values { items = vs }; cells = record m.cells { items = cs } })
  on_plain place vs cs later short same within = record {
    callers = refl;
    extents = refl;
    cells_room = refl;
    cells = same;
    values_room = refl;
    frame = record { unit = refl; stop = refl; extents = refl; before = refl; floor = refl };
    values = subst (λ s. IsNoHigher s m (record m { frame = record m.frame { place = place }; values = record m.values { items = vs }; cells = record m.cells { items = cs } })) (sym inside) (later, short);
    within = within;
  }

  values_plain : (vs : List Item) → length vs ≤ suc (length m.values.items)
      → ((most : ℕ) → 1 ≤ most → ExtentsWithin most m.extents.items → AreWithin most m.values.items → AreWithin most vs)
      → IsPlain m (record m { values = record m.values { items = vs } })
  values_plain vs short within = on_plain m.frame.place vs m.cells.items (omega arith) short refl within

  pub answered_plain : (d : ℕ) (r : Result Cell Kind) → IsPlain m (answered d r m)
  answered_plain d (Ok c) =
      let short : length (under_in d m.values.items) ≤ length m.values.items = under_short d m.values.items in
      values_plain (Fresh c ∷ under_in d m.values.items) (omega arith) (λ most one es vs. (one, under_within most d m.values.items vs))
  answered_plain d (Err kind) = failed_plain m kind

  decided_plain : (b t : Bool) (k : ℕ) → m.frame.place < 2 ^ 64 → IsPlain m (cond t (decided b k m) m)
  decided_plain b true k near =
      let short : length (behind m.values.items) ≤ length m.values.items = behind_short m.values.items in
      on_plain (far (m.frame.place + k)) (Fresh (Logical b) ∷ behind m.values.items) m.cells.items (far_later m.frame.place k near) (omega arith) refl
      (λ most one es vs. (one, behind_within most m.values.items vs))
  decided_plain b false k near = values_plain m.values.items (omega arith) (λ most one es vs. vs)

  assigned_plain : (x : Item) → IsPlain m (assigned_to x m)
  assigned_plain (Cells e) =
      let short : length (under_in 2 m.values.items) ≤ length m.values.items = under_short 2 m.values.items in
      on_plain m.frame.place (behind (behind m.values.items)) (store m.cells.items e.first (value_below 1 m)) (omega arith) (omega arith) (stored_long m.cells.items e.first (value_below 1 m))
      (λ most one es vs. under_within most 2 m.values.items vs)
  assigned_plain (Fresh c) = lost_plain m

  placed_plain : (slot : ℕ) → IsPlain m (record m { values = record m.values { items = Cells (extent_at m slot) ∷ m.values.items } })
  placed_plain slot = values_plain (Cells (extent_at m slot) ∷ m.values.items) (omega arith) (λ most one es vs. (extent_within most m.extents.items (m.frame.extents + slot) es, vs))

  forgotten_plain : IsPlain m (record m { values = record m.values { items = behind m.values.items } })
  forgotten_plain =
      let short : length (behind m.values.items) ≤ length m.values.items = behind_short m.values.items in
      values_plain (behind m.values.items) (omega arith) (λ most one es vs. behind_within most m.values.items vs)

  by_form : (setting : Setting) (i : Instr) → m.frame.place < 2 ^ 64 → IsPlain m (did setting i m)
  by_form setting (instr.Place slot) near = placed_plain slot
  by_form setting (instr.SkipFalse k) near = decided_plain false _ k near
  by_form setting (instr.SkipTrue k) near = decided_plain true _ k near
  by_form setting instr.Forget near = forgotten_plain
  by_form setting instr.Assigned near = assigned_plain (first_in m.values.items)
  by_form setting i near = answered_plain (depth_of i) (answer_to setting i m)

pub plain : (code : Code) (setting : Setting) (i : Instr) (m : State) → IsReady code i m → IsPlain m (did setting i m)
plain code setting i m ready = by_form m ready.inside setting i ready.place_near
