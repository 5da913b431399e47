-- A unit that is entered shows its first statement.
use Rattle.std.proofs.Common.{◌≡◌, ℕ, zero, suc, ◌+◌, ◌<◌, ◌≤◌, true, ◌||◌, List, [], ◌∷◌, ◌++◌, length, map, sum, replicate, Some, slice_get, slice_index_or, refl, sym, ap, ◌∙◌, subst, arith, length-append}
use Rattle.std.proofs.lemmas.List.{append_assoc, get_or_append_left, length-map}
use Rattle.std.proofs.lemmas.Option.{slice_get_within}
use Rattle.formula.specs.Atoms.{same_bytes, is_among}
use Rattle.formula.specs.declared.value.Cell.TheVariants.{Undefined}
use Rattle.fort_syntax.specs.Names.{own_names, commons, has_common}
use Rattle.fort_syntax.specs.declared.name.Name.{Name}
use Rattle.fort_syntax.specs.declared.unit.Unit.{Unit as Routine}
use Rattle.fort_model.specs.Storage as storage
use Rattle.fort_model.specs.Storage.{Storage, Environment, with_extents, side_by_side}
use Rattle.fort_model.specs.Passing.{Taken}
use Rattle.fort_model.specs.Run.{own_sizes}
use Rattle.fort_laws.proofs.FrameSeats.{same_self}
use Rattle.run_frames.specs.Frames.{Waiting}
use Rattle.run_frames.specs.Configs.{entering, between}
use Rattle.run_frames.specs.Configs as configs
use Rattle.run_shapes.specs.Coded.{slot_names, IsUnitCodeOf}
use Rattle.run_shapes.specs.declared.unit_code.Code.{Code}
use Rattle.run_state.specs.Near.{shortened, item_of, segment}
use Rattle.run_state.specs.Deeds.{no_cells}
use Rattle.run_state.specs.Shows.{unit_code, World, IsWorldOf, HasApartNames, own_names_of, Shows, ShowsEntry, segments}
use Rattle.run_state.specs.Rests.{GoesOn, Stepped}
use Rattle.run_state.specs.declared.machine.Extent.{Extent}
use Rattle.run_state.specs.declared.machine.Setting.{Setting}
use Rattle.run_state.specs.declared.machine.Stage.TheVariants as stage
use Rattle.run_state.specs.declared.machine.State.{State}
use Rattle.run_state.proofs.Slots.{unit_coded}
use Rattle.run_state.proofs.Stages.{when_entering}
use Rattle.run_state.proofs.Glue.{steps_so}
use Rattle.run_calls.specs.Calls.{begun, shared_all, entered, AreSizesOf}
use Rattle.run_calls.proofs.Closed.{laid, AreBelow, looked_up, given_closed, shared_closed}
use Rattle.run_calls.proofs.Given.{each_given, others_kept, not_given, map_twice, or_true}

-- ---- COMMON entities

-- places among names that have these names
pub data_at : (common : Environment) (names : List Name) (more : List Extent) (js : List ℕ) (xs : List Name) → map (slice_get names) js ≡ map Some xs
    → AreBelow (length names) js × (looked_up (segment common names ++ more) js ≡ segment common xs)
data_at common names more [] [] e = (tt, refl)
data_at common names more [] (x ∷ xs) e = absurd (cc)
data_at common names more (j ∷ js) [] e = absurd (cc)
data_at common names more (j ∷ js) (x ∷ xs) e =
    let head : slice_get names j ≡ Some x = cc in
    let tail : map (slice_get names) js ≡ map Some xs = cc in
    let rest = data_at common names more js xs tail in
    let within : j < length names = slice_get_within names j x head in
    let long : length (segment common names) ≡ length names = length-map names (λ x. shortened (common x)) in (
      (within, rest.0),
      ap (λ e. e ∷ looked_up (segment common names ++ more) js)
          (get_or_append_left (segment common names) more no_cells j (omega arith) ∙ mapped common names j x head) ∙ ap (λ es. shortened (common x) ∷ es) rest.1,
    )
  where
    mapped : (common : Environment) (names : List Name) (j : ℕ) (x : Name) → slice_get names j ≡ Some x → slice_index_or (segment common names) j no_cells ≡ shortened (common x)
    mapped common [] j x e = absurd (cc)
    mapped common (y ∷ names) zero x e = let same : y ≡ x = cc in ap (λ z. shortened (common z)) same
    mapped common (y ∷ names) (suc j) x e = mapped common names j x e

alike_on : (f g : Environment) (xs : List Name) → ((x : Name) → is_among x xs ≡ true → f x ≡ g x) → segment f xs ≡ segment g xs
alike_on f g [] h = refl
alike_on f g (x ∷ xs) h =
    ap (λ e. shortened e ∷ segment f xs) (h x (ap (λ b. b || is_among x xs) (same_self x))) ∙ ap (λ es. shortened (g x) ∷ es) (alike_on f g xs (λ z t. h z (or_true (same_bytes z x) (is_among z xs) t)))

joined : (env : Environment) (xs ys : List Name) → segment env (xs ++ ys) ≡ segment env xs ++ segment env ys
joined env [] ys = refl
joined env (x ∷ xs) ys = ap (λ es. shortened (env x) ∷ es) (joined env xs ys)

module _ (w : World) (code : Code) where
  -- what stands behind the COMMON entities
  later : List Waiting → List Extent
  later [] = []
  later (x ∷ ws) = later ws ++ segment x.frame.environment (slot_names x.frame.unit)

  begins_so : (ws : List Waiting) → segments w code ws ≡ segment w.common code.commons ++ later ws
  unfolding later
  begins_so [] = sym (nothing (segment w.common code.commons))
    where
      nothing : (es : List Extent) → es ++ [] ≡ es
      nothing [] = refl
      nothing (e ∷ es) = ap (λ rest. e ∷ rest) (nothing es)
  begins_so (x ∷ ws) =
      ap (λ es. es ++ segment x.frame.environment (slot_names x.frame.unit)) (begins_so ws)
      ∙ append_assoc (segment w.common code.commons) (later ws) (segment x.frame.environment (slot_names x.frame.unit))

  module _ (setting : Setting) (world : IsWorldOf code setting w) (m : State) (g : Routine) (env : Environment) (ws : List Waiting) (xs : List Taken) (st : Storage) (s : ShowsEntry w code m g env ws xs st)
      (sizes : List ℕ) (sized : sizes ≡ own_sizes g env st) where
    extents : List storage.Extent
    extents = side_by_side sizes (length st)

    own : Environment
    own = with_extents (own_names_of g) extents env

    apart : HasApartNames g
    apart = world.apart m.frame.unit g s.unit_is

    dummies_kept : segment own g.dummies ≡ segment env g.dummies
    unfolding own
    dummies_kept =
        map_twice shortened own g.dummies ∙ ap (map shortened) (others_kept (own_names_of g) extents env g.dummies (apart.dummies_apart)) ∙ sym (map_twice shortened env g.dummies)

    sides : (sizes : List ℕ) (next : ℕ) → length (side_by_side sizes next) ≡ length sizes
    sides [] next = refl
    sides (size ∷ sizes) next = ap suc (sides sizes (next + size))

    own_given : segment own (own_names_of g) ≡ map shortened extents
    unfolding own extents
    own_given =
        let long : length extents ≡ length (own_names_of g)
        = sides sizes (length st) ∙ ap length sized ∙ length-map (own_names g) _ ∙ sym (length-map (own_names g) (λ d. d.name)) in
        map_twice shortened own (own_names_of g) ∙ ap (map shortened) (each_given (own_names_of g) extents env apart.own_once long)

    common_kept : (x : Name) → has_common g x ≡ true → own x ≡ w.common x
    unfolding own
    common_kept x h = not_given (own_names_of g) extents env x (apart.commons_apart x h).1 ∙ s.commons_are x h

    commons_given : segment own (commons g) ≡ segment w.common (commons g)
    commons_given = alike_on own w.common (commons g) (λ x t. common_kept x (apart.commons_held x t))

    coded : IsUnitCodeOf w.units code.commons g (unit_code code m.frame.unit)
    coded = unit_coded code.dialect w.units code world.coded m.frame.unit g s.unit_is

    shared : List ℕ
    shared = (unit_code code m.frame.unit).shared

    new : List Extent
    new = map shortened extents

    same_new : map shortened (side_by_side sizes (length m.cells.items)) ≡ new
    unfolding new extents
    same_new = ap (λ k. map shortened (side_by_side sizes k)) (ap length s.rest.cells_are)

    behind_all : List Extent
    behind_all = (later ws ++ segment env g.dummies) ++ new

    all_are : m.extents.items ++ new ≡ segment w.common code.commons ++ behind_all
    unfolding behind_all begins_so
    all_are =
        let a = segment w.common code.commons in
        let b = later ws in
        let c = segment env g.dummies in
        ap (λ es. es ++ new) (s.names_are ∙ ap (λ es. es ++ c) (begins_so ws)) ∙ ap (λ es. es ++ new) (append_assoc a b c) ∙ append_assoc a (b ++ c) new

    found : AreBelow (length code.commons) shared × (looked_up (segment w.common code.commons ++ behind_all) shared ≡ segment w.common (commons g))
    unfolding shared coded
    found = data_at w.common code.commons behind_all shared (commons g) coded.commons_shared

    looked : looked_up (m.extents.items ++ new) shared ≡ segment w.common (commons g)
    unfolding found
    looked = ap (λ es. looked_up es shared) all_are ∙ found.1

    farther : (n k : ℕ) (js : List ℕ) → n ≤ k → AreBelow n js → AreBelow k js
    farther n k [] h b = tt
    farther n k (j ∷ js) h b = let here : j < n = b.0 in (omega arith, farther n k js h b.1)

    below_all : AreBelow (length (m.extents.items ++ new)) shared
    unfolding found
    below_all =
        let long : length (m.extents.items ++ new) ≡ length (segment w.common code.commons) + length behind_all
        = ap length all_are ∙ length-append (segment w.common code.commons) behind_all in
        let names : length (segment w.common code.commons) ≡ length code.commons = length-map code.commons (λ x. shortened (w.common x)) in
        farther (length code.commons) (length (m.extents.items ++ new)) shared (omega arith) found.0

    laid_out : State
    laid_out = laid ((m.extents.items ++ new) ++ looked_up (m.extents.items ++ new) shared) (m.cells.items ++ replicate (sum sizes) Undefined) (begun m)

    entered_is : entered sizes (unit_code code m.frame.unit).shared m ≡ laid_out
    unfolding laid_out shared
    entered_is =
        let given = laid (m.extents.items ++ new) (m.cells.items ++ replicate (sum sizes) Undefined) (begun m) in
        ap (shared_all shared) (given_closed sizes (begun m) ∙ ap (λ es. laid (m.extents.items ++ es) (m.cells.items ++ replicate (sum sizes) Undefined) (begun m)) same_new)
        ∙ shared_closed shared given below_all

    names_given : (m.extents.items ++ new) ++ looked_up (m.extents.items ++ new) shared ≡ segments w code ws ++ segment own (slot_names g)
    unfolding new own_given
    names_given =
        let a = segments w code ws in
        let b = segment env g.dummies in
        let c = segment w.common (commons g) in
        ap (λ es. (m.extents.items ++ new) ++ es) looked ∙ ap (λ es. (es ++ new) ++ c) s.names_are ∙ ap (λ es. es ++ c) (append_assoc a b new) ∙ append_assoc a (b ++ new) c
        ∙ ap (λ es. a ++ es)
        (ap (λ es. (es ++ new) ++ c) (sym dummies_kept) ∙ ap (λ es. (segment own g.dummies ++ es) ++ c) (sym own_given)
        ∙ ap (λ es. (segment own g.dummies ++ segment own (own_names_of g)) ++ es) (sym commons_given)
        ∙ ap (λ es. es ++ segment own (commons g)) (sym (joined own g.dummies (own_names_of g))) ∙ sym (joined own (g.dummies ++ own_names_of g) (commons g)))

    laid_shown : Shows w code laid_out (between (record { unit = g; environment = own; before = length st; floor = length xs }) 0 ws xs) (st ++ replicate (sum sizes) Undefined)
    unfolding laid_out
    laid_shown = (
      refl,
      refl,
      record {
        frame_is = record {
          unit_is = s.unit_is;
          before_is = ap length s.rest.cells_are;
          floor_is = ap length s.rest.values_are ∙ length-map xs item_of;
          extents_are = s.extents_are;
          commons_are = common_kept;
        };
        names_are = names_given;
        rest = record { callers_are = s.rest.callers_are; values_are = s.rest.values_are; cells_are = ap (λ cs. cs ++ replicate (sum sizes) Undefined) s.rest.cells_are };
      },
    )

    pub entered_shown : Shows w code (entered sizes (unit_code code m.frame.unit).shared m) (between (configs.entered w.processor w.units g env (length xs) st) 0 ws xs) (st ++ replicate (sum (own_sizes g env st)) Undefined)
    unfolding laid_shown own extents
    entered_shown =
        subst
        (λ z. Shows w code (entered sizes (unit_code code m.frame.unit).shared m)
        (between (record { unit = g; environment = with_extents (own_names_of g) (side_by_side z (length st)) env; before = length st; floor = length xs }) 0 ws xs)
        (st ++ replicate (sum z) Undefined))
        sized
        (subst (λ n. Shows w code n (between (record { unit = g; environment = own; before = length st; floor = length xs }) 0 ws xs) (st ++ replicate (sum sizes) Undefined)) (sym entered_is)
        laid_shown)

-- a unit is entered by a step
pub enters : (code : Code) (setting : Setting) (sizes : List ℕ) (m : State) → ((w : World) → IsWorldOf code setting w → AreSizesOf w.units m.frame.unit sizes) → m.stage ≡ stage.Entering
    → Stepped code setting m (entered sizes (unit_code code m.frame.unit).shared m)
enters code setting sizes m sized e w world = when_entering code w m (λ c st. GoesOn w code c st (entered sizes (unit_code code m.frame.unit).shared m)) e in_unit
  where
    in_unit : (g : Routine) (env : Environment) (ws : List Waiting) (xs : List Taken) (st : Storage) → ShowsEntry w code m g env ws xs st
        → GoesOn w code (entering g env ws xs) st (entered sizes (unit_code code m.frame.unit).shared m)
    in_unit g env ws xs st s =
        steps_so w code (entering g env ws xs) st (entered sizes (unit_code code m.frame.unit).shared m) refl
        (entered_shown w code setting world m g env ws xs st s sizes (sized w world g s.unit_is env st))
