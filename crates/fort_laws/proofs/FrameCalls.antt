-- A call changes only cells of names that the calling unit smashes, where runs of the called unit change only its own.
use Rattle.std.proofs.Common.{◌≡◌, ℕ, ◌+◌, ◌-◌, ◌<◌, ◌≤◌, ◌⊎◌, inl, inr, Bool, true, false, List, length, take, Option, Some, None, slice_get, refl, sym, ap, ◌∙◌, subst, arith, length-take-le, get_or-take, ext_get_or}
use Rattle.fort_syntax.specs.Names.{unit_at}
use Rattle.formula.specs.declared.value.Cell.{Cell}
use Rattle.formula.specs.declared.value.Cell.TheVariants.{Undefined}
use Rattle.fort_syntax.specs.declared.unit.DataName.{DataName}
use Rattle.fort_syntax.specs.declared.unit.Unit.{Unit as Routine}
use Rattle.fort_model.specs.Calls.{Calls, callee_of}
use Rattle.fort_model.specs.Fits.{IsIn, IsVisible}
use Rattle.fort_model.specs.Outcome.{Outcome, Ended, Erred, Running, and_then}
use Rattle.fort_model.specs.Passing.{new_cells, Taken, Cells, Fresh, Passed, ByCopy, passed_by, passed, written_back, call}
use Rattle.fort_model.specs.Processor.{Processor}
use Rattle.fort_model.specs.Run.{run_within}
use Rattle.fort_model.specs.Smashes.{Smashes}
use Rattle.fort_model.specs.Storage.{Storage, Extent, Environment, load}
use Rattle.fort_laws.specs.Actuals.{IsPart, AreTakenAs}
use Rattle.fort_laws.specs.Frame.{IsPlaced, IsSoundUnit, IsSoundCall, AreSound, IsSmashedCell, OthersKept, Changes, RunsChangeOnlySmashed, RunsWithoutSmashingChangeNothing}
use Rattle.fort_laws.proofs.FrameClaims.{RunFrame, CallFrame}
use Rattle.fort_laws.proofs.FrameParts.{IsOpen}
use Rattle.fort_laws.proofs.FrameRuns.{run_frame}
use Rattle.fort_laws.proofs.FrameSeats.{old_cells, at_fit, inner, begun, long, same_below, new_at, Seated, Place, old, new, place_of, old_of, old_within, Root, common, dummy, root, actual_open, smashed_open, shared_below, inside_by, callee_apart, callee_shapes}
use Rattle.fort_laws.proofs.StorageLaws.{width, widths, widths_apart, length-new_cells, copy_holds, at_passed, length-written_back, load-written_back, copies_hold}
use Rattle.step_laws.proofs.Tied.{at_most_or}

pub copy_of : (t : Bool) (x : Taken) (e : Extent) → passed_by t x ≡ ByCopy e → x ≡ Cells e
copy_of true (Cells f) e h = cc
copy_of false (Cells f) e h = absurd (cc)
copy_of true (Fresh v) e h = absurd (cc)
copy_of false (Fresh v) e h = absurd (cc)

-- a unit smashes some dummy or COMMON entity of it
pub record SmashesSome (units : List Routine) (j : ℕ) (g : Routine) : Type 0 where
  pub its : DataName
  pub visible : IsVisible g its
  pub smashed : Smashes units j its.name

module _ (units : List Routine) (i j : ℕ) (c : Calls units i j) (of_caller : IsSoundUnit units i c.caller) (of_callee : IsSoundUnit units j c.callee) (of_call : IsSoundCall c)
    (env : Environment) (st : Storage) (placed : IsPlaced units i c.caller env st) (copies : ℕ → Bool) (xs : List Taken)
    (fit : AreTakenAs env (IsPart c.caller env) c.site.actuals xs) where
  abbrev pub passes : List Passed
  passes = passed copies 1 xs

  abbrev pub seats_in : Environment
  seats_in x = inner units i j c of_caller of_callee of_call env st placed copies xs fit x

  abbrev pub start : Storage
  start = begun units i j c of_caller of_callee of_call env st placed copies xs fit

  -- the cells that the call may change
  abbrev pub MayChange : ℕ → Type 0
  MayChange k = IsOpen units i c.caller env k × SmashesSome units j c.callee

  start_long : length start ≡ length st + length (new_cells st passes)
  start_long = long units i j c of_caller of_callee of_call env st placed copies xs fit

  -- some cells, among which are those of names that the called unit smashes, and of their actuals
  module _ (May : ℕ → Type 0)
      (may_smashed : (d : DataName) → IsVisible c.callee d → Smashes units j d.name → (k : ℕ) → k < length st → IsIn k (seats_in d.name) → May k)
      (may_actual : (d : DataName) → IsVisible c.callee d → (t : Seated units i j c of_caller of_callee of_call env st placed copies xs fit d.name) → Smashes units j d.name
      → (e : Extent) → t.taken ≡ Cells e → (k : ℕ) → IsIn k e → May k)
      (after : Storage) (kept : OthersKept (IsSmashedCell units j c.callee seats_in) start after) (k : ℕ) (lt : k < length st) (closed : May k → ⊥) where
    -- an old cell of no name that the calling unit smashes
    still : load after k ≡ load st k
    still =
        kept k (let l = start_long in omega arith) (λ s. closed (may_smashed s.its s.visible s.smashed k lt s.cell))
        ∙ same_below units i j c of_caller of_callee of_call env st placed copies xs fit k lt

    module _ (n : ℕ) (e : Extent) (is : slice_get passes n ≡ Some (ByCopy e)) (inside : IsIn k e) where
      is_cells : slice_get xs n ≡ Some (Cells e)
      is_cells = let p = at_passed copies 1 xs n (ByCopy e) is in p.1 ∙ ap Some (copy_of (copies (1 + n)) p.0 e p.2)

      -- the cell of its copy
      abbrev copied : ℕ
      copied = length st + widths passes n + (k - e.first)

      copied_in : copied < length start
      copied_in = let w = length-new_cells st passes n (ByCopy e) is in let l = start_long in let a = inside.0 in let b = inside.1 in omega arith

      same_taken : (x y : Taken) → Some x ≡ Some y → x ≡ y
      same_taken x y h = cc

      -- a smashed dummy is not the one of this copy, and its new cells lie apart
      copied_closed : IsSmashedCell units j c.callee seats_in copied → ⊥
      copied_closed s = by_root (root units i j c of_caller of_callee of_call env st placed copies xs fit s.its s.visible)
        where
          by_order : (t : Seated units i j c of_caller of_callee of_call env st placed copies xs fit s.its.name) (y : Passed) → slice_get passes t.at ≡ Some y
              → seats_in s.its.name ≡ record { first = length st + widths passes t.at; size = width y } → (t.at < n) ⊎ (n ≤ t.at) → (n < t.at) ⊎ (t.at ≤ n) → ⊥
          by_order t y q p (inl l) g = let w = widths_apart passes t.at n y q l in let r = (inside_by units i j c of_caller of_callee of_call env st placed copies xs fit copied _ _ p s.cell).1 in absurd (omega arith)
          by_order t y q p (inr l) (inl g) =
              let w = widths_apart passes n t.at (ByCopy e) is g in let r = (inside_by units i j c of_caller of_callee of_call env st placed copies xs fit copied _ _ p s.cell).0 in let a = inside.0 in let b = inside.1 in absurd (omega arith)
          by_order t y q p (inr l) (inr g) =
              let at : n ≡ t.at = omega arith in
              let taken : t.taken ≡ Cells e = same_taken t.taken (Cells e) (sym t.is_taken ∙ (ap (slice_get xs) (sym at) ∙ is_cells)) in
              closed (may_actual s.its s.visible t s.smashed e taken k inside)

          by_place : (t : Seated units i j c of_caller of_callee of_call env st placed copies xs fit s.its.name) → Place units i j c of_caller of_callee of_call env st placed copies xs fit s.its.name t → ⊥
          by_place t (old f q p) =
              let w = old_within units i j c of_caller of_callee of_call env st placed copies xs fit t.actual f (old_of units i j c of_caller of_callee of_call env st placed copies xs fit s.its.name t f q) in
              let r = (inside_by units i j c of_caller of_callee of_call env st placed copies xs fit copied _ _ p s.cell).1 in absurd (omega arith)
          by_place t (new y q p) = by_order t y q p (at_most_or t.at n) (at_most_or n t.at)

          by_root : Root units i j c of_caller of_callee of_call env st placed copies xs fit s.its → ⊥
          by_root (common r t) = let l = shared_below units i j c of_caller of_callee of_call env st placed copies xs fit s.its t copied s.cell in absurd (omega arith)
          by_root (dummy r t agree) = by_place t (place_of units i j c of_caller of_callee of_call env st placed copies xs fit s.its.name t)

      -- the copy still holds what the cell does
      copied_same : load after copied ≡ load after k
      copied_same =
          let a = inside.0 in let b = inside.1 in
          let where_new : copied ≡ length st + (widths passes n + (k - e.first)) = omega arith in
          let where_old : e.first + (k - e.first) ≡ k = omega arith in
          kept copied copied_in copied_closed
          ∙ (ap (load start) where_new
          ∙ (new_at units i j c of_caller of_callee of_call env st placed copies xs fit (widths passes n + (k - e.first))
          ∙ (copy_holds st passes n e (k - e.first) is (omega arith) ∙ (ap (load st) where_old ∙ sym still))))

    copy_within : (n : ℕ) (e : Extent) → slice_get passes n ≡ Some (ByCopy e) → e.first + e.size ≤ length st
    copy_within n e is =
        let p = at_passed copies 1 xs n (ByCopy e) is in
        let cells : slice_get xs n ≡ Some (Cells e) = p.1 ∙ ap Some (copy_of (copies (1 + n)) p.0 e p.2) in
        let a = at_fit env (IsPart c.caller env) c.site.actuals xs n (Cells e) fit cells in
        old_within units i j c of_caller of_callee of_call env st placed copies xs fit a.0 e
        (old_cells c.caller env a.0 e (λ x q. of_call.names n x (a.1 ∙ ap Some q)) a.2)

    back_same : length after ≡ length start → load (written_back passes (length st) after) k ≡ load st k
    back_same same_long =
        load-written_back (length st) k passes (length st) after (let l = start_long in omega arith) (omega arith)
        (copies_hold (length st) k after passes (length st) (λ n e is. (copy_within n e is, copied_same n e is)))
        ∙ still

  module _ (May : ℕ → Type 0)
      (may_smashed : (d : DataName) → IsVisible c.callee d → Smashes units j d.name → (k : ℕ) → k < length st → IsIn k (seats_in d.name) → May k)
      (may_actual : (d : DataName) → IsVisible c.callee d → (t : Seated units i j c of_caller of_callee of_call env st placed copies xs fit d.name) → Smashes units j d.name
      → (e : Extent) → t.taken ≡ Cells e → (k : ℕ) → IsIn k e → May k) where
    pub call_changes_only : (o : Outcome Cell) → Changes (IsSmashedCell units j c.callee seats_in) start o
        → Changes May st (and_then o (λ v after left. Ended v (take (length st) (written_back passes (length st) after)) left))
    call_changes_only (Ended v after left) h = (
      length-take-le (length st) (written_back passes (length st) after) (let a = length-written_back passes (length st) after in let b = h.0 in let l = start_long in omega arith),
      λ k lt closed. get_or-take (length st) (written_back passes (length st) after) k Undefined lt ∙ back_same May may_smashed may_actual after h.1 k lt closed h.0,
    )
    call_changes_only (Erred kind card after) h = (let a = h.0 in let l = start_long in omega arith, λ k lt closed. still May may_smashed may_actual after h.1 k lt closed)
    call_changes_only (Running after) h = (let a = h.0 in let l = start_long in omega arith, λ k lt closed. still May may_smashed may_actual after h.1 k lt closed)

  pub call_changes : (o : Outcome Cell) → Changes (IsSmashedCell units j c.callee seats_in) start o
      → Changes MayChange st (and_then o (λ v after left. Ended v (take (length st) (written_back passes (length st) after)) left))
  call_changes = call_changes_only MayChange
      (λ d v s k lt inside. (smashed_open units i j c of_caller of_callee of_call env st placed copies xs fit d v s k lt inside, record { its = d; visible = v; smashed = s }))
      (λ d v t s e taken k inside. (actual_open units i j c of_caller of_callee of_call env st placed copies xs fit d.name t s e taken k inside, record { its = d; visible = v; smashed = s }))

-- what may change fewer cells may change more
widened : (May More : ℕ → Type 0) (st : Storage) (o : Outcome Cell) → ((k : ℕ) → May k → More k) → Changes May st o → Changes More st o
widened May More st (Ended v after left) f h = (h.0, λ k lt closed. h.1 k lt (λ m. closed (f k m)))
widened May More st (Erred kind card after) f h = (h.0, λ k lt closed. h.1 k lt (λ m. closed (f k m)))
widened May More st (Running after) f h = (h.0, λ k lt closed. h.1 k lt (λ m. closed (f k m)))

module _ (units : List Routine) (sound : AreSound units) (p : Processor) where
  pub call_frame : (fuel : ℕ) → RunFrame units p fuel → CallFrame units p fuel
  call_frame fuel runs i u env st is placed site called copies xs fit n = by_number (callee_of units site) refl
    where
      nothing : Changes (IsOpen units i u env) st (Running st)
      nothing = (omega arith, λ k lt closed. refl)

      by_unit : (j : ℕ) → callee_of units site ≡ Some j → (o : Option Routine) → slice_get units j ≡ o → Changes (IsOpen units i u env) st (call (run_within p units fuel) env o (passed copies 1 xs) st n)
      by_unit j q None e = nothing
      by_unit j q (Some g) e =
          let c : Calls units i j = record { caller = u; callee = g; is_caller = is; is_callee = e; line = called.line; is_line = called.is_line; site = site; is_site = called.is_site; is_of = q } in
          widened _ _ st _ (λ k m. m.0) (call_changes units i j c (sound.units_are i u is) (sound.units_are j g e) (sound.calls_are i j c) env st placed copies xs fit _
          (runs j g _ _ n e (callee_apart units i j c (sound.units_are i u is) (sound.units_are j g e) (sound.calls_are i j c) env st placed copies xs fit)
          (callee_shapes units i j c (sound.units_are i u is) (sound.units_are j g e) (sound.calls_are i j c) env st placed copies xs fit)))

      by_number : (o : Option ℕ) → callee_of units site ≡ o → Changes (IsOpen units i u env) st (call (run_within p units fuel) env (unit_at units o) (passed copies 1 xs) st n)
      by_number None q = nothing
      by_number (Some j) q = by_unit j q (slice_get units j) refl

pub runs_change_only_smashed : RunsChangeOnlySmashed
runs_change_only_smashed units sound p i u env st n is apart shapes = run_frame units sound p (call_frame units sound p) i u env st n is apart shapes

pub runs_without_smashing_change_nothing : RunsWithoutSmashingChangeNothing
runs_without_smashing_change_nothing units sound p i u env st n is shapes none_smashed v after left e =
    let h : Changes (IsSmashedCell units i u env) st (Ended v after left) =
    subst (λ (o : Outcome Cell). Changes (IsSmashedCell units i u env) st o) e (runs_change_only_smashed units sound p i u env st n is (λ d f x y s. absurd (none_smashed d x s)) shapes) in
    ext_get_or Undefined after st h.0 (λ k lt. h.1 k (let l = h.0 in omega arith) (λ s. none_smashed s.its s.visible s.smashed))
