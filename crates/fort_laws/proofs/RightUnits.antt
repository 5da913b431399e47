-- A unit whose paths are safe ends well, where the units that it calls do.
use Rattle.std.proofs.Common.{◌≡◌, ℕ, suc, ◌+◌, Bool, true, false, cond, not, List, [], ◌∷◌, length, take, Option, Some, None, slice_get, refl, sym, ap, ◌∙◌, subst, arith, get_or-take}
use Rattle.std.specs.List.{list_all}
use Rattle.std.specs.Prelude.{is_some}
use Rattle.fort_syntax.specs.Names.{data_name, is_function, is_own, has_role, is_local}
use Rattle.formula.specs.declared.value.Cell.{Cell}
use Rattle.formula.specs.declared.value.Cell.TheVariants as cell
use Rattle.formula.specs.declared.value.Value.{Value}
use Rattle.formula.specs.Values as value
use Rattle.formula.specs.Values.{holds, of_cell}
use Rattle.fort_syntax.specs.declared.name.Name.{Name}
use Rattle.fort_syntax.specs.declared.condition.Kind.{Kind}
use Rattle.fort_syntax.specs.declared.dialect.Sort.{Sort}
use Rattle.fort_syntax.specs.declared.unit.DataName.{DataName}
use Rattle.fort_syntax.specs.declared.unit.Role.{Role}
use Rattle.fort_syntax.specs.declared.unit.Role.TheVariants.{Dummy, InCommon, OwnValue, Local}
use Rattle.fort_syntax.specs.declared.unit.Unit.{Unit as Routine}
use Rattle.fort_model.specs.Cells.{is_defined}
use Rattle.fort_model.specs.Correct.{held_in, held_by, held_as, names_hold, IsMet}
use Rattle.fort_model.specs.Events.{checks}
use Rattle.fort_model.specs.Fits.{IsVisible, IsApart, Fits, has_sort}
use Rattle.fort_model.specs.Fitting.{FitsUnit, is_visible_role, has_entry}
use Rattle.formula.specs.Substitution.{is_bound}
use Rattle.fort_model.specs.Lists.{IsAmong}
use Rattle.fort_model.specs.Outcome.{Outcome, Ended, and_then}
use Rattle.fort_model.specs.Processor.{Processor}
use Rattle.fort_model.specs.Program.{Program, notes_of}
use Rattle.fort_model.specs.Run.{run, own_value, leave}
use Rattle.fort_model.specs.Storage.{Storage, Environment, load}
use Rattle.fort_model.specs.Walk.{at_entry}
use Rattle.fort_laws.specs.CallLaw.{at_home, HasNames, HoldsName, EndsRight}
use Rattle.fort_laws.specs.Frame.{IsSoundUnit}
use Rattle.fort_laws.specs.Matches.{AllTrue}
use Rattle.fort_laws.specs.UnitLaw.{SafeUnitsAreRight}
use Rattle.fort_laws.specs.WholeRuns.{ComesToEnd}
use Rattle.fort_laws.specs.Ways.{EndsByReturn}
use Rattle.fort_laws.proofs.CallEntry.{SameCells, held_same, alike_same}
use Rattle.fort_laws.proofs.CallNames.{data_name_is}
use Rattle.fort_laws.proofs.CallStood.{stood_named, stood_sorted, stood_size}
use Rattle.fort_laws.proofs.Entering.{own, begun, begun_placed, entry_values, w, entry_is, entry_stood, entry_true}
use Rattle.fort_laws.proofs.FittingNotes.{fit_notes}
use Rattle.fort_laws.proofs.FrameEnter.{visible_env}
use Rattle.fort_laws.proofs.FrameSeats.{clash}
use Rattle.fort_laws.proofs.SafeUnits.{safe_units_end}
use Rattle.fort_laws.proofs.Small.{both_hold, both_parts}
use Rattle.step_laws.proofs.Unfolding.{runs_unfold}

checked_all : (kind : Kind) (card : ℕ) (vs : List Value) → AllTrue (checks kind card vs) → list_all holds vs ≡ true
checked_all kind card [] h = refl
checked_all kind card (v ∷ vs) h = both_hold (holds v) (list_all holds vs) h.0 (checked_all kind card vs h.1)

module _ (program : Program) (p : Processor) (i : ℕ) (u : Routine) (sound : IsSoundUnit program.units i u) (names : HasNames u) (fitting : FitsUnit u (notes_of program i)) (returns : EndsByReturn program.dialect u)
    (some : slice_get u.lines 0 ≡ None → ⊥) (env : Environment) (st : Storage) (apart : IsApart program.units i u env) (fits : Fits p u env st)
    (r : ComesToEnd program.functions (entry_values program p i u sound env st apart fits) program i (at_home p program u (own program p i u sound env st apart fits)) 0 (begun program p i u sound env st apart fits)) where
  abbrev here : Environment
  here x = own program p i u sound env st apart fits x

  -- the storage and the value that the unit leaves
  abbrev final : Storage
  final = take (length st) r.after

  abbrev result : Cell
  result = own_value u here r.after

  runs : (n : ℕ) → run p program.units u env st (suc r.cost + n) ≡ Ended result final n
  runs n =
      let z : suc r.cost + n ≡ suc (r.cost + n) = omega arith in
      ap (run p program.units u env st) z
      ∙ ((runs_unfold p program.units u env st (suc (r.cost + n))).0
      ∙ ap (λ (o : Outcome (Unit {0})). and_then o (λ _. leave u here (length st))) (r.ends n))

  -- a visible name has the cells that it had
  visible_cells : (d : DataName) → IsAmong d u.names → is_own d.role ≡ false → SameCells r.after final (here d.name) (env d.name)
  visible_cells d m v =
      let within = (fits.shapes d (record { among = m; not_own = v })).within in
      subst (λ (e : _). SameCells r.after final e (env d.name)) (sym (visible_env program.units i u sound env st apart fits.shapes d m v))
      (record { size = refl; cells = λ k lt. sym (get_or-take (length st) r.after ((env d.name).first + k) cell.Undefined (omega arith)) })

  named : (d : DataName) → IsAmong d u.names → r.now d.name ≡ held_in d.dims r.after (here d.name)
  named = stood_named program.units i u sound p here r.after r.now r.stood

  ends_sorted : (d : DataName) → IsVisible u d → HoldsName p env final d
  ends_sorted d v k lt =
      let same = visible_cells d v.among v.not_own in
      let z = same.size in
      ap (has_sort p d.sort) (sym (same.cells k lt)) ∙ stood_sorted program.units i u sound p here r.after r.now r.stood d v.among k (omega arith)

  visible_ends : (d : DataName) → IsAmong d u.names → is_own d.role ≡ false → r.now d.name ≡ held_in d.dims final (env d.name)
  visible_ends d m v =
      let same = visible_cells d m v in
      let one = (stood_size program.units i u sound p here r.after r.now r.stood d m).0 in
      named d m ∙ held_same d.dims d.dims r.after final (here d.name) (env d.name) (alike_same d.dims d.dims refl) (let z = same.size in omega arith) same

  -- the value of a FUNCTION is that of its own name
  is_result : is_function u ≡ true → result ≡ load r.after (here u.name).first
  is_result f = ap (λ (b : Bool). cond b (load r.after (here u.name).first) cell.Undefined) f

  own_ends : (d : DataName) → IsAmong d u.names → d.role ≡ OwnValue → r.now d.name ≡ of_cell result
  own_ends d m q =
      let o = names.own d m q in
      named d m ∙ (ap (λ (ds : List _). held_in ds r.after (here d.name)) o.2
      ∙ (ap (λ (x : Name). of_cell (load r.after (here x).first)) o.0 ∙ ap of_cell (sym (is_result (ap is_some o.1)))))

  visible_by : (r : Role) (dims : List _) (st : Storage) (e : _) (own : Cell) → is_own r ≡ false → held_by r dims st e own ≡ held_in dims st e
  visible_by Dummy dims st e own h = refl
  visible_by InCommon dims st e own h = refl
  visible_by OwnValue dims st e own h = absurd (cc)
  visible_by Local dims st e own h = absurd (cc)

  -- what names of OUTPUT stand for
  now_is : (x : Name) → has_role (λ role. not (is_local role)) (data_name u x) ≡ true → r.now x ≡ names_hold u env final result x
  now_is x h = by_data (data_name u x) refl
    where
      by_role : (d : DataName) → IsAmong d u.names → (q : Role) → d.role ≡ q → not (is_local q) ≡ true → r.now d.name ≡ held_by d.role d.dims final (env d.name) result
      by_role d m Dummy q t = visible_ends d m (ap is_own q) ∙ sym (visible_by d.role d.dims final (env d.name) result (ap is_own q))
      by_role d m InCommon q t = visible_ends d m (ap is_own q) ∙ sym (visible_by d.role d.dims final (env d.name) result (ap is_own q))
      by_role d m OwnValue q t = own_ends d m q ∙ sym (ap (λ (z : Role). held_by z d.dims final (env d.name) result) q)
      by_role d m Local q t = absurd (cc)

      by_data : (o : Option DataName) → data_name u x ≡ o → r.now x ≡ names_hold u env final result x
      by_data None e = absurd (clash (has_role (λ role. not (is_local role)) (data_name u x)) h (ap (has_role (λ role. not (is_local role))) e))
      by_data (Some d) e =
          let k = data_name_is u.names x d e in
          subst (λ (z : Name). r.now z ≡ held_as (Some d) final (env z) result) k.1
          (by_role d k.0 d.role refl (sym (ap (has_role (λ role. not (is_local role))) e) ∙ h))
          ∙ sym (ap (λ (o : Option DataName). held_as o final (env x) result) e)

  entry_then : (x : Name) → has_entry u x ≡ true → at_entry (w program p i u sound env st apart fits) x ≡ names_hold u env st cell.Undefined x
  entry_then x h = entry_is program p i u sound env st apart fits x (both_parts (not (is_bound x)) (has_role is_visible_role (data_name u x)) h).1

  output_met : IsMet program.functions p (names_hold u env st cell.Undefined) (names_hold u env final result) (notes_of program i).output
  output_met =
      ap (list_all holds) (sym (fit_notes program.functions (entry_values program p i u sound env st apart fits) p refl refl u (λ role. not (is_local role)) (has_entry u)
      (at_entry (w program p i u sound env st apart fits)) (names_hold u env st cell.Undefined) r.now (names_hold u env final result) now_is entry_then (notes_of program i).output fitting.output))
      ∙ checked_all _ r.card _ r.met

  result_right : (q : Sort) → u.sort ≡ Some q → (is_defined result ≡ true) × (has_sort p q result ≡ true)
  result_right q e =
      let f : is_function u ≡ true = ap is_some e in
      let d = names.function f in
      let o = names.own d.0 d.1 d.3 in
      let same : d.0.sort ≡ q = same_some d.0.sort q (sym o.1 ∙ e) in
      let one = (stood_size program.units i u sound p here r.after r.now r.stood d.0 d.1).0 in
      let z : (here d.0.name).first + 0 ≡ (here d.0.name).first = omega arith in (
        sym (ap value.is_defined (ap r.now (sym d.2) ∙ own_ends d.0 d.1 d.3)) ∙ r.value some returns f,
        ap (has_sort p q) (is_result f ∙ (ap (λ (x : Name). load r.after (here x).first) (sym d.2) ∙ ap (load r.after) (sym z)))
            ∙ subst (λ (s : Sort). has_sort p s (load r.after ((here d.0.name).first + 0)) ≡ true) same (stood_sorted program.units i u sound p here r.after r.now r.stood d.0 d.1 0 one),
      )
    where
      same_some : (a b : Sort) → Some a ≡ Some b → a ≡ b
      same_some a b h = cc

  pub ends_right : EndsRight p program i u env st
  ends_right = record {
    cost = suc r.cost;
    after = final;
    value = result;
    ends = runs;
    sorts = ends_sorted;
    result = result_right;
    nothing = λ f. ap (λ (b : Bool). cond b (load r.after (here u.name).first) cell.Undefined) f;
    met = output_met;
  }

pub safe_units_are_right : SafeUnitsAreRight
safe_units_are_right program p i u strict bounded dialects is sound table blocks harmless names common fitting returns some right good cut parts clocks safe env st apart fits met =
    let unit = sound.units_are i u is in
    ends_right program p i u unit names fitting returns some env st apart fits
    (safe_units_end (entry_values program p i u unit env st apart fits) program p i u (own program p i u unit env st apart fits) refl refl strict bounded dialects is sound table blocks harmless common right
    (begun_placed program p i u unit env st apart fits).apart
    (good (own program p i u unit env st apart fits) (begun_placed program p i u unit env st apart fits).apart) cut parts clocks safe
    (begun program p i u unit env st apart fits) (entry_true program p i u unit env st apart fits bounded fitting met) (entry_stood program p i u unit env st apart fits))
