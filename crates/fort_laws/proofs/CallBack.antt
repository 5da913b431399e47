-- What the cells of smashed names hold after a call.
use Rattle.std.proofs.Common.{◌≡◌, ◌≢◌, ℕ, zero, suc, ◌+◌, ◌-◌, ◌<◌, ◌≤◌, ◌⊎◌, inl, inr, Bool, true, false, List, [], ◌∷◌, length, take, Some, slice_get, refl, sym, ap, ◌∙◌, subst, arith, length-append, get_or-take}
use Rattle.formula.specs.declared.value.Cell.TheVariants.{Undefined}
use Rattle.fort_syntax.specs.declared.name.Name.{Name}
use Rattle.fort_syntax.specs.declared.expr.Expr.{Expr}
use Rattle.fort_syntax.specs.declared.unit.DataName.{DataName}
use Rattle.fort_syntax.specs.declared.unit.Role.TheVariants.{InCommon}
use Rattle.fort_syntax.specs.declared.unit.Unit.{Unit as Routine}
use Rattle.fort_model.specs.Arguments.{mentions}
use Rattle.fort_model.specs.Calls.{Calls}
use Rattle.fort_model.specs.Fits.{IsIn, IsVisible}
use Rattle.fort_model.specs.Passing.{Taken, Cells, Passed, ByReference, ByCopy, ByValue, new_cells, passed_by, passed, written_back}
use Rattle.fort_model.specs.Smashes.{Smashes}
use Rattle.fort_model.specs.Storage.{Storage, Extent, Environment, load, contents, write}
use Rattle.fort_laws.specs.Actuals.{IsPart, IsTakenAs, AreTakenAs}
use Rattle.fort_laws.specs.Frame.{IsPlaced, IsSoundUnit, IsSoundCall, IsSmashedCell, OthersKept}
use Rattle.fort_laws.proofs.CallEntry.{SameCells, inside, start, Seat}
use Rattle.fort_laws.proofs.FrameCalls.{copy_of}
use Rattle.fort_laws.proofs.FrameSeats.{IsOld, old_cells, at_fit, old_within, old_inside, clash, is_common, Shared, shared_smashed, Bare, bare, callee_apart, callee_shapes}
use Rattle.fort_laws.proofs.StorageLaws.{widths, seat, at_passed, length-contents, load-contents, length-write, load-write_at, load-write_past, load-written_back, copies_hold}
use Rattle.fort_laws.proofs.Written.{equal_or_not}

-- a cell that one copy alone is written back to
pub written_one : (long k : ℕ) (xs : List Passed) (next : ℕ) (st : Storage) (n : ℕ) (e : Extent) → k < length st → long ≤ next → slice_get xs n ≡ Some (ByCopy e) → IsIn k e
    → ((m : ℕ) (f : Extent) → slice_get xs m ≡ Some (ByCopy f) → f.first + f.size ≤ long) → ((m : ℕ) (f : Extent) → slice_get xs m ≡ Some (ByCopy f) → IsIn k f → m ≡ n)
    → load (written_back xs next st) k ≡ load st (next + widths xs n + (k - e.first))
written_one long k [] next st n e lt le is inside within only = absurd (cc)
written_one long k (ByReference f ∷ xs) next st zero e lt le is inside within only = absurd (cc)
written_one long k (ByReference f ∷ xs) next st (suc n) e lt le is inside within only =
    written_one long k xs next st n e lt le is inside (λ m g h. within (suc m) g h) (λ m g h x. let q = only (suc m) g h x in omega (arith, q))
written_one long k (ByValue c ∷ xs) next st zero e lt le is inside within only = absurd (cc)
written_one long k (ByValue c ∷ xs) next st (suc n) e lt le is inside within only =
    let z : next + 1 + widths xs n + (k - e.first) ≡ next + suc (widths xs n) + (k - e.first) = omega arith in
    written_one long k xs (next + 1) st n e lt (omega arith) is inside (λ m g h. within (suc m) g h) (λ m g h x. let q = only (suc m) g h x in omega (arith, q)) ∙ ap (load st) z
written_one long k (ByCopy f ∷ xs) next st zero e lt le is inside within only =
    let q : f ≡ e = cc in
    let size : length (contents st next f.size) ≡ f.size = length-contents st next f.size in
    let low : f.first ≤ k = subst (λ (z : Extent). z.first ≤ k) (sym q) inside.0 in
    let high : k < f.first + f.size = subst (λ (z : Extent). k < z.first + z.size) (sym q) inside.1 in
    let at : k ≡ f.first + (k - f.first) = omega arith in
    load-written_back long k xs (next + f.size) (write (contents st next f.size) f.first st) (let l = length-write (contents st next f.size) f.first st in omega arith) (omega arith)
    (copies_hold long k _ xs (next + f.size) (λ m g h. (within (suc m) g h, λ x. let r = only (suc m) g h x in absurd (omega (arith, r)))))
    ∙ (ap (load (write (contents st next f.size) f.first st)) at
    ∙ (load-write_at (contents st next f.size) f.first (k - f.first) st (omega arith) (omega arith)
    ∙ (load-contents st next f.size (k - f.first) (omega arith)
    ∙ ap (load st) (let z : next + (k - f.first) ≡ next + 0 + (k - f.first) = omega arith in z ∙ ap (λ (y : Extent). next + 0 + (k - y.first)) q))))
written_one long k (ByCopy f ∷ xs) next st (suc n) e lt le is inside within only =
    let z : next + f.size + widths xs n + (k - e.first) ≡ next + (f.size + widths xs n) + (k - e.first) = omega arith in
    let size : length (contents st next f.size) ≡ f.size = length-contents st next f.size in
    let fits = within 0 f refl in
    written_one long k xs (next + f.size) (write (contents st next f.size) f.first st) n e (let l = length-write (contents st next f.size) f.first st in omega arith) (omega arith) is inside
    (λ m g h. within (suc m) g h) (λ m g h x. let q = only (suc m) g h x in omega (arith, q))
    ∙ (load-write_past (contents st next f.size) f.first (next + f.size + widths xs n + (k - e.first)) st (omega arith) ∙ ap (load st) z)

module _ (units : List Routine) (i j : ℕ) (c : Calls units i j) (of_caller : IsSoundUnit units i c.caller) (of_callee : IsSoundUnit units j c.callee) (of_call : IsSoundCall c)
    (env : Environment) (st : Storage) (placed : IsPlaced units i c.caller env st) (copies : ℕ → Bool) (xs : List Taken)
    (fit : AreTakenAs env (IsPart c.caller env) c.site.actuals xs) (after : Storage)
    (long : length after ≡ length (start units i j c of_caller of_callee of_call env st placed copies xs fit)) where
  abbrev passes : List Passed
  passes = passed copies 1 xs

  abbrev inner : Environment
  inner x = inside units i j c of_caller of_callee of_call env st placed copies xs fit x

  -- the storage that the call leaves
  abbrev pub final : Storage
  final = take (length st) (written_back passes (length st) after)

  -- the name of whose cells a copy is written back
  copy_old : (m : ℕ) (f : Extent) → slice_get passes m ≡ Some (ByCopy f) → (a : Expr) × (slice_get c.site.actuals m ≡ Some a) × IsOld c.caller env a f
  copy_old m f is =
      let p = at_passed copies 1 xs m (ByCopy f) is in
      let cells : slice_get xs m ≡ Some (Cells f) = p.1 ∙ ap Some (copy_of (copies (1 + m)) p.0 f p.2) in
      let a = at_fit env (IsPart c.caller env) c.site.actuals xs m (Cells f) fit cells in
      (a.0, a.1, old_cells c.caller env a.0 f (λ x q. of_call.names m x (a.1 ∙ ap Some q)) a.2)

  copy_within : (m : ℕ) (f : Extent) → slice_get passes m ≡ Some (ByCopy f) → f.first + f.size ≤ length st
  copy_within m f is = let o = copy_old m f is in old_within units i j c of_caller of_callee of_call env st placed copies xs fit o.0 f o.2

  more : length st ≤ length after
  more = let a = length-append st (new_cells st passes) in let b = long in omega arith

  final_load : (k : ℕ) → k < length st → load final k ≡ load (written_back passes (length st) after) k
  final_load k lt = get_or-take (length st) (written_back passes (length st) after) k Undefined lt

  -- no copy is written back to a cell
  untouched : (k : ℕ) → k < length st → ((m : ℕ) (f : Extent) → slice_get passes m ≡ Some (ByCopy f) → IsIn k f → ⊥) → load final k ≡ load after k
  untouched k lt none =
      final_load k lt ∙ load-written_back (length st) k passes (length st) after (let l = more in omega arith) (omega arith)
      (copies_hold (length st) k after passes (length st) (λ m f is. (copy_within m f is, λ x. absurd (none m f is x))))

  -- ---- a smashed COMMON entity

  shared_alone : (d : DataName) → IsVisible c.callee d → d.role ≡ InCommon → (s : Shared units i j c of_caller of_callee of_call env st placed copies xs fit d) → Smashes units j d.name
      → (k : ℕ) → IsIn k (env s.its.name) → (m : ℕ) (f : Extent) → slice_get passes m ≡ Some (ByCopy f) → IsIn k f → ⊥
  shared_alone d v r s h k here m f is there =
      let a = copy_old m f is in
      let o : IsOld c.caller env a.0 f = a.2 in
      let not_there : mentions a.0 d.name ≡ false = of_call.smashed.no_common m d.name a.0 (is_common units j c.callee of_callee d v.among d.name refl r) h a.1 in
      placed.apart s.its o.its s.among o.among (shared_smashed units i j c of_caller of_callee of_call env st placed copies xs fit d v.among r s h)
      (λ same_names. clash (mentions a.0 d.name) (subst (λ (z : Name). mentions a.0 z ≡ true) (sym same_names ∙ s.name) o.mentioned) not_there) k
      here (old_inside units i j c of_caller of_callee of_call env st placed copies xs fit k a.0 f o there)

  pub shared_back : (d : DataName) → IsVisible c.callee d → d.role ≡ InCommon → (s : Shared units i j c of_caller of_callee of_call env st placed copies xs fit d) → Smashes units j d.name
      → SameCells final after (env s.its.name) (inner d.name)
  shared_back d v r s h =
      let same : env s.its.name ≡ inner d.name = ap env s.name ∙ sym s.place in
      let within = (placed.shapes s.its s.among).within in
      subst (λ (e : Extent). SameCells final after (env s.its.name) e) same (record {
        size = refl;
        cells = λ k lt. untouched ((env s.its.name).first + k) (omega arith) (λ m f is there. shared_alone d v r s h ((env s.its.name).first + k) (omega arith, omega arith) m f is there);
      })

  -- ---- a smashed dummy

  module _ (d : DataName) (v : IsVisible c.callee d) (t : Seat units i j c of_caller of_callee of_call env st placed copies xs fit d.name) (h : Smashes units j d.name) where
    abbrev its : Bare units i j c of_caller of_callee of_call env st placed copies xs fit d.name t
    its = bare units i j c of_caller of_callee of_call env st placed copies xs fit d.name t h

    -- another actual has none of its cells
    alone : (k : ℕ) → IsIn k (env its.has.its.name) → (m : ℕ) (f : Extent) → slice_get passes m ≡ Some (ByCopy f) → IsIn k f → m ≡ t.at
    alone k here m f is there = pick (equal_or_not m t.at)
      where
        pick : (m ≡ t.at) ⊎ (m ≢ t.at) → m ≡ t.at
        pick (inl e) = e
        pick (inr n) =
            let a = copy_old m f is in
            let o : IsOld c.caller env a.0 f = a.2 in
            let not_there : mentions a.0 its.name ≡ false = of_call.smashed.once m t.at d.name its.name a.0 n t.dummy h (t.is_actual ∙ ap Some its.is) a.1 in
            absurd (placed.apart its.has.its o.its its.has.among o.among its.smashed
            (λ same_names. clash (mentions a.0 its.name) (subst (λ (z : Name). mentions a.0 z ≡ true) (sym same_names ∙ its.has.name) o.mentioned) not_there) k
            here (old_inside units i j c of_caller of_callee of_call env st placed copies xs fit k a.0 f o there))

    is_taken : t.taken ≡ Cells (env its.has.its.name)
    is_taken = subst (λ (e : Expr). IsTakenAs env (IsPart c.caller env) e t.taken) its.is t.fits ∙ ap (λ (z : Name). Cells (env z)) (sym its.has.name)

    within : (env its.has.its.name).first + (env its.has.its.name).size ≤ length st
    within = (placed.shapes its.has.its its.has.among).within

    pub dummy_back : SameCells final after (env its.has.its.name) (inner d.name)
    dummy_back = subst (λ (e : Extent). SameCells final after (env its.has.its.name) e) (sym t.place) (subst (λ (y : Taken). SameCells final after (env its.has.its.name) (seat (passed_by (copies (1 + t.at)) y) (length st + widths passes t.at))) (sym is_taken) (by_way (copies (1 + t.at)) refl))
      where
        e : Extent
        e = env its.has.its.name

        is_passed : (b : Bool) → copies (1 + t.at) ≡ b → slice_get passes t.at ≡ Some (passed_by b (Cells e))
        is_passed b q = t.is_passed ∙ (ap (λ (y : Taken). Some (passed_by (copies (1 + t.at)) y)) is_taken ∙ ap (λ (z : Bool). Some (passed_by z (Cells e))) q)

        no_copy : (f : Extent) → Some (ByReference e) ≡ Some (ByCopy f) → ⊥
        no_copy f q = cc

        by_way : (b : Bool) → copies (1 + t.at) ≡ b → SameCells final after e (seat (passed_by b (Cells e)) (length st + widths passes t.at))
        by_way false q = record {
          size = refl;
          cells = λ k lt. let w = within in untouched (e.first + k) (omega arith) (λ m f is there.
              let m_is = alone (e.first + k) (omega arith, omega arith) m f is there in
              no_copy f (sym (is_passed false q) ∙ (ap (slice_get passes) (sym m_is) ∙ is)));
        }
        by_way true q = record {
          size = refl;
          cells = λ k lt.
              let w = within in
              let z : length st + widths passes t.at + (e.first + k - e.first) ≡ length st + widths passes t.at + k = omega arith in
              final_load (e.first + k) (omega arith)
              ∙ (written_one (length st) (e.first + k) passes (length st) after t.at e (let l = more in omega arith) (omega arith) (is_passed true q) (omega arith, omega arith) copy_within (alone (e.first + k) (omega arith, omega arith))
              ∙ ap (load after) z);
        }

  -- ---- a visible name that the called unit does not smash

  pub unsmashed_cells : OthersKept (IsSmashedCell units j c.callee inner) (start units i j c of_caller of_callee of_call env st placed copies xs fit) after
      → (d : DataName) → IsVisible c.callee d → (Smashes units j d.name → ⊥) → SameCells after (start units i j c of_caller of_callee of_call env st placed copies xs fit) (inner d.name) (inner d.name)
  unsmashed_cells kept d v n = record {
    size = refl;
    cells = λ k lt.
        let w = (callee_shapes units i j c of_caller of_callee of_call env st placed copies xs fit d v).within in
        kept ((inner d.name).first + k) (omega arith) (λ s.
        callee_apart units i j c of_caller of_callee of_call env st placed copies xs fit s.its d s.visible v s.smashed (λ q. n (subst (λ (z : Name). Smashes units j z) q s.smashed))
        ((inner d.name).first + k) s.cell (omega arith, omega arith));
  }
