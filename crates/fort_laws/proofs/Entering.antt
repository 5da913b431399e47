-- A unit that is entered: what its names stand for on a walk is what their cells hold, and what is taken at the entry is true.
use Rattle.std.proofs.Common.{◌≡◌, ℕ, zero, suc, ◌+◌, ◌-◌, ◌<◌, ◌≤◌, ◌⊎◌, inl, inr, Bool, true, false, cond, not, ℤ, pos, neg_ℤ, List, [], ◌∷◌, ◌++◌, sum, length, replicate, Option, Some, None, refl, sym, ap, ◌∙◌, subst, arith, get_or-append-add}
use Rattle.std.specs.List.{list_all, list_any}
use Rattle.std.specs.Prelude.{int_le}
use Rattle.formula.specs.Atoms.{same_bytes}
use Rattle.fort_syntax.specs.Names.{data_name, dims_of_data, is_own, has_role, commons}
use Rattle.formula.specs.declared.function.BuiltIn.TheVariants.{Defined}
use Rattle.formula.specs.declared.value.Cell.{Cell}
use Rattle.formula.specs.declared.value.Cell.TheVariants as cell
use Rattle.formula.specs.declared.value.Value.{Value}
use Rattle.formula.specs.declared.value.Value.TheVariants.{Int, Undefined, Cells as CellList}
use Rattle.formula.specs.Values as value
use Rattle.formula.specs.Values.{holds, of_cell, count}
use Rattle.fort_syntax.specs.declared.name.Name.{Name}
use Rattle.fort_syntax.specs.declared.stmt.Dim.{Dim}
use Rattle.fort_syntax.specs.declared.stmt.Dim.TheVariants.{Fixed, Named as Adjustable}
use Rattle.fort_syntax.specs.declared.unit.DataName.{DataName}
use Rattle.fort_syntax.specs.declared.unit.Role.{Role}
use Rattle.fort_syntax.specs.declared.unit.Role.TheVariants.{Dummy, InCommon, OwnValue, Local}
use Rattle.fort_syntax.specs.declared.unit.Unit.{Unit as Routine}
use Rattle.fort_model.specs.Cells.{num, is_defined}
use Rattle.fort_model.specs.Correct.{held_in, held_by, held_as, names_hold, IsMet}
use Rattle.fort_model.specs.Events.{takes}
use Rattle.fort_model.specs.Fits.{IsApart, Fits, is_good_dim, is_positive, has_sort}
use Rattle.fort_model.specs.Fitting.{FitsUnit, is_visible_role, no_entry}
use Rattle.fort_model.specs.Lists.{IsAmong}
use Rattle.fort_model.specs.Places.{dim_values, stretch}
use Rattle.fort_model.specs.Processor.{Processor, MeetsBound}
use Rattle.fort_model.specs.Program.{Program, notes_of}
use Rattle.fort_model.specs.Run.{own_sizes}
use Rattle.fort_model.specs.Storage.{Storage, Extent, Environment, load, contents}
use Rattle.fort_model.specs.Symbols.{Symbol, LeastInteger, GreatestInteger, AtEntry, AtStart, ByCall}
use Rattle.fort_model.specs.Walk.{is_dim, is_some_dim, dim_dummies, dim_facts, entry_symbol, at_entry, entry_facts, bound_facts}
use Rattle.fort_model.specs.WalkCalls.{Sight}
use Rattle.fort_model.specs.WalkPlaces as walk
use Rattle.fort_laws.specs.CallLaw.{at_home}
use Rattle.fort_laws.specs.Frame.{IsPlaced, IsSoundUnit}
use Rattle.fort_laws.specs.GoodStatements.{Stood}
use Rattle.fort_laws.specs.Matches.{AllTrue}
use Rattle.fort_laws.specs.Segments.{seen}
use Rattle.fort_laws.specs.Standing.{MayBe}
use Rattle.fort_laws.proofs.CallEntry.{SameCells, held_same, alike_same}
use Rattle.fort_laws.proofs.CallMatched.{may_be, all_taken}
use Rattle.fort_laws.proofs.CallNames.{data_name_is}
use Rattle.fort_laws.proofs.CallSorts.{DimsStand, size_is}
use Rattle.fort_laws.proofs.CallStood.{stood_sorts}
use Rattle.fort_laws.proofs.FittingNotes.{fit_notes}
use Rattle.fort_laws.proofs.FrameEnter.{SameOrNot, same, other, same_or_not, own_env, entered, same_below, visible_env, own_place, own_or_not, entered_placed}
use Rattle.fort_laws.proofs.FrameParts.{one_cell}
use Rattle.fort_laws.proofs.FrameSeats.{clash, found}
use Rattle.fort_laws.proofs.InRange.{at_most}
use Rattle.fort_laws.proofs.Small.{both_parts, filter_passes, some_passes}

-- ---- cells

undefined_at : (n k : ℕ) → load (replicate n cell.Undefined) k ≡ cell.Undefined
undefined_at zero k = refl
undefined_at (suc n) zero = refl
undefined_at (suc n) (suc k) = undefined_at n k

undefined_contents : (st : Storage) (first n : ℕ) → ((k : ℕ) → first ≤ k → load st k ≡ cell.Undefined) → contents st first n ≡ replicate n cell.Undefined
undefined_contents st first zero h = refl
undefined_contents st first (suc n) h =
    ap (λ (c : Cell). c ∷ contents st (suc first) n) (h first (omega arith)) ∙ ap (λ (cs : List Cell). cell.Undefined ∷ cs) (undefined_contents st (suc first) n (λ k le. h k (omega arith)))

pub each_content : (test : Cell → Bool) (st : Storage) (a n k : ℕ) → list_all test (contents st a n) ≡ true → k < n → test (load st (a + k)) ≡ true
each_content test st a zero k h lt = absurd (omega arith)
each_content test st a (suc n) zero h lt =
    let z : a + 0 ≡ a = omega arith in
    ap (λ (j : ℕ). test (load st j)) z ∙ (both_parts (test (load st a)) (list_all test (contents st (suc a) n)) h).0
each_content test st a (suc n) (suc k) h lt =
    let z : a + suc k ≡ suc a + k = omega arith in
    ap (λ (j : ℕ). test (load st j)) z ∙ each_content test st (suc a) n k (both_parts (test (load st a)) (list_all test (contents st (suc a) n)) h).1 (omega arith)

takes_append : (xs ys : List Value) → AllTrue (takes xs) → AllTrue (takes ys) → AllTrue (takes (xs ++ ys))
takes_append [] ys h k = k
takes_append (x ∷ xs) ys h k = (h.0, takes_append xs ys h.1 k)

visible_held : (r : Role) (dims : List Dim) (st : Storage) (e : Extent) (own : Cell) → is_own r ≡ false → held_by r dims st e own ≡ held_in dims st e
visible_held Dummy dims st e own h = refl
visible_held InCommon dims st e own h = refl
visible_held OwnValue dims st e own h = absurd (cc)
visible_held Local dims st e own h = absurd (cc)

-- a dimension that is a number of at least 1
positive_cell : (c : Cell) → is_positive c ≡ true → (is_defined c ≡ true) × (int_le (pos 1) (num c) ≡ true)
positive_cell (cell.Int z) h = (refl, h)
positive_cell (cell.Logical b) h = absurd (cc)
positive_cell cell.Undefined h = absurd (cc)

dim_named : (x : Name) (d : Dim) → is_dim x d ≡ true → d ≡ Adjustable x
dim_named x (Fixed n) h = absurd (cc)
dim_named x (Adjustable y) h = pick (same_or_not x y)
  where
    pick : SameOrNot x y → Adjustable y ≡ Adjustable x
    pick (same e t) = ap Adjustable (sym e)
    pick (other n t) = absurd (clash (same_bytes x y) h t)

each_good : (env : Environment) (st : Storage) (ds : List Dim) (d : Dim) → list_all (is_good_dim env st) ds ≡ true → IsAmong d ds → is_good_dim env st d ≡ true
each_good env st [] d h m = absurd (cc)
each_good env st (b ∷ bs) d h (zero, e) =
    let f : b ≡ d = cc in ap (is_good_dim env st) (sym f) ∙ (both_parts (is_good_dim env st b) (list_all (is_good_dim env st) bs) h).0
each_good env st (b ∷ bs) d h (suc k, e) = each_good env st bs d (both_parts (is_good_dim env st b) (list_all (is_good_dim env st) bs) h).1 (k, e)

module _ (program : Program) (p : Processor) (i : ℕ) (u : Routine) (sound : IsSoundUnit program.units i u) (env : Environment) (st : Storage) (apart : IsApart program.units i u env) (fits : Fits p u env st) where
  -- the own environment and the storage behind the entry
  abbrev pub own : Environment
  own x = own_env program.units i u sound env st apart fits.shapes x

  abbrev pub begun : Storage
  begun = entered program.units i u sound env st apart fits.shapes

  pub begun_placed : IsPlaced program.units i u own begun
  begun_placed = entered_placed program.units i u sound env st apart fits.shapes

  -- what symbols stand for: the processor's bounds, and what names hold at the entry
  abbrev pub entry_values : Symbol → Value
  entry_values LeastInteger = Int p.least
  entry_values GreatestInteger = Int p.greatest
  entry_values (AtEntry x) = names_hold u env st cell.Undefined x
  entry_values (AtStart x) = Undefined
  entry_values (ByCall x k) = Undefined

  abbrev pub w : Sight Value
  w = seen program.functions entry_values program i (at_home p program u own)

  -- ---- what names stand for

  visible_same : (d : DataName) → IsAmong d u.names → is_own d.role ≡ false → SameCells begun st (own d.name) (env d.name)
  visible_same d m v =
      let within = (fits.shapes d (record { among = m; not_own = v })).within in
      subst (λ (e : Extent). SameCells begun st e (env d.name)) (sym (visible_env program.units i u sound env st apart fits.shapes d m v))
      (record { size = refl; cells = λ k lt. same_below program.units i u sound env st apart fits.shapes ((env d.name).first + k) (omega arith) })

  -- a visible name stands for what it held before
  pub entry_is : (x : Name) → has_role is_visible_role (data_name u x) ≡ true → at_entry w x ≡ names_hold u env st cell.Undefined x
  entry_is x h = by_data (data_name u x) refl
    where
      by_data : (o : Option DataName) → data_name u x ≡ o → at_entry w x ≡ names_hold u env st cell.Undefined x
      by_data None e = absurd (clash (has_role is_visible_role (data_name u x)) h (ap (has_role is_visible_role) e))
      by_data (Some d) e =
          ap (λ (o : Option DataName). cond (has_role is_own o) (walk.blank w.sense u (entry_symbol w) x) (entry_symbol w x)) e
          ∙ ap (λ (b : Bool). cond b (walk.blank w.sense u (entry_symbol w) x) (entry_symbol w x)) (not_own (is_own d.role) (sym (ap (has_role is_visible_role) e) ∙ h))
        where
          not_own : (b : Bool) → not b ≡ true → b ≡ false
          not_own true q = absurd (cc)
          not_own false q = refl

  visible_named : (d : DataName) → IsAmong d u.names → is_own d.role ≡ false → at_entry w d.name ≡ held_in d.dims begun (own d.name)
  visible_named d m v =
      let e : data_name u d.name ≡ Some d = found program.units i u sound d m d.name refl in
      let same = visible_same d m v in
      entry_is d.name (ap (has_role is_visible_role) e ∙ ap not v)
      ∙ (ap (λ (o : Option DataName). held_as o st (env d.name) cell.Undefined) e
      ∙ (visible_held d.role d.dims st (env d.name) cell.Undefined v
      ∙ sym (held_same d.dims d.dims begun st (own d.name) (env d.name) (alike_same d.dims d.dims refl)
      (let one = one_cell program.units i u sound own begun begun_placed d m in let s = same.size in omega arith) same)))

  new_undefined : (k : ℕ) → length st ≤ k → load begun k ≡ cell.Undefined
  new_undefined k le =
      let z : k ≡ length st + (k - length st) = omega arith in
      ap (load begun) z ∙ (get_or-append-add st (replicate (sum (own_sizes u env st)) cell.Undefined) (k - length st) cell.Undefined ∙ undefined_at (sum (own_sizes u env st)) (k - length st))

  own_low : (d : DataName) → IsAmong d u.names → is_own d.role ≡ true → length st ≤ (own d.name).first
  own_low d m o = (own_place program.units i u sound env st apart fits.shapes d m o).low

  own_undefined : (d : DataName) → IsAmong d u.names → is_own d.role ≡ true → (k : ℕ) → (own d.name).first ≤ k → load begun k ≡ cell.Undefined
  own_undefined d m o k le = let l = own_low d m o in new_undefined k (omega arith)

  own_fixed : (d : DataName) → IsAmong d u.names → is_own d.role ≡ true → DimsStand program.functions entry_values p refl refl program.units i u sound own begun (entry_symbol w) d.dims
  own_fixed d m o x k = absurd (clash (is_own d.role) o (ap is_own (sound.adjustables d x m k).array_is_dummy))

  own_blank : (d : DataName) → IsAmong d u.names → is_own d.role ≡ true → (ds : List Dim) → d.dims ≡ ds → walk.blank_by w.sense (entry_symbol w) ds ≡ held_in ds begun (own d.name)
  own_blank d m o [] e = ap of_cell (sym (own_undefined d m o (own d.name).first (omega arith)))
  own_blank d m o (b ∷ bs) e =
      let size : value.num (walk.size w.sense (entry_symbol w) (b ∷ bs)) ≡ pos (own d.name).size =
      size_is program.functions entry_values p refl refl program.units i u sound own begun (entry_symbol w) (b ∷ bs)
      (subst (DimsStand program.functions entry_values p refl refl program.units i u sound own begun (entry_symbol w)) e (own_fixed d m o))
      ∙ (ap (λ (ds : List Dim). stretch (dim_values own begun ds)) (sym e) ∙ sym (begun_placed.shapes d m).size) in
      ap (λ (z : ℤ). CellList (replicate (count z) cell.Undefined)) size
      ∙ ap CellList (sym (undefined_contents begun (own d.name).first (own d.name).size (own_undefined d m o)))

  own_named : (d : DataName) → IsAmong d u.names → is_own d.role ≡ true → at_entry w d.name ≡ held_in d.dims begun (own d.name)
  own_named d m o =
      let e : data_name u d.name ≡ Some d = found program.units i u sound d m d.name refl in
      ap (λ (a : Option DataName). cond (has_role is_own a) (walk.blank_by w.sense (entry_symbol w) (dims_of_data a)) (entry_symbol w d.name)) e
      ∙ (ap (λ (b : Bool). cond b (walk.blank_by w.sense (entry_symbol w) d.dims) (entry_symbol w d.name)) o
      ∙ own_blank d m o d.dims refl)

  pub entry_named : (d : DataName) → IsAmong d u.names → at_entry w d.name ≡ held_in d.dims begun (own d.name)
  entry_named d m = pick (own_or_not d)
    where
      pick : (is_own d.role ≡ true) ⊎ (is_own d.role ≡ false) → at_entry w d.name ≡ held_in d.dims begun (own d.name)
      pick (inl o) = own_named d m o
      pick (inr v) = visible_named d m v

  entry_sorted : (d : DataName) → IsAmong d u.names → (k : ℕ) → k < (own d.name).size → MayBe p d.sort (load begun ((own d.name).first + k))
  entry_sorted d m k lt = pick (own_or_not d)
    where
      pick : (is_own d.role ≡ true) ⊎ (is_own d.role ≡ false) → MayBe p d.sort (load begun ((own d.name).first + k))
      pick (inl o) = subst (MayBe p d.sort) (sym (own_undefined d m o ((own d.name).first + k) (omega arith))) tt
      pick (inr v) =
          let s = visible_same d m v in
          let z = s.size in
          may_be p d.sort _ (ap (has_sort p d.sort) (s.cells k (omega arith))
          ∙ each_content (has_sort p d.sort) st (env d.name).first (env d.name).size k (fits.sorts d (record { among = m; not_own = v })) (omega arith))

  pub entry_stood : Stood p u own (at_entry w) begun
  entry_stood = record {
    standing = record {
      names = λ x d e. let k = data_name_is u.names x d e in subst (λ (z : Name). at_entry w z ≡ held_in d.dims begun (own z)) k.1 (entry_named d k.0);
      sizes = λ x d e. let k = data_name_is u.names x d e in subst (λ (z : Name). pos (own z).size ≡ stretch (dim_values own begun d.dims)) k.1 (begun_placed.shapes d k.0).size;
      sorts = λ x d e n lt. let k = data_name_is u.names x d e in
          subst (λ (z : Name). n < (own z).size → MayBe p d.sort (load begun ((own z).first + n))) k.1 (λ l. entry_sorted d k.0 n l) lt;
    };
    good = λ x d e. let k = data_name_is u.names x d e in (begun_placed.shapes d k.0).dims;
    within = λ x d e. let k = data_name_is u.names x d e in subst (λ (z : Name). (own z).first + (own z).size ≤ length begun) k.1 (begun_placed.shapes d k.0).within;
  }

  -- ---- what is taken at the entry

  dim_true : (x : Name) → is_some_dim u x ≡ true → (holds (w.sense.make Defined (at_entry w x ∷ [])) ≡ true) × (int_le (pos 1) (value.num (at_entry w x)) ≡ true)
  dim_true x h =
      let d = some_passes (λ d. list_any (is_dim x) d.dims) u.names h in
      let b = some_passes (is_dim x) d.0.dims d.2 in
      let k : IsAmong (Adjustable x) d.0.dims = (b.1.0, b.1.1 ∙ ap Some (dim_named x b.0 b.2)) in
      let a = sound.adjustables d.0 x d.1 k in
      let good : is_positive (load begun (own x).first) ≡ true = each_good own begun d.0.dims (Adjustable x) (begun_placed.shapes d.0 d.1).dims k in
      let stands : at_entry w x ≡ of_cell (load begun (own x).first) =
      subst (λ (z : Name). at_entry w z ≡ of_cell (load begun (own z).first)) a.has.name
      (entry_named a.has.its a.has.among ∙ ap (λ (ds : List Dim). held_in ds begun (own a.has.its.name)) a.is_scalar) in
      let g = positive_cell (load begun (own x).first) good in
      (ap value.is_defined stands ∙ g.0, ap (λ (v : Value). int_le (pos 1) (value.num v)) stands ∙ g.1)

  dims_true : (xs : List Name) → ((x : Name) → IsAmong x xs → is_some_dim u x ≡ true) → AllTrue (takes (dim_facts w xs))
  dims_true [] h = tt
  dims_true (x ∷ xs) h = let g = dim_true x (h x (0, refl)) in (g.0, (g.1, dims_true xs (λ y k. h y (suc k.0, k.1))))

  module _ (bounded : MeetsBound p program.bound) (fitting : FitsUnit u (notes_of program i))
      (met : IsMet program.functions p (names_hold u env st cell.Undefined) (names_hold u env st cell.Undefined) (notes_of program i).input) where
    bounds_true : AllTrue (takes (bound_facts w))
    bounds_true = (at_most p.least (neg_ℤ (pos program.bound)) bounded.0, (at_most (pos program.bound) p.greatest bounded.1, tt))

    no_entries : (x : Name) → no_entry x ≡ true → at_entry w x ≡ names_hold u env st cell.Undefined x
    no_entries x h = absurd (cc)

    pub entry_true : AllTrue (takes (entry_facts w))
    entry_true =
        takes_append (bound_facts w ++ walk.sorts w.sense u (at_entry w) u.dummies ++ walk.sorts w.sense u (at_entry w) (commons u) ++ dim_facts w (dim_dummies u)) _
        (takes_append (bound_facts w ++ walk.sorts w.sense u (at_entry w) u.dummies ++ walk.sorts w.sense u (at_entry w) (commons u)) (dim_facts w (dim_dummies u))
        (takes_append (bound_facts w ++ walk.sorts w.sense u (at_entry w) u.dummies) (walk.sorts w.sense u (at_entry w) (commons u))
        (takes_append (bound_facts w) (walk.sorts w.sense u (at_entry w) u.dummies) bounds_true
        (stood_sorts program.units i u sound p own begun (at_entry w) entry_stood program.functions entry_values refl refl u.dummies))
        (stood_sorts program.units i u sound p own begun (at_entry w) entry_stood program.functions entry_values refl refl (commons u)))
        (dims_true (dim_dummies u) (λ x k. (filter_passes (is_some_dim u) u.dummies x k).1)))
        (all_taken _ (ap (list_all holds) (fit_notes program.functions entry_values p refl refl u is_visible_role no_entry (at_entry w) (names_hold u env st cell.Undefined) (at_entry w) (names_hold u env st cell.Undefined)
        entry_is no_entries (notes_of program i).input fitting.input) ∙ met))
