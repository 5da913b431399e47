-- Where the names of a called unit have their cells.
use Rattle.std.proofs.Common.{◌≡◌, ◌≢◌, ℕ, zero, suc, ◌+◌, ◌<◌, ◌≤◌, ◌⊎◌, inl, inr, Bool, true, false, cond, ◌&&◌, ◌||◌, ℤ, pos, List, [], ◌∷◌, ◌++◌, length, Some, slice_get, refl, sym, ap, ◌∙◌, subst, arith, rules, length-append, get_or-append-add}
use Rattle.std.proofs.lemmas.List.{get_or_append_left}
use Rattle.std.specs.List.{list_all}
use Rattle.formula.specs.Atoms.{same_bytes}
use Rattle.fort_syntax.specs.Names.{data_name_in, data_name, dims_of_data, dims_of, is_own, has_common, has_role, is_in_common}
use Rattle.formula.specs.declared.value.Cell.TheVariants.{Int, Undefined}
use Rattle.fort_syntax.specs.declared.name.Name.{Name}
use Rattle.fort_syntax.specs.declared.expr.Expr.{Expr}
use Rattle.fort_syntax.specs.declared.expr.Expr.TheVariants.{Const, Truth, Var, Apply', Paren', Pos', Neg', Power', Bin', Rel', Not', And', Or'}
use Rattle.fort_syntax.specs.declared.stmt.Dim.{Dim}
use Rattle.fort_syntax.specs.declared.stmt.Dim.TheVariants.{Fixed, Named}
use Rattle.fort_syntax.specs.declared.unit.DataName.{DataName}
use Rattle.fort_syntax.specs.declared.unit.Role.{Role}
use Rattle.fort_syntax.specs.declared.unit.Role.TheVariants.{Dummy, InCommon, OwnValue, Local}
use Rattle.fort_syntax.specs.declared.unit.Unit.{Unit as Routine}
use Rattle.fort_model.specs.Arguments.{mentions, row_mentions, dims_of_actual}
use Rattle.fort_model.specs.Calls.{Calls}
use Rattle.fort_model.specs.Cells.{num}
use Rattle.fort_model.specs.Fits.{IsIn, IsVisible, IsApart, HasShape, is_good_dim, is_positive}
use Rattle.fort_model.specs.Lists.{IsAmong}
use Rattle.fort_model.specs.Passing.{Taken, Cells, Fresh, Passed, ByCopy, ByValue, passed_by, passed, seats, new_cells}
use Rattle.fort_model.specs.Places.{dim_value, dim_values, stretch}
use Rattle.fort_model.specs.Smashes.{Smashes, passes, shares}
use Rattle.fort_model.specs.Storage.{Storage, Extent, Environment, load, with_extents}
use Rattle.fort_laws.specs.Actuals.{IsPart, IsTakenAs, AreTakenAs}
use Rattle.fort_laws.specs.Frame.{IsPlaced, HasName, IsSoundUnit, IsDim, DimAgrees, DimsAgree, IsSoundCall}
use Rattle.fort_laws.proofs.FrameEnter.{SameOrNot, same, other, same_or_not, fixed_good}
use Rattle.fort_laws.proofs.FrameParts.{IsOpen, one_cell}
use Rattle.step_laws.proofs.Tied.{at_most_or}
use Rattle.fort_laws.proofs.StorageLaws.{width, widths, seat, seat_at, widths_apart, length-new_cells, copy_holds, value_holds, passed_at}

-- ---- names

pub clash : (b : Bool) → b ≡ true → b ≡ false → ⊥
clash b t f = cc

pub same_self : (x : Name) → same_bytes x x ≡ true
same_self x = pick (same_or_not x x)
  where
    pick : SameOrNot x x → same_bytes x x ≡ true
    pick (same e t) = t
    pick (other n t) = absurd (n refl)

pub same_is : (x y : Name) → x ≡ y → same_bytes x y ≡ true
same_is x y e = subst (λ (z : Name). same_bytes x z ≡ true) e (same_self x)

pub found_in : (ds : List DataName) (d : DataName) → ((e : DataName) → IsAmong e ds → e.name ≡ d.name → e ≡ d) → IsAmong d ds → data_name_in ds d.name ≡ Some d
found_in [] d one m = absurd (cc)
found_in (e ∷ ds) d one m = by_name (same_or_not e.name d.name) m (λ r. found_in ds d (λ f k q. one f (suc k.0, k.1) q) r)
  where
    at_head : (t : Bool) → same_bytes e.name d.name ≡ t → data_name_in (e ∷ ds) d.name ≡ cond t (Some e) (data_name_in ds d.name)
    at_head t q = ap (λ (b : Bool). cond b (Some e) (data_name_in ds d.name)) q

    by_name : SameOrNot e.name d.name → IsAmong d (e ∷ ds) → (IsAmong d ds → data_name_in ds d.name ≡ Some d) → data_name_in (e ∷ ds) d.name ≡ Some d
    by_name (same q t) k rec = at_head true t ∙ ap Some (one e (0, refl) q)
    by_name (other q t) (zero, k) rec = let f : e ≡ d = cc in absurd (q (ap (λ (z : DataName). z.name) f))
    by_name (other q t) (suc j, k) rec = at_head false t ∙ rec (j, k)

pub found : (units : List Routine) (i : ℕ) (u : Routine) → IsSoundUnit units i u → (d : DataName) → IsAmong d u.names → (x : Name) → d.name ≡ x → data_name u x ≡ Some d
found units i u sound d m x e = subst (λ (z : Name). data_name_in u.names z ≡ Some d) e (found_in u.names d (λ f k q. sound.one_name f d k m q) m)

pub is_common : (units : List Routine) (i : ℕ) (u : Routine) → IsSoundUnit units i u → (d : DataName) → IsAmong d u.names → (x : Name) → d.name ≡ x → d.role ≡ InCommon → has_common u x ≡ true
is_common units i u sound d m x e r = ap (has_role is_in_common) (found units i u sound d m x e) ∙ ap is_in_common r

-- ---- extents of dummies

pub extents_at : (ys : List Name) (es : List Extent) (env : Environment) (n : ℕ) (y : Name) (e : Extent) → ((k m : ℕ) (x : Name) → slice_get ys k ≡ Some x → slice_get ys m ≡ Some x → k ≡ m)
    → slice_get ys n ≡ Some y → slice_get es n ≡ Some e → with_extents ys es env y ≡ e
extents_at [] es env n y e one h k = absurd (cc)
extents_at (z ∷ ys) [] env n y e one h k = absurd (cc)
extents_at (z ∷ ys) (f ∷ es) env zero y e one h k =
    let q : z ≡ y = cc in let r : f ≡ e = cc in
    ap (λ (b : Bool). cond b f (with_extents ys es env y)) (same_is z y q) ∙ r
extents_at (z ∷ ys) (f ∷ es) env (suc n) y e one h k = by_name (same_or_not z y) (extents_at ys es env n y e (λ a b x p q. let r = one (suc a) (suc b) x p q in omega arith) h k)
  where
    by_name : SameOrNot z y → with_extents ys es env y ≡ e → with_extents (z ∷ ys) (f ∷ es) env y ≡ e
    by_name (same q t) rec = let r : 0 ≡ suc n = one 0 (suc n) y (ap Some q) h in absurd (omega arith)
    by_name (other q t) rec = ap (λ (b : Bool). cond b f (with_extents ys es env y)) t ∙ rec

extents_other : (ys : List Name) (es : List Extent) (env : Environment) (y : Name) → (IsAmong y ys → ⊥) → with_extents ys es env y ≡ env y
extents_other [] es env y h = refl
extents_other (z ∷ ys) [] env y h = refl
extents_other (z ∷ ys) (f ∷ es) env y h = by_name (same_or_not z y) (extents_other ys es env y (λ m. h (suc m.0, m.1)))
  where
    by_name : SameOrNot z y → with_extents ys es env y ≡ env y → with_extents (z ∷ ys) (f ∷ es) env y ≡ env y
    by_name (same q t) rec = absurd (h (0, ap Some q))
    by_name (other q t) rec = ap (λ (b : Bool). cond b f (with_extents ys es env y)) t ∙ rec

-- ---- what actuals are taken as

pub fit_at : (env : Environment) (Part : Name → Extent → Type 0) (es : List Expr) (xs : List Taken) (n : ℕ) (e : Expr) → AreTakenAs env Part es xs → slice_get es n ≡ Some e
    → (x : Taken) × (slice_get xs n ≡ Some x) × IsTakenAs env Part e x
fit_at env Part [] xs n e fit h = absurd (cc)
fit_at env Part (f ∷ es) [] n e fit h = absurd fit
fit_at env Part (f ∷ es) (x ∷ xs) zero e fit h = let q : f ≡ e = cc in (x, refl, subst (λ (z : Expr). IsTakenAs env Part z x) q fit.0)
fit_at env Part (f ∷ es) (x ∷ xs) (suc n) e fit h = fit_at env Part es xs n e fit.1 h

pub at_fit : (env : Environment) (Part : Name → Extent → Type 0) (es : List Expr) (xs : List Taken) (n : ℕ) (x : Taken) → AreTakenAs env Part es xs → slice_get xs n ≡ Some x
    → (e : Expr) × (slice_get es n ≡ Some e) × IsTakenAs env Part e x
at_fit env Part [] [] n x fit h = absurd (cc)
at_fit env Part [] (y ∷ xs) n x fit h = absurd fit
at_fit env Part (f ∷ es) [] n x fit h = absurd fit
at_fit env Part (f ∷ es) (y ∷ xs) zero x fit h = let q : y ≡ x = cc in (f, refl, subst (λ (z : Taken). IsTakenAs env Part f z) q fit.0)
at_fit env Part (f ∷ es) (y ∷ xs) (suc n) x fit h = at_fit env Part es xs n x fit.1 h

-- cells of the calling unit that an actual is taken as: of a name that stands in it
pub record IsOld (u : Routine) (env : Environment) (actual : Expr) (e : Extent) : Type 0 where
  pub its : DataName
  pub among : IsAmong its u.names
  pub mentioned : mentions actual its.name ≡ true
  pub low : (env its.name).first ≤ e.first
  pub high : e.first + e.size ≤ (env its.name).first + (env its.name).size

either : (a b : Bool) → a ≡ true → (a || b) ≡ true
either true b h = refl
either false b h = absurd (cc)

pub old_cells : (u : Routine) (env : Environment) (actual : Expr) (e : Extent) → ((x : Name) → actual ≡ Var x → HasName u x) → IsTakenAs env (IsPart u env) actual (Cells e) → IsOld u env actual e
old_cells u env (Const n) e named fit = absurd (cc)
old_cells u env (Var y) e named fit =
    let h : HasName u y = named y refl in
    let q : e ≡ env y = cc in
    let r : e ≡ env h.its.name = q ∙ ap env (sym h.name) in
    record {
      its = h.its;
      among = h.among;
      mentioned = same_is y h.its.name (sym h.name);
      low = subst (λ (z : Extent). z.first ≤ e.first) r (omega arith);
      high = subst (λ (z : Extent). e.first + e.size ≤ z.first + z.size) r (omega arith);
    }
old_cells u env (Apply' f shape args) e named fit =
    record {
      its = fit.its;
      among = fit.among;
      mentioned = either (same_bytes f fit.its.name) (row_mentions args fit.its.name) (same_is f fit.its.name (sym fit.name));
      low = subst (λ (z : Name). (env z).first ≤ e.first) (sym fit.name) fit.low;
      high = subst (λ (z : Name). e.first + e.size ≤ (env z).first + (env z).size) (sym fit.name) fit.high;
    }
old_cells u env (Truth b) e named fit = absurd fit
old_cells u env (Paren' shape a) e named fit = absurd fit
old_cells u env (Pos' shape a) e named fit = absurd fit
old_cells u env (Neg' shape a) e named fit = absurd fit
old_cells u env (Power' shape a n) e named fit = absurd fit
old_cells u env (Bin' o q a r b) e named fit = absurd fit
old_cells u env (Rel' o q a r b) e named fit = absurd fit
old_cells u env (Not' shape a) e named fit = absurd fit
old_cells u env (And' q a r b) e named fit = absurd fit
old_cells u env (Or' q a r b) e named fit = absurd fit

-- ---- dimensions of actuals

-- an actual is a bare name, or it is none and has no dimensions
pub whole_or_not : (u : Routine) (e : Expr) → ((y : Name) × (e ≡ Var y)) ⊎ ((dims_of_actual u e ≡ []) × ((y : Name) → e ≡ Var y → ⊥))
whole_or_not u (Var y) = inl (y, refl)
whole_or_not u (Const n) = inr (refl, λ y is. cc)
whole_or_not u (Truth b) = inr (refl, λ y is. cc)
whole_or_not u (Apply' f shape args) = inr (refl, λ y is. cc)
whole_or_not u (Paren' shape a) = inr (refl, λ y is. cc)
whole_or_not u (Pos' shape a) = inr (refl, λ y is. cc)
whole_or_not u (Neg' shape a) = inr (refl, λ y is. cc)
whole_or_not u (Power' shape a n) = inr (refl, λ y is. cc)
whole_or_not u (Bin' o q a r b) = inr (refl, λ y is. cc)
whole_or_not u (Rel' o q a r b) = inr (refl, λ y is. cc)
whole_or_not u (Not' shape a) = inr (refl, λ y is. cc)
whole_or_not u (And' q a r b) = inr (refl, λ y is. cc)
whole_or_not u (Or' q a r b) = inr (refl, λ y is. cc)

pub data DimCase (e : Expr) (d : Dim) : Type 0 where
  constant : (n : ℕ) → e ≡ Const n → d ≡ Fixed n → DimCase e d
  variable : (x : Name) → e ≡ Var x → d ≡ Named x → DimCase e d

dim_case : (e : Expr) (d : Dim) → IsDim e d → DimCase e d
dim_case (Const c) (Fixed n) h = constant c refl (ap Fixed (sym h))
dim_case (Const c) (Named x) h = absurd h
dim_case (Var y) (Named x) h = variable y refl (ap Named (sym h))
dim_case (Var y) (Fixed n) h = absurd h
dim_case (Truth b) d h = absurd h
dim_case (Apply' f shape args) d h = absurd h
dim_case (Paren' shape a) d h = absurd h
dim_case (Pos' shape a) d h = absurd h
dim_case (Neg' shape a) d h = absurd h
dim_case (Power' shape a n) d h = absurd h
dim_case (Bin' o q a r b) d h = absurd h
dim_case (Rel' o q a r b) d h = absurd h
dim_case (Not' shape a) d h = absurd h
dim_case (And' q a r b) d h = absurd h
dim_case (Or' q a r b) d h = absurd h

abbrev pub taken_size : Taken → ℕ
taken_size (Cells e) = e.size
taken_size (Fresh v) = 1

seat_size : (t : Bool) (x : Taken) (at : ℕ) → (seat (passed_by t x) at).size ≡ taken_size x
seat_size true (Cells e) at = refl
seat_size false (Cells e) at = refl
seat_size true (Fresh v) at = refl
seat_size false (Fresh v) at = refl

-- what is no whole array has one cell
part_size : (u : Routine) (env : Environment) (e : Expr) (x : Taken) → dims_of_actual u e ≡ [] → ((y : Name) → e ≡ Var y → ⊥) → IsTakenAs env (IsPart u env) e x → taken_size x ≡ 1
part_size u env e (Fresh v) d whole fit = refl
part_size u env (Var y) (Cells f) d whole fit = absurd (whole y refl)
part_size u env (Const n) (Cells f) d whole fit = absurd (cc)
part_size u env (Apply' f shape args) (Cells g) d whole fit = fit.one
part_size u env (Truth b) (Cells f) d whole fit = absurd fit
part_size u env (Paren' shape a) (Cells f) d whole fit = absurd fit
part_size u env (Pos' shape a) (Cells f) d whole fit = absurd fit
part_size u env (Neg' shape a) (Cells f) d whole fit = absurd fit
part_size u env (Power' shape a n) (Cells f) d whole fit = absurd fit
part_size u env (Bin' o q a r b) (Cells f) d whole fit = absurd fit
part_size u env (Rel' o q a r b) (Cells f) d whole fit = absurd fit
part_size u env (Not' shape a) (Cells f) d whole fit = absurd fit
part_size u env (And' q a r b) (Cells f) d whole fit = absurd fit
part_size u env (Or' q a r b) (Cells f) d whole fit = absurd fit

positive_constant : (n : ℕ) → 1 ≤ n → is_positive (Int (pos n)) ≡ true
positive_constant zero h = absurd (omega arith)
positive_constant (suc n) h = search rules

both_true : (a b : Bool) → (a && b) ≡ true → (a ≡ true) × (b ≡ true)
both_true true b e = (refl, e)
both_true false b e = absurd (cc)

fixed_values : (env inside : Environment) (st after : Storage) (ds : List Dim) → ((x : Name) → IsAmong (Named x) ds → ⊥) → dim_values inside after ds ≡ dim_values env st ds
fixed_values env inside st after [] none_named = refl
fixed_values env inside st after (Fixed n ∷ ds) none_named = ap (λ (zs : List ℤ). pos n ∷ zs) (fixed_values env inside st after ds (λ x m. none_named x (suc m.0, m.1)))
fixed_values env inside st after (Named x ∷ ds) none_named = absurd (none_named x (0, refl))

-- ---- a call

module _ (units : List Routine) (i j : ℕ) (c : Calls units i j) (of_caller : IsSoundUnit units i c.caller) (of_callee : IsSoundUnit units j c.callee) (of_call : IsSoundCall c)
    (env : Environment) (st : Storage) (placed : IsPlaced units i c.caller env st) (copies : ℕ → Bool) (xs : List Taken)
    (fit : AreTakenAs env (IsPart c.caller env) c.site.actuals xs) where
  abbrev pub ps : List Passed
  ps = passed copies 1 xs

  abbrev pub inner : Environment
  inner x = with_extents c.callee.dummies (seats ps (length st)) env x

  abbrev pub begun : Storage
  begun = st ++ new_cells st ps

  pub long : length begun ≡ length st + length (new_cells st ps)
  long = length-append st (new_cells st ps)

  pub same_below : (k : ℕ) → k < length st → load begun k ≡ load st k
  same_below k lt = get_or_append_left st (new_cells st ps) Undefined k lt

  pub new_at : (k : ℕ) → load begun (length st + k) ≡ load (new_cells st ps) k
  new_at k = get_or-append-add st (new_cells st ps) k Undefined

  -- the seat of a dummy
  pub record Seated (d : Name) : Type 0 where
    pub at : ℕ
    pub dummy : slice_get c.callee.dummies at ≡ Some d
    pub actual : Expr
    pub is_actual : slice_get c.site.actuals at ≡ Some actual
    pub taken : Taken
    pub is_taken : slice_get xs at ≡ Some taken
    pub fits : IsTakenAs env (IsPart c.caller env) actual taken
    pub is_passed : slice_get ps at ≡ Some (passed_by (copies (1 + at)) taken)
    pub place : inner d ≡ seat (passed_by (copies (1 + at)) taken) (length st + widths ps at)

  pub seated : (d : Name) (n : ℕ) (e : Expr) → slice_get c.callee.dummies n ≡ Some d → slice_get c.site.actuals n ≡ Some e → Seated d
  seated d n e is_dummy is_actual =
      let x = fit_at env (IsPart c.caller env) c.site.actuals xs n e fit is_actual in
      let is_passed : slice_get ps n ≡ Some (passed_by (copies (1 + n)) x.0) = passed_at copies 1 xs n x.0 x.1 in
      record {
        at = n;
        dummy = is_dummy;
        actual = e;
        is_actual = is_actual;
        taken = x.0;
        is_taken = x.1;
        fits = x.2;
        is_passed = is_passed;
        place = extents_at c.callee.dummies (seats ps (length st)) env n d _ of_callee.one_dummy is_dummy (seat_at ps (length st) n _ is_passed);
      }

  -- the cells of a dummy: old ones, which its actual has, or new ones
  pub data Place (d : Name) (s : Seated d) : Type 0 where
    old : (e : Extent) → s.taken ≡ Cells e → inner d ≡ e → Place d s
    new : (y : Passed) → slice_get ps s.at ≡ Some y → inner d ≡ record { first = length st + widths ps s.at; size = width y } → Place d s

  pub place_of : (d : Name) (s : Seated d) → Place d s
  place_of d s = by_way s.taken (copies (1 + s.at)) refl refl
    where
      by_way : (x : Taken) (t : Bool) → s.taken ≡ x → copies (1 + s.at) ≡ t → Place d s
      by_way (Fresh v) t e q =
          new (ByValue v) (s.is_passed ∙ ap (λ (z : Taken). Some (passed_by (copies (1 + s.at)) z)) e) (s.place ∙ ap (λ (z : Taken). seat (passed_by (copies (1 + s.at)) z) (length st + widths ps s.at)) e)
      by_way (Cells f) true e q =
          new (ByCopy f) (s.is_passed ∙ (ap (λ (z : Taken). Some (passed_by (copies (1 + s.at)) z)) e ∙ ap (λ (b : Bool). Some (passed_by b (Cells f))) q))
          (s.place ∙ (ap (λ (z : Taken). seat (passed_by (copies (1 + s.at)) z) (length st + widths ps s.at)) e ∙ ap (λ (b : Bool). seat (passed_by b (Cells f)) (length st + widths ps s.at)) q))
      by_way (Cells f) false e q =
          old f e (s.place ∙ (ap (λ (z : Taken). seat (passed_by (copies (1 + s.at)) z) (length st + widths ps s.at)) e ∙ ap (λ (b : Bool). seat (passed_by b (Cells f)) (length st + widths ps s.at)) q))

  pub old_of : (d : Name) (s : Seated d) (e : Extent) → s.taken ≡ Cells e → IsOld c.caller env s.actual e
  old_of d s e q =
      old_cells c.caller env s.actual e (λ x is. of_call.names s.at x (s.is_actual ∙ ap Some is)) (subst (λ (z : Taken). IsTakenAs env (IsPart c.caller env) s.actual z) q s.fits)

  pub old_within : (actual : Expr) (e : Extent) → IsOld c.caller env actual e → e.first + e.size ≤ length st
  old_within actual e o = let w = (placed.shapes o.its o.among).within in let h = o.high in omega arith

  -- ---- the visible names of the called unit

  pub record Shared (d : DataName) : Type 0 where
    pub its : DataName
    pub among : IsAmong its c.caller.names
    pub name : its.name ≡ d.name
    pub role : its.role ≡ InCommon
    pub dims : its.dims ≡ d.dims
    pub place : inner d.name ≡ env d.name

  pub data Root (d : DataName) : Type 0 where
    common : d.role ≡ InCommon → Shared d → Root d
    dummy : d.role ≡ Dummy → (s : Seated d.name) → DimsAgree c.callee c.site.actuals d.dims (dims_of_actual c.caller s.actual) → Root d

  roles_differ : (r : Role) → r ≡ InCommon → r ≡ Dummy → ⊥
  roles_differ r a b = clash (is_in_common r) (ap is_in_common a) (ap is_in_common b)

  pub shared : (d : DataName) → IsAmong d c.callee.names → d.role ≡ InCommon → Shared d
  shared d m r =
      let s = of_call.commons d m r in
      record {
        its = s.0;
        among = s.1;
        name = s.2;
        role = s.3;
        dims = s.4;
        place = extents_other c.callee.dummies (seats ps (length st)) env d.name (λ k. roles_differ d.role r (of_callee.roles d m k));
      }

  pub root : (d : DataName) → IsVisible c.callee d → Root d
  unfolding seated
  root d v = by_role d.role refl
    where
      by_role : (r : Role) → d.role ≡ r → Root d
      by_role Dummy q =
          let k = of_callee.dummies d v.among q in
          let a = of_call.matches d k.0 v.among k.1 in
          dummy q (seated d.name k.0 a.actual k.1 a.is) a.dims
      by_role InCommon q = common q (shared d v.among q)
      by_role OwnValue q = absurd (clash (is_own d.role) (ap is_own q) v.not_own)
      by_role Local q = absurd (clash (is_own d.role) (ap is_own q) v.not_own)

  -- ---- smashed names of the called unit

  -- a smashed dummy has a bare name, which the calling unit smashes
  pub record Bare (d : Name) (s : Seated d) : Type 0 where
    pub name : Name
    pub is : s.actual ≡ Var name
    pub has : HasName c.caller name
    pub smashed : Smashes units i has.its.name

  pub bare : (d : Name) (s : Seated d) → Smashes units j d → Bare d s
  bare d s h =
      let b = of_call.smashed.bare s.at d s.actual s.dummy h s.is_actual in
      let is_actual : slice_get c.site.actuals s.at ≡ Some (Var b.0) = s.is_actual ∙ ap Some b.1 in
      let has : HasName c.caller b.0 = of_call.names s.at b.0 is_actual in
      record { name = b.0; is = b.1; has = has; smashed = subst (λ (z : Name). Smashes units i z) (sym has.name) (passes c s.at s.dummy is_actual h) }

  pub bare_cells : (d : Name) (s : Seated d) (b : Bare d s) (e : Extent) → s.taken ≡ Cells e → e ≡ env b.has.its.name
  bare_cells d s b e q =
      let f : IsTakenAs env (IsPart c.caller env) (Var b.name) (Cells e) =
      subst (λ (z : Expr). IsTakenAs env (IsPart c.caller env) z (Cells e)) b.is (subst (λ (z : Taken). IsTakenAs env (IsPart c.caller env) s.actual z) q s.fits) in
      same_cells e (env b.name) f ∙ ap env (sym b.has.name)
    where
      same_cells : (e f : Extent) → Cells e ≡ Cells f → e ≡ f
      same_cells e f h = cc

  -- cells of a smashed dummy's actual are those of a name that the calling unit smashes
  pub actual_open : (d : Name) (s : Seated d) → Smashes units j d → (e : Extent) → s.taken ≡ Cells e → (k : ℕ) → IsIn k e → IsOpen units i c.caller env k
  actual_open d s h e q k inside =
      let b : Bare d s = bare d s h in
      record { its = b.has.its; among = b.has.among; smashed = b.smashed; cell = subst (λ (z : Extent). IsIn k z) (bare_cells d s b e q) inside }

  pub shared_smashed : (d : DataName) → IsAmong d c.callee.names → d.role ≡ InCommon → (s : Shared d) → Smashes units j d.name → Smashes units i s.its.name
  shared_smashed d m r s h =
      subst (λ (z : Name). Smashes units i z) (sym s.name)
      (shares c (is_common units i c.caller of_caller s.its s.among d.name s.name s.role) (is_common units j c.callee of_callee d m d.name refl r) h)

  pub shared_open : (d : DataName) → IsAmong d c.callee.names → d.role ≡ InCommon → (s : Shared d) → Smashes units j d.name → (k : ℕ) → IsIn k (inner d.name) → IsOpen units i c.caller env k
  shared_open d m r s h k inside =
      record {
        its = s.its;
        among = s.among;
        smashed = shared_smashed d m r s h;
        cell = subst (λ (z : Name). IsIn k (env z)) (sym s.name) (subst (λ (z : Extent). IsIn k z) s.place inside);
      }

  -- an old cell of a smashed name is that of a name that the calling unit smashes
  pub smashed_open : (d : DataName) → IsVisible c.callee d → Smashes units j d.name → (k : ℕ) → k < length st → IsIn k (inner d.name) → IsOpen units i c.caller env k
  smashed_open d v h k lt inside = by_root (root d v)
    where
      by_place : (s : Seated d.name) → Place d.name s → IsOpen units i c.caller env k
      by_place s (old e q p) = actual_open d.name s h e q k (subst (λ (z : Extent). IsIn k z) p inside)
      by_place s (new y q p) = let r = (subst (λ (z : Extent). IsIn k z) p inside).0 in absurd (omega arith)

      by_root : Root d → IsOpen units i c.caller env k
      by_root (common r s) = shared_open d v.among r s h k inside
      by_root (dummy r s agree) = by_place s (place_of d.name s)

  -- ---- smashed names of the called unit lie apart

  pub inside_by : (k : ℕ) (e f : Extent) → e ≡ f → IsIn k e → IsIn k f
  inside_by k e f q h = subst (λ (z : Extent). IsIn k z) q h

  pub old_inside : (k : ℕ) (actual : Expr) (e : Extent) (o : IsOld c.caller env actual e) → IsIn k e → IsIn k (env o.its.name)
  old_inside k actual e o h = (let l = o.low in let a = h.0 in omega arith, let l = o.high in let a = h.1 in omega arith)

  pub shared_inside : (d : DataName) (s : Shared d) (k : ℕ) → IsIn k (inner d.name) → IsIn k (env s.its.name)
  shared_inside d s k h = subst (λ (z : Name). IsIn k (env z)) (sym s.name) (inside_by k _ _ s.place h)

  pub shared_below : (d : DataName) (s : Shared d) (k : ℕ) → IsIn k (inner d.name) → k < length st
  shared_below d s k h = let a = (shared_inside d s k h).1 in let w = (placed.shapes s.its s.among).within in omega arith

  same_some : (x y : Name) → Some x ≡ Some y → x ≡ y
  same_some x y h = cc

  other_seats : (d e : Name) (s : Seated d) (t : Seated e) → d ≢ e → s.at ≢ t.at
  other_seats d e s t unlike q = unlike (same_some d e (sym s.dummy ∙ (ap (slice_get c.callee.dummies) q ∙ t.dummy)))

  module _ (d e : DataName) (v : IsVisible c.callee d) (w : IsVisible c.callee e) (h : Smashes units j d.name) (unlike : d.name ≢ e.name) (k : ℕ) (a : IsIn k (inner d.name)) (b : IsIn k (inner e.name)) where
    both_shared : (s : Shared d) (t : Shared e) → d.role ≡ InCommon → ⊥
    both_shared s t r =
        placed.apart s.its t.its s.among t.among (shared_smashed d v.among r s h) (λ q. unlike (sym s.name ∙ (q ∙ t.name))) k (shared_inside d s k a) (shared_inside e t k b)

    shared_dummy : (s : Shared d) → d.role ≡ InCommon → (t : Seated e.name) → Place e.name t → ⊥
    shared_dummy s r t (new y q p) = let l = shared_below d s k a in let m = (inside_by k _ _ p b).0 in absurd (omega arith)
    shared_dummy s r t (old f q p) =
        let o : IsOld c.caller env t.actual f = old_of e.name t f q in
        let not_there : mentions t.actual d.name ≡ false = of_call.smashed.no_common t.at d.name t.actual (is_common units j c.callee of_callee d v.among d.name refl r) h t.is_actual in
        placed.apart s.its o.its s.among o.among (shared_smashed d v.among r s h)
        (λ same_names. clash (mentions t.actual d.name) (subst (λ (z : Name). mentions t.actual z ≡ true) (sym same_names ∙ s.name) o.mentioned) not_there) k
        (shared_inside d s k a) (old_inside k t.actual f o (inside_by k _ _ p b))

    dummy_shared : (s : Seated d.name) → Place d.name s → (t : Shared e) → e.role ≡ InCommon → ⊥
    dummy_shared s (new y q p) t r = let l = shared_below e t k b in let m = (inside_by k _ _ p a).0 in absurd (omega arith)
    dummy_shared s (old f q p) t r =
        let x : Bare d.name s = bare d.name s h in
        placed.apart x.has.its t.its x.has.among t.among x.smashed
        (λ same_names.
        let named : t.its.name ≡ x.name = sym same_names ∙ x.has.name in
        of_call.smashed.not_shared s.at d.name x.name s.dummy h (s.is_actual ∙ ap Some x.is)
        (is_common units i c.caller of_caller t.its t.among x.name named t.role) (is_common units j c.callee of_callee e w.among x.name (sym t.name ∙ named) r)) k
        (inside_by k _ _ (bare_cells d.name s x f q) (inside_by k _ _ p a)) (shared_inside e t k b)

    new_apart : (s : Seated d.name) (t : Seated e.name) (y z : Passed) → slice_get ps s.at ≡ Some y → slice_get ps t.at ≡ Some z
        → inner d.name ≡ record { first = length st + widths ps s.at; size = width y } → inner e.name ≡ record { first = length st + widths ps t.at; size = width z } → ⊥
    new_apart s t y z q r p o = by_order (at_most_or s.at t.at) (at_most_or t.at s.at)
      where
        by_order : (s.at < t.at) ⊎ (t.at ≤ s.at) → (t.at < s.at) ⊎ (s.at ≤ t.at) → ⊥
        by_order (inl l) g = let m = widths_apart ps s.at t.at y q l in let x = (inside_by k _ _ p a).1 in let x2 = (inside_by k _ _ o b).0 in absurd (omega arith)
        by_order (inr l) (inl g) = let m = widths_apart ps t.at s.at z r g in let x = (inside_by k _ _ o b).1 in let x2 = (inside_by k _ _ p a).0 in absurd (omega arith)
        by_order (inr l) (inr g) = other_seats d.name e.name s t unlike (omega arith)

    both_dummies : (s : Seated d.name) → Place d.name s → (t : Seated e.name) → Place e.name t → ⊥
    both_dummies s (new y q p) t (new z r o) = new_apart s t y z q r p o
    both_dummies s (new y q p) t (old f r o) =
        let l = old_within t.actual f (old_of e.name t f r) in let m = (inside_by k _ _ p a).0 in let x = (inside_by k _ _ o b).1 in absurd (omega arith)
    both_dummies s (old f q p) t (new z r o) =
        let l = old_within s.actual f (old_of d.name s f q) in let m = (inside_by k _ _ o b).0 in let x = (inside_by k _ _ p a).1 in absurd (omega arith)
    both_dummies s (old f q p) t (old g r o) =
        let x : Bare d.name s = bare d.name s h in
        let y : IsOld c.caller env t.actual g = old_of e.name t g r in
        let not_there : mentions t.actual x.name ≡ false =
        of_call.smashed.once t.at s.at d.name x.name t.actual (λ same_at. other_seats d.name e.name s t unlike (sym same_at)) s.dummy h (s.is_actual ∙ ap Some x.is) t.is_actual in
        placed.apart x.has.its y.its x.has.among y.among x.smashed
        (λ same_names. clash (mentions t.actual x.name) (subst (λ (z : Name). mentions t.actual z ≡ true) (sym same_names ∙ x.has.name) y.mentioned) not_there) k
        (inside_by k _ _ (bare_cells d.name s x f q) (inside_by k _ _ p a)) (old_inside k t.actual g y (inside_by k _ _ o b))

    apart_by : Root d → Root e → ⊥
    apart_by (common r s) (common q t) = both_shared s t r
    apart_by (common r s) (dummy q t agree) = shared_dummy s r t (place_of e.name t)
    apart_by (dummy r s agree) (common q t) = dummy_shared s (place_of d.name s) t q
    apart_by (dummy r s agree) (dummy q t agree2) = both_dummies s (place_of d.name s) t (place_of e.name t)

  pub callee_apart : IsApart units j c.callee inner
  callee_apart d e v w h unlike k a b = apart_by d e v w h unlike k a b (root d v) (root e w)

  -- ---- shapes of the visible names of the called unit

  place_at : (z : Name) (n : ℕ) (x : Taken) → slice_get c.callee.dummies n ≡ Some z → slice_get xs n ≡ Some x → inner z ≡ seat (passed_by (copies (1 + n)) x) (length st + widths ps n)
  place_at z n x is_dummy is_taken = extents_at c.callee.dummies (seats ps (length st)) env n z _ of_callee.one_dummy is_dummy (seat_at ps (length st) n _ (passed_at copies 1 xs n x is_taken))

  -- the cell of a dummy that is a dimension
  constant_cell : (z : Name) (n m : ℕ) (x : Taken) → slice_get c.callee.dummies n ≡ Some z → slice_get xs n ≡ Some x → x ≡ Fresh (Int (pos m)) → load begun (inner z).first ≡ Int (pos m)
  constant_cell z n m x is_dummy is_taken e =
      let got : slice_get xs n ≡ Some (Fresh (Int (pos m))) = is_taken ∙ ap Some e in
      ap (λ (f : Extent). load begun f.first) (place_at z n _ is_dummy got) ∙ (new_at (widths ps n) ∙ value_holds st ps n (Int (pos m)) (passed_at copies 1 xs n _ got))

  variable_cell : (z : Name) (n : ℕ) (y : Name) (x : Taken) → slice_get c.callee.dummies n ≡ Some z → slice_get xs n ≡ Some x → x ≡ Cells (env y) → HasName c.caller y → load begun (inner z).first ≡ load st (env y).first
  variable_cell z n y x is_dummy is_taken e has = by_way (copies (1 + n)) refl
    where
      got : slice_get xs n ≡ Some (Cells (env y))
      got = is_taken ∙ ap Some e

      one : 1 ≤ (env y).size
      one = subst (λ (w : Name). 1 ≤ (env w).size) has.name (one_cell units i c.caller of_caller env st placed has.its has.among)

      within : (env y).first + (env y).size ≤ length st
      within = subst (λ (w : Name). (env w).first + (env w).size ≤ length st) has.name (placed.shapes has.its has.among).within

      by_way : (t : Bool) → copies (1 + n) ≡ t → load begun (inner z).first ≡ load st (env y).first
      by_way false q =
          ap (λ (f : Extent). load begun f.first) (place_at z n _ is_dummy got ∙ ap (λ (b : Bool). seat (passed_by b (Cells (env y))) (length st + widths ps n)) q)
          ∙ same_below (env y).first (let a = one in let b = within in omega arith)
      by_way true q =
          let zero_more : widths ps n ≡ widths ps n + 0 = omega arith in
          let first_more : (env y).first + 0 ≡ (env y).first = omega arith in
          ap (λ (f : Extent). load begun f.first) (place_at z n _ is_dummy got ∙ ap (λ (b : Bool). seat (passed_by b (Cells (env y))) (length st + widths ps n)) q)
          ∙ (new_at (widths ps n) ∙ (ap (load (new_cells st ps)) zero_more
          ∙ (copy_holds st ps n (env y) 0 (passed_at copies 1 xs n _ got ∙ ap (λ (b : Bool). Some (passed_by b (Cells (env y)))) q) (let a = one in omega arith) ∙ ap (load st) first_more)))

  abbrev Agreed : Dim → Dim → Type 0
  Agreed a b = (dim_value inner begun a ≡ dim_value env st b) × (is_good_dim inner begun a ≡ true)

  agree_one : (a b : Dim) → DimAgrees c.callee c.site.actuals a b → is_good_dim env st b ≡ true → ((m : ℕ) → b ≡ Fixed m → 1 ≤ m) → Agreed a b
  agree_one (Fixed n) b h good const = (ap (dim_value env st) (sym h), refl)
  agree_one (Named z) b h good const = by_case (dim_case h.1 b h.4)
    where
      x : (t : Taken) × (slice_get xs h.0 ≡ Some t) × IsTakenAs env (IsPart c.caller env) h.1 t
      x = fit_at env (IsPart c.caller env) c.site.actuals xs h.0 h.1 fit h.3

      by_case : DimCase h.1 b → Agreed (Named z) b
      by_case (constant m e q) =
          let t : x.0 ≡ Fresh (Int (pos m)) = subst (λ (f : Expr). IsTakenAs env (IsPart c.caller env) f x.0) e x.2 in
          let cell : load begun (inner z).first ≡ Int (pos m) = constant_cell z h.0 m x.0 h.2 x.1 t in
          (ap num cell ∙ ap (dim_value env st) (sym q), ap is_positive cell ∙ positive_constant m (const m q))
      by_case (variable y e q) =
          let t : x.0 ≡ Cells (env y) = subst (λ (f : Expr). IsTakenAs env (IsPart c.caller env) f x.0) e x.2 in
          let cell : load begun (inner z).first ≡ load st (env y).first = variable_cell z h.0 y x.0 h.2 x.1 t (of_call.names h.0 y (h.3 ∙ ap Some e)) in
          (ap num cell ∙ ap (dim_value env st) (sym q), ap is_positive cell ∙ (ap (is_good_dim env st) (sym q) ∙ good))

  agree_all : (ds bs : List Dim) → DimsAgree c.callee c.site.actuals ds bs → list_all (is_good_dim env st) bs ≡ true → ((m : ℕ) → IsAmong (Fixed m) bs → 1 ≤ m)
      → (dim_values inner begun ds ≡ dim_values env st bs) × (list_all (is_good_dim inner begun) ds ≡ true)
  agree_all [] [] h good const = (refl, refl)
  agree_all [] (b ∷ bs) h good const = absurd h
  agree_all (a ∷ ds) [] h good const = absurd h
  agree_all (a ∷ ds) (b ∷ bs) h good const =
      let g = both_true (is_good_dim env st b) (list_all (is_good_dim env st) bs) good in
      let first : Agreed a b = agree_one a b h.0 g.0 (λ m q. const m (0, ap Some q)) in
      let rest = agree_all ds bs h.1 g.1 (λ m k. const m (suc k.0, k.1)) in (
        ap (λ (z : ℤ). z ∷ dim_values inner begun ds) first.0 ∙ ap (λ (zs : List ℤ). dim_value env st b ∷ zs) rest.0,
        ap (λ (t : Bool). t && list_all (is_good_dim inner begun) ds) first.1 ∙ rest.1,
      )

  -- the size and the dimensions of an actual
  record ActualShape (e : Expr) (x : Taken) : Type 0 where
    size : pos (taken_size x) ≡ stretch (dim_values env st (dims_of_actual c.caller e))
    good : list_all (is_good_dim env st) (dims_of_actual c.caller e) ≡ true
    constants : (m : ℕ) → IsAmong (Fixed m) (dims_of_actual c.caller e) → 1 ≤ m

  whole_shape : (y : Name) (x : Taken) → HasName c.caller y → x ≡ Cells (env y) → ActualShape (Var y) x
  whole_shape y x has q =
      let dims : has.its.dims ≡ dims_of c.caller y = ap dims_of_data (sym (found units i c.caller of_caller has.its has.among y has.name)) in
      let shape : HasShape env st has.its = placed.shapes has.its has.among in
      record {
        size = ap (λ (t : Taken). pos (taken_size t)) q ∙ (ap (λ (w : Name). pos (env w).size) (sym has.name) ∙ (shape.size ∙ ap (λ (ds : List Dim). stretch (dim_values env st ds)) dims));
        good = subst (λ (ds : List Dim). list_all (is_good_dim env st) ds ≡ true) dims shape.dims;
        constants = subst (λ (ds : List Dim). (m : ℕ) → IsAmong (Fixed m) ds → 1 ≤ m) dims (λ m k. of_caller.constants has.its m has.among k);
      }

  part_shape : (e : Expr) (x : Taken) → dims_of_actual c.caller e ≡ [] → taken_size x ≡ 1 → ActualShape e x
  part_shape e x q one = record {
    size = ap pos one ∙ ap (λ (ds : List Dim). stretch (dim_values env st ds)) (sym q);
    good = subst (λ (ds : List Dim). list_all (is_good_dim env st) ds ≡ true) (sym q) refl;
    constants = subst (λ (ds : List Dim). (m : ℕ) → IsAmong (Fixed m) ds → 1 ≤ m) (sym q) (λ m k. absurd (cc));
  }

  actual_shape : (d : Name) (s : Seated d) → ActualShape s.actual s.taken
  actual_shape d s = by_kind (whole_or_not c.caller s.actual)
    where
      by_kind : ((y : Name) × (s.actual ≡ Var y)) ⊎ ((dims_of_actual c.caller s.actual ≡ []) × ((y : Name) → s.actual ≡ Var y → ⊥)) → ActualShape s.actual s.taken
      by_kind (inl w) =
          subst (λ (f : Expr). ActualShape f s.taken) (sym w.1)
          (whole_shape w.0 s.taken (of_call.names s.at w.0 (s.is_actual ∙ ap Some w.1)) (subst (λ (f : Expr). IsTakenAs env (IsPart c.caller env) f s.taken) w.1 s.fits))
      by_kind (inr w) = part_shape s.actual s.taken w.0 (part_size c.caller env s.actual s.taken w.0 w.1 s.fits)

  dummy_within : (d : Name) (s : Seated d) → Place d s → (inner d).first + (inner d).size ≤ length begun
  dummy_within d s (old e q p) = subst (λ (f : Extent). f.first + f.size ≤ length begun) (sym p) (let w = old_within s.actual e (old_of d s e q) in let l = long in omega arith)
  dummy_within d s (new y q p) = subst (λ (f : Extent). f.first + f.size ≤ length begun) (sym p) (let w = length-new_cells st ps s.at y q in let l = long in omega arith)

  shape_by : (d : DataName) → IsVisible c.callee d → Root d → HasShape inner begun d
  shape_by d v (common r s) =
      let none_named : (x : Name) → IsAmong (Named x) d.dims → ⊥ = λ x m. roles_differ d.role r (of_callee.adjustables d x v.among m).array_is_dummy in
      let shape : HasShape env st s.its = placed.shapes s.its s.among in
      record {
        within = subst (λ (f : Extent). f.first + f.size ≤ length begun) (ap env s.name ∙ sym s.place) (let w = shape.within in let l = long in omega arith);
        size = ap (λ (f : Extent). pos f.size) (s.place ∙ ap env (sym s.name))
            ∙ (shape.size ∙ (ap (λ (ds : List Dim). stretch (dim_values env st ds)) s.dims ∙ ap stretch (sym (fixed_values env inner st begun d.dims none_named))));
        dims = fixed_good inner begun d.dims none_named;
      }
  shape_by d v (dummy r s agree) =
      let a : ActualShape s.actual s.taken = actual_shape d.name s in
      let g = agree_all d.dims (dims_of_actual c.caller s.actual) agree a.good a.constants in
      record {
        within = dummy_within d.name s (place_of d.name s);
        size = ap (λ (f : Extent). pos f.size) s.place ∙ (ap pos (seat_size (copies (1 + s.at)) s.taken (length st + widths ps s.at)) ∙ (a.size ∙ ap stretch (sym g.0)));
        dims = g.1;
      }

  pub callee_shapes : (d : DataName) → IsVisible c.callee d → HasShape inner begun d
  callee_shapes d v = shape_by d v (root d v)
