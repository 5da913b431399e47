-- Entering and leaving a unit: its names have their places, and leaving drops the new cells.
use Rattle.std.proofs.Common.{◌≡◌, ◌≢◌, ℕ, zero, suc, ◌+◌, ◌<◌, ◌≤◌, ◌⊎◌, inl, inr, Bool, true, false, cond, ◌&&◌, ℤ, pos, List, [], ◌∷◌, ◌++◌, map, sum, length, take, replicate, Some, refl, sym, ap, ◌∙◌, subst, arith, length-append, length-take-le, get_or-take}
use Rattle.std.proofs.lemmas.List.{get_or_append_left}
use Rattle.std.specs.Cmp.Lexicographic.{same_text, other_text}
use Rattle.std.specs.List.{fold, list_all}
use Rattle.formula.specs.Atoms.{same_bytes}
use Rattle.fort_syntax.specs.Names.{is_own, own_in, own_names}
use Rattle.formula.specs.declared.value.Cell.TheVariants.{Undefined}
use Rattle.fort_syntax.specs.declared.name.Name.{Name}
use Rattle.fort_syntax.specs.declared.stmt.Dim.{Dim}
use Rattle.fort_syntax.specs.declared.stmt.Dim.TheVariants.{Fixed, Named}
use Rattle.fort_syntax.specs.declared.unit.DataName.{DataName}
use Rattle.fort_syntax.specs.declared.unit.Role.{Role}
use Rattle.fort_syntax.specs.declared.unit.Role.TheVariants.{Dummy}
use Rattle.fort_syntax.specs.declared.unit.Unit.{Unit as Routine}
use Rattle.fort_model.specs.Cells.{num}
use Rattle.fort_model.specs.Fits.{IsIn, IsVisible, IsApart, HasShape, is_good_dim, is_positive}
use Rattle.fort_model.specs.Lists.{IsAmong}
use Rattle.fort_model.specs.Places.{dim_value, dim_values, stretch, size_of}
use Rattle.fort_model.specs.Run.{own_sizes}
use Rattle.fort_model.specs.Smashes.{Smashes}
use Rattle.fort_model.specs.Storage.{Storage, Extent, Environment, load, with_extents, side_by_side}
use Rattle.fort_laws.specs.Frame.{IsPlaced, IsAdjustable, IsSoundUnit, IsSmashedCell, OthersKept}
use Rattle.fort_laws.proofs.FrameParts.{good_dims, size_of_stretch, IsOpen, Framed, Late, size_positive}

-- ---- equal names

pub data SameOrNot (x y : Name) : Type 0 where
  same : x ≡ y → same_bytes x y ≡ true → SameOrNot x y
  other : x ≢ y → same_bytes x y ≡ false → SameOrNot x y

pub same_or_not : (x y : Name) → SameOrNot x y
same_or_not x y = by_test (same_bytes x y) refl
  where
    by_test : (t : Bool) → same_bytes x y ≡ t → SameOrNot x y
    by_test true e = same (same_text x y (sym e)) e
    by_test false e = other (other_text x y (sym e)) e

fold_more : (a : ℕ) (xs : List ℕ) → fold (λ (s : ℕ) (x : ℕ). s + x) a xs ≡ a + fold (λ (s : ℕ) (x : ℕ). s + x) 0 xs
fold_more a [] = omega arith
fold_more a (x ∷ xs) = let p = fold_more (a + x) xs in let q = fold_more (0 + x) xs in omega arith

pub sum_more : (x : ℕ) (xs : List ℕ) → sum (x ∷ xs) ≡ x + sum xs
sum_more x xs = let q = fold_more (0 + x) xs in omega arith

-- ---- extents side by side

module _ (size : DataName → ℕ) (env : Environment) where
  abbrev pub placed_at : List DataName → ℕ → Environment
  placed_at ds next x = with_extents (map (λ d. d.name) ds) (side_by_side (map size ds) next) env x

  head_same : (d : DataName) (ds : List DataName) (next : ℕ) (x : Name) → same_bytes d.name x ≡ true → placed_at (d ∷ ds) next x ≡ record { first = next; size = size d }
  head_same d ds next x e = ap (λ (t : Bool). cond t (record { first = next; size = size d }) (placed_at ds (next + size d) x)) e

  head_other : (d : DataName) (ds : List DataName) (next : ℕ) (x : Name) → same_bytes d.name x ≡ false → placed_at (d ∷ ds) next x ≡ placed_at ds (next + size d) x
  head_other d ds next x e = ap (λ (t : Bool). cond t (record { first = next; size = size d }) (placed_at ds (next + size d) x)) e

  -- a name among some
  abbrev pub IsOf : Name → List DataName → Type 0
  IsOf x ds = (d : DataName) × IsAmong d ds × (d.name ≡ x)

  rest_of : (d : DataName) (ds : List DataName) (x : Name) → d.name ≢ x → IsOf x (d ∷ ds) → IsOf x ds
  rest_of d ds x unlike (e, (zero, q), is) = let f : d ≡ e = cc in absurd (unlike (ap (λ (z : DataName). z.name) f ∙ is))
  rest_of d ds x unlike (e, (suc j, q), is) = (e, (j, q), is)

  pub record PlacedAt (ds : List DataName) (next : ℕ) (x : Name) (e : Extent) : Type 0 where
    pub its : DataName
    pub among : IsAmong its ds
    pub name : its.name ≡ x
    pub size_is : e.size ≡ size its
    pub low : next ≤ e.first
    pub high : e.first + e.size ≤ next + sum (map size ds)

  pub placed_name : (ds : List DataName) (next : ℕ) (x : Name) → IsOf x ds → PlacedAt ds next x (placed_at ds next x)
  placed_name [] next x h = absurd (cc)
  placed_name (d ∷ ds) next x h = by_name (same_or_not d.name x) (λ unlike. placed_name ds (next + size d) x (rest_of d ds x unlike h))
    where
      sums : sum (map size (d ∷ ds)) ≡ size d + sum (map size ds)
      sums = sum_more (size d) (map size ds)

      by_name : SameOrNot d.name x → (d.name ≢ x → PlacedAt ds (next + size d) x (placed_at ds (next + size d) x)) → PlacedAt (d ∷ ds) next x (placed_at (d ∷ ds) next x)
      by_name (same e t) rec = subst (λ (z : Extent). PlacedAt (d ∷ ds) next x z) (sym (head_same d ds next x t))
          (record { its = d; among = (0, refl); name = e; size_is = refl; low = omega arith; high = let s = sums in omega arith })
      by_name (other unlike t) rec =
          let r = rec unlike in
          subst (λ (z : Extent). PlacedAt (d ∷ ds) next x z) (sym (head_other d ds next x t))
          (record { its = r.its; among = (suc r.among.0, r.among.1); name = r.name; size_is = r.size_is; low = let l = r.low in omega arith; high = let l = r.high in let s = sums in omega arith })

  pub absent : (ds : List DataName) (next : ℕ) (x : Name) → ((d : DataName) → IsAmong d ds → d.name ≢ x) → placed_at ds next x ≡ env x
  absent [] next x unlike = refl
  absent (d ∷ ds) next x unlike = by_name (same_or_not d.name x) (absent ds (next + size d) x (λ e m. unlike e (suc m.0, m.1)))
    where
      by_name : SameOrNot d.name x → placed_at ds (next + size d) x ≡ env x → placed_at (d ∷ ds) next x ≡ env x
      by_name (same e t) rec = absurd (unlike d (0, refl) e)
      by_name (other n t) rec = head_other d ds next x t ∙ rec

  pub placed_apart : (ds : List DataName) (next : ℕ) (x y : Name) → IsOf x ds → IsOf y ds → x ≢ y → (k : ℕ) → IsIn k (placed_at ds next x) → IsIn k (placed_at ds next y) → ⊥
  placed_apart [] next x y hx hy unlike k a b = absurd (cc)
  placed_apart (d ∷ ds) next x y hx hy unlike k a b =
      by_names (same_or_not d.name x) (same_or_not d.name y)
      (λ nx ny. placed_apart ds (next + size d) x y (rest_of d ds x nx hx) (rest_of d ds y ny hy) unlike k)
    where
      by_names : SameOrNot d.name x → SameOrNot d.name y → (d.name ≢ x → d.name ≢ y → IsIn k (placed_at ds (next + size d) x) → IsIn k (placed_at ds (next + size d) y) → ⊥) → ⊥
      by_names (same ex tx) (same ey ty) rec = unlike (sym ex ∙ ey)
      by_names (same ex tx) (other ny ty) rec =
          let p : PlacedAt ds (next + size d) y (placed_at ds (next + size d) y) = placed_name ds (next + size d) y (rest_of d ds y ny hy) in
          let a2 : IsIn k (record { first = next; size = size d }) = subst (λ (z : Extent). IsIn k z) (head_same d ds next x tx) a in
          let b2 : IsIn k (placed_at ds (next + size d) y) = subst (λ (z : Extent). IsIn k z) (head_other d ds next y ty) b in
          let u = a2.1 in let v = b2.0 in let w = p.low in absurd (omega arith)
      by_names (other nx tx) (same ey ty) rec =
          let p : PlacedAt ds (next + size d) x (placed_at ds (next + size d) x) = placed_name ds (next + size d) x (rest_of d ds x nx hx) in
          let a2 : IsIn k (placed_at ds (next + size d) x) = subst (λ (z : Extent). IsIn k z) (head_other d ds next x tx) a in
          let b2 : IsIn k (record { first = next; size = size d }) = subst (λ (z : Extent). IsIn k z) (head_same d ds next y ty) b in
          let u = b2.1 in let v = a2.0 in let w = p.low in absurd (omega arith)
      by_names (other nx tx) (other ny ty) rec =
          rec nx ny (subst (λ (z : Extent). IsIn k z) (head_other d ds next x tx) a) (subst (λ (z : Extent). IsIn k z) (head_other d ds next y ty) b)

-- ---- own names

own_more : (t : Bool) (d e : DataName) (fewer ds : List DataName) → is_own e.role ≡ t → IsAmong d (cond t (e ∷ fewer) fewer)
    → (IsAmong d fewer → IsAmong d ds × (is_own d.role ≡ true)) → IsAmong d (e ∷ ds) × (is_own d.role ≡ true)
own_more true d e fewer ds own (zero, q) rec = let f : e ≡ d = cc in ((0, q), ap (λ (z : DataName). is_own z.role) (sym f) ∙ own)
own_more true d e fewer ds own (suc j, q) rec = let r = rec (j, q) in ((suc r.0.0, r.0.1), r.1)
own_more false d e fewer ds own m rec = let r = rec m in ((suc r.0.0, r.0.1), r.1)

pub own_among : (ds : List DataName) (d : DataName) → IsAmong d (own_in ds) → IsAmong d ds × (is_own d.role ≡ true)
own_among [] d m = absurd (cc)
own_among (e ∷ ds) d m = own_more (is_own e.role) d e (own_in ds) ds refl m (own_among ds d)

more_own : (t : Bool) (d e : DataName) (fewer : List DataName) → IsAmong d fewer → IsAmong d (cond t (e ∷ fewer) fewer)
more_own true d e fewer m = (suc m.0, m.1)
more_own false d e fewer m = m

pub among_own : (ds : List DataName) (d : DataName) → IsAmong d ds → is_own d.role ≡ true → IsAmong d (own_in ds)
among_own [] d m own = absurd (cc)
among_own (e ∷ ds) d (zero, q) own =
    let f : e ≡ d = cc in
    subst (λ (t : Bool). IsAmong d (cond t (e ∷ own_in ds) (own_in ds))) (sym (ap (λ (z : DataName). is_own z.role) f ∙ own)) (0, ap Some f)
among_own (e ∷ ds) d (suc j, q) own = more_own (is_own e.role) d e (own_in ds) (among_own ds d (j, q) own)

pub own_or_not : (d : DataName) → (is_own d.role ≡ true) ⊎ (is_own d.role ≡ false)
own_or_not d = by_test (is_own d.role) refl
  where
    by_test : (t : Bool) → is_own d.role ≡ t → (is_own d.role ≡ true) ⊎ (is_own d.role ≡ false)
    by_test true e = inl e
    by_test false e = inr e

pub fixed_good : (env : Environment) (st : Storage) (ds : List Dim) → ((x : Name) → IsAmong (Named x) ds → ⊥) → list_all (is_good_dim env st) ds ≡ true
fixed_good env st [] unlike = refl
fixed_good env st (Fixed n ∷ ds) unlike = fixed_good env st ds (λ x m. unlike x (suc m.0, m.1))
fixed_good env st (Named x ∷ ds) unlike = absurd (unlike x (0, refl))

-- ---- the unit that is entered

module _ (units : List Routine) (i : ℕ) (u : Routine) (sound : IsSoundUnit units i u) (env : Environment) (st : Storage)
    (apart : IsApart units i u env) (shapes : (d : DataName) → IsVisible u d → HasShape env st d) where
  abbrev own_size : DataName → ℕ
  own_size d = size_of (dim_values env st d.dims)

  abbrev pub own_env : Environment
  own_env x = with_extents (map (λ d. d.name) (own_names u)) (side_by_side (own_sizes u env st) (length st)) env x

  abbrev pub entered : Storage
  entered = st ++ replicate (sum (own_sizes u env st)) Undefined

  pub long : length entered ≡ length st + sum (own_sizes u env st)
  long = length-append st (replicate (sum (own_sizes u env st)) Undefined) ∙ ap (λ (z : ℕ). length st + z) (length_copies (sum (own_sizes u env st)))
    where
      length_copies : (n : ℕ) → length (replicate n Undefined) ≡ n
      length_copies zero = refl
      length_copies (suc n) = ap suc (length_copies n)

  pub same_below : (k : ℕ) → k < length st → load entered k ≡ load st k
  same_below k lt = get_or_append_left st (replicate (sum (own_sizes u env st)) Undefined) Undefined k lt

  clash : (r : Bool) → r ≡ true → r ≡ false → ⊥
  clash r a b = cc

  pub visible_env : (d : DataName) → IsAmong d u.names → is_own d.role ≡ false → own_env d.name ≡ env d.name
  visible_env d m v = absent own_size env (own_names u) (length st) d.name (λ e o same.
      let r = own_among u.names e o in
      clash (is_own d.role) (ap (λ (z : DataName). is_own z.role) (sym (sound.one_name e d r.0 m same)) ∙ r.1) v)

  pub own_place : (d : DataName) → IsAmong d u.names → is_own d.role ≡ true → PlacedAt own_size env (own_names u) (length st) d.name (own_env d.name)
  own_place d m o = placed_name own_size env (own_names u) (length st) d.name (d, among_own u.names d m o, refl)

  visible_within : (d : DataName) → IsAmong d u.names → is_own d.role ≡ false → (own_env d.name).first + (own_env d.name).size ≤ length st
  visible_within d m v = subst (λ (z : Extent). z.first + z.size ≤ length st) (sym (visible_env d m v)) (shapes d (record { among = m; not_own = v })).within

  -- the cell of an adjustable dimension
  adjustable_env : (d : DataName) (x : Name) → IsAmong d u.names → IsAmong (Named x) d.dims → (own_env x ≡ env x) × (load entered (env x).first ≡ load st (env x).first)
  adjustable_env d x m k =
      let a : IsAdjustable units i u d x = sound.adjustables d x m k in
      let v : is_own a.has.its.role ≡ false = ap is_own a.is_dummy in
      let shape : HasShape env st a.has.its = shapes a.has.its (record { among = a.has.among; not_own = v }) in
      let one : 1 ≤ (env a.has.its.name).size = size_positive (env a.has.its.name).size [] (shape.size ∙ ap (λ (ds : List Dim). stretch (dim_values env st ds)) a.is_scalar) tt in (
        subst (λ (z : Name). own_env z ≡ env z) a.has.name (visible_env a.has.its a.has.among v),
        same_below (env x).first (subst (λ (z : Name). (env z).first < length st) a.has.name (let w = shape.within in omega arith)),
      )

  same_dim : (d : DataName) → IsAmong d u.names → (dim : Dim) → IsAmong dim d.dims → dim_value own_env entered dim ≡ dim_value env st dim
  same_dim d m (Fixed n) k = refl
  same_dim d m (Named x) k = let a = adjustable_env d x m k in ap num (ap (λ (z : Extent). load entered z.first) a.0 ∙ a.1)

  same_good : (d : DataName) → IsAmong d u.names → (dim : Dim) → IsAmong dim d.dims → is_good_dim own_env entered dim ≡ is_good_dim env st dim
  same_good d m (Fixed n) k = refl
  same_good d m (Named x) k = let a = adjustable_env d x m k in ap is_positive (ap (λ (z : Extent). load entered z.first) a.0 ∙ a.1)

  values_same : (d : DataName) → IsAmong d u.names → dim_values own_env entered d.dims ≡ dim_values env st d.dims
  values_same d m = mapped d.dims (same_dim d m)
    where
      mapped : (ds : List Dim) → ((dim : Dim) → IsAmong dim ds → dim_value own_env entered dim ≡ dim_value env st dim) → dim_values own_env entered ds ≡ dim_values env st ds
      mapped [] h = refl
      mapped (e ∷ ds) h = ap (λ (z : ℤ). z ∷ dim_values own_env entered ds) (h e (0, refl)) ∙ ap (λ (zs : List ℤ). dim_value env st e ∷ zs) (mapped ds (λ f n. h f (suc n.0, n.1)))

  good_same : (d : DataName) → IsAmong d u.names → list_all (is_good_dim env st) d.dims ≡ true → list_all (is_good_dim own_env entered) d.dims ≡ true
  good_same d m h = mapped d.dims (same_good d m) ∙ h
    where
      mapped : (ds : List Dim) → ((dim : Dim) → IsAmong dim ds → is_good_dim own_env entered dim ≡ is_good_dim env st dim) → list_all (is_good_dim own_env entered) ds ≡ list_all (is_good_dim env st) ds
      mapped [] h = refl
      mapped (e ∷ ds) h = ap (λ (b : Bool). b && list_all (is_good_dim own_env entered) ds) (h e (0, refl))
          ∙ ap (λ (b : Bool). is_good_dim env st e && b) (mapped ds (λ f n. h f (suc n.0, n.1)))

  dummy_not_own : (r : Role) → r ≡ Dummy → is_own r ≡ true → ⊥
  dummy_not_own r e o = clash (is_own r) o (ap is_own e)

  own_good : (d : DataName) → IsAmong d u.names → is_own d.role ≡ true → list_all (is_good_dim env st) d.dims ≡ true
  own_good d m o = fixed_good env st d.dims (λ x k. dummy_not_own d.role (sound.adjustables d x m k).array_is_dummy o)

  shape_of : (d : DataName) → IsAmong d u.names → (is_own d.role ≡ true) ⊎ (is_own d.role ≡ false) → HasShape own_env entered d
  shape_of d m (inr v) =
      let s : HasShape env st d = shapes d (record { among = m; not_own = v }) in
      record {
        within = let w = visible_within d m v in let l = long in omega arith;
        size = ap (λ (z : Extent). pos z.size) (visible_env d m v) ∙ (s.size ∙ ap stretch (sym (values_same d m)));
        dims = good_same d m s.dims;
      }
  shape_of d m (inl o) =
      let p = own_place d m o in
      let e : p.its ≡ d = sound.one_name p.its d (own_among u.names p.its p.among).0 m p.name in
      let good : list_all (is_good_dim env st) d.dims ≡ true = own_good d m o in
      record {
        within = let h = p.high in let l = long in omega arith;
        size = ap pos (p.size_is ∙ ap own_size e) ∙ (size_of_stretch (dim_values env st d.dims) (good_dims env st d.dims (λ n k. sound.constants d n m k) good) ∙ ap stretch (sym (values_same d m)));
        dims = good_same d m good;
      }

  apart_of : (d e : DataName) → IsAmong d u.names → IsAmong e u.names → Smashes units i d.name → d.name ≢ e.name → (k : ℕ) → IsIn k (own_env d.name) → IsIn k (own_env e.name)
      → (is_own d.role ≡ true) ⊎ (is_own d.role ≡ false) → (is_own e.role ≡ true) ⊎ (is_own e.role ≡ false) → ⊥
  apart_of d e m n s unlike k a b (inr v) (inr w) =
      apart d e (record { among = m; not_own = v }) (record { among = n; not_own = w }) s unlike k
      (subst (λ (z : Extent). IsIn k z) (visible_env d m v) a) (subst (λ (z : Extent). IsIn k z) (visible_env e n w) b)
  apart_of d e m n s unlike k a b (inr v) (inl o) = let x = visible_within d m v in let p = (own_place e n o).low in let q = a.1 in let r = b.0 in absurd (omega arith)
  apart_of d e m n s unlike k a b (inl o) (inr v) = let x = visible_within e n v in let p = (own_place d m o).low in let q = b.1 in let r = a.0 in absurd (omega arith)
  apart_of d e m n s unlike k a b (inl o) (inl o2) =
      placed_apart own_size env (own_names u) (length st) d.name e.name (d, among_own u.names d m o, refl) (e, among_own u.names e n o2, refl) unlike k a b

  pub entered_placed : IsPlaced units i u own_env entered
  entered_placed = record {
    apart = λ d e m n s unlike k a b. apart_of d e m n s unlike k a b (own_or_not d) (own_or_not e);
    shapes = λ d m. shape_of d m (own_or_not d);
  }

  -- ---- what the caller sees

  open_smashed : (k : ℕ) → k < length st → IsOpen units i u own_env k → IsSmashedCell units i u env k
  open_smashed k lt o = pick (own_or_not o.its)
    where
      pick : (is_own o.its.role ≡ true) ⊎ (is_own o.its.role ≡ false) → IsSmashedCell units i u env k
      pick (inl w) = let p = (own_place o.its o.among w).low in let c = o.cell.0 in absurd (omega arith)
      pick (inr v) = record { its = o.its; visible = record { among = o.among; not_own = v }; smashed = o.smashed; cell = subst (λ (z : Extent). IsIn k z) (visible_env o.its o.among v) o.cell }

  pub seen_others : (after : Storage) → OthersKept (IsOpen units i u own_env) entered after → OthersKept (IsSmashedCell units i u env) st after
  seen_others after h k lt unlike = h k (let l = long in omega arith) (λ o. unlike (open_smashed k lt o)) ∙ same_below k lt

  pub seen_late : (after : Storage) → Late (IsOpen units i u own_env) entered after → Late (IsSmashedCell units i u env) st after
  seen_late after h = (let a = h.0 in let l = long in omega arith, seen_others after h.1)

  pub seen_left : (after : Storage) → Framed (IsOpen units i u own_env) entered after → Framed (IsSmashedCell units i u env) st (take (length st) after)
  seen_left after h = (
    length-take-le (length st) after (let a = h.0 in let l = long in omega arith),
    λ k lt unlike. get_or-take (length st) after k Undefined lt ∙ seen_others after h.1 k lt unlike,
  )
